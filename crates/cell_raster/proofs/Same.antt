-- The test of cells tells them apart.
use Rattle.std.proofs.Common.{◌≡◌, ◌==◌, Bool, true, false, not, ◌&&◌, refl, sym, ap}
use Rattle.std.proofs.lemmas.Bool.{false≢true}
use Rattle.std.proofs.lemmas.Bool.Decides.{Decides-and, Decides-eqb, Decides-like}
use Rattle.std.proofs.lemmas.Slice.Eq.{bytes_eq-Decides}
use Rattle.std.specs.Bool.{Decides}
use Rattle.std.specs.Str.{bytes_eq}
use Rattle.cell_raster.specs.declared.cell.Cell.{Cell}
use Rattle.cell_raster.specs.declared.cell.Glyph.{Glyph}
use Rattle.cell_raster.specs.declared.cell.Glyph.TheVariants.{Blank, Part}
use Rattle.cell_raster.specs.Cell.{same_glyph, differs}

glyphs_decide : (g h : Glyph) → Decides (same_glyph g h) (g ≡ h)
glyphs_decide Blank Blank = (λ e. refl, λ e. refl)
glyphs_decide Blank (Part d q) = (λ e. absurd (false≢true e), λ e. absurd (let no : ⊥ = cc in no))
glyphs_decide (Part c p) Blank = (λ e. absurd (false≢true e), λ e. absurd (let no : ⊥ = cc in no))
glyphs_decide (Part c p) (Part d q) =
    Decides-like {P = (c ≡ d) × (p ≡ q)} {Q = Part c p ≡ Part d q} (bytes_eq c d && p == q)
    (λ both i. Part (both.0 i) (both.1 i))
    (λ e. (let first : c ≡ d = cc in first, let second : p ≡ q = cc in second))
    (Decides-and (bytes_eq c d) (p == q) (bytes_eq-Decides c d) (Decides-eqb p q))

abbrev same_test : Cell → Cell → Bool
same_test a b = (a.back == b.back && a.ink == b.ink) && same_glyph a.glyph b.glyph

cells_decide : (a b : Cell) → Decides (same_test a b) (a ≡ b)
cells_decide a b =
    Decides-like {P = ((a.back ≡ b.back) × (a.ink ≡ b.ink)) × (a.glyph ≡ b.glyph)} {Q = a ≡ b} (same_test a b)
    (λ all i. record { back = all.0.0 i; ink = all.0.1 i; glyph = all.1 i })
    (λ e. ((ap (λ (c : Cell). c.back) e, ap (λ (c : Cell). c.ink) e), ap (λ (c : Cell). c.glyph) e))
    (Decides-and (a.back == b.back && a.ink == b.ink) (same_glyph a.glyph b.glyph)
    (Decides-and (a.back == b.back) (a.ink == b.ink) (Decides-eqb a.back b.back) (Decides-eqb a.ink b.ink))
    (glyphs_decide a.glyph b.glyph))

told_same : {P : Type 0} (t : Bool) → Decides t P → not t ≡ false → P
told_same true d e = d.0 refl
told_same false d e = absurd (false≢true (sym e))

told_apart : {P : Type 0} (t : Bool) → Decides t P → not t ≡ true → P → ⊥
told_apart true d e p = false≢true e
told_apart false d e p = false≢true (d.1 p)

pub same : (a b : Cell) → differs a b ≡ false → a ≡ b
same a b = told_same (same_test a b) (cells_decide a b)

pub apart : (a b : Cell) → differs a b ≡ true → a ≡ b → ⊥
apart a b = told_apart (same_test a b) (cells_decide a b)

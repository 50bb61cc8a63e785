-- The digits of a color, the last one first.
use Rattle.std.proofs.Common.{◌≡◌, ℕ, suc, ◌+◌, ◌-◌, ◌/◌, ◌%◌, ◌<◌, arith, false, List, [], ◌∷◌, ◌++◌, ap, sym, ◌∙◌, append_assoc}
use Rattle.std.specs.Fmt.{digit_glyph}
use Rattle.draw_records.specs.Printed.{hex_digits}

-- a digit goes before those that are written, and one fewer is left
pub digit_put : (done n : ℕ) (tail whole : List ℕ) → done < 8 → hex_digits (8 - done) n ++ tail ≡ whole
    → hex_digits (8 - (done + 1)) (n / 16) ++ (digit_glyph false (n % 16) ∷ tail) ≡ whole
digit_put done n tail whole less left =
    let more : 8 - done ≡ suc (8 - (done + 1)) = omega arith in
    sym (append_assoc (hex_digits (8 - (done + 1)) (n / 16)) (digit_glyph false (n % 16) ∷ []) tail)
    ∙ ap (λ k. hex_digits k n ++ tail) (sym more) ∙ left

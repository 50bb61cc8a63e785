-- Text that is read; objects whose form is known; the ranges of a version and of a view's sides.
use Rattle.std.proofs.Common.{◌≡◌, ℕ, ◌≤◌, arith, ℤ, pos, negsuc, List, [], ◌∷◌, length, codes, decimal, Ok, Err, Bool, ◌==◌, ◌&&◌, nat_le, if◌then◌else◌, eq-eqb, true, false, refl, subst, ap, ◌∙◌}
use Rattle.std.proofs.lemmas.Bool.Decides.{nat_tests}
use Rattle.std.specs.Str.{IsUtf8}
use Rattle.std.specs.Str.Lossy.{utf8_valid_len}
use Rattle.std.proofs.lemmas.Str.{utf8_valid_len-IsUtf8}
use Rattle.serde_json.specs.Read.{read}
use Rattle.program_read.specs.Reading.{json_of}
use Rattle.serde_json.specs.Data.{Data}
use Rattle.serde_json.specs.Find.{get}
use Rattle.fx_geom.specs.declared.shapes.Size.{Size}
use Rattle.program_read.specs.declared.fault.ShapeCode.TheVariants.{MissingMember, OutOfRange}
use Rattle.program_read.specs.declared.fault.ReadStop.{ReadStop}
use Rattle.program_read.specs.declared.fault.ReadStop.TheVariants.{Shape, OutOfMemory}
use Rattle.program_read.specs.Answers.{StopsAs}
use Rattle.program_read.specs.ShapeFault.{ShapeWalk, stops, within, at_entry, and_then, given}
use Rattle.program_read.specs.Leaves.{or_stop, integer_of, pair_of}
use Rattle.program_read.specs.Objects.{shaped, required_at}
use Rattle.program_read.specs.ProgramWalk.{IsVersion, as_version, version_of, IsSide, as_side, side_of, size_with, view_from, view_of, program_names, program_parts, program_of, component_names, component_parts, component_of}

-- text that is UTF-8
pub json_of-text : (bytes : List ℕ) → IsUtf8 bytes → read bytes ≡ json_of bytes
unfolding json_of
json_of-text bytes valid = let all : (utf8_valid_len bytes == length bytes) ≡ true = eq-eqb _ _ (utf8_valid_len-IsUtf8 bytes valid) in rw all refl

-- an object whose form is known, and one whose form breaks a rule
pub program_of-shaped : (d whole : Data) → shaped (codes "version" ∷ codes "view" ∷ codes "root" ∷ []) program_names d ≡ Ok tt → d ≡ whole → program_of d ≡ program_parts whole
unfolding program_of
program_of-shaped d whole s is = ap (λ w. and_then w (λ _. program_parts d)) s ∙ ap program_parts is

pub program_of-stopped : (d : Data) (stop : ReadStop) → StopsAs stop (shaped (codes "version" ∷ codes "view" ∷ codes "root" ∷ []) program_names d) → StopsAs stop (program_of d)
unfolding program_of
program_of-stopped d (Shape fault) h = ap (λ w. and_then w (λ _. program_parts d)) h
program_of-stopped d OutOfMemory h = tt

pub component_of-shaped : (version : ℕ) (d whole : Data) → shaped (codes "name" ∷ codes "body" ∷ []) component_names d ≡ Ok tt → d ≡ whole
    → component_of version d ≡ component_parts version whole
unfolding component_of
component_of-shaped version d whole s is = ap (λ w. and_then w (λ _. component_parts version d)) s ∙ ap (component_parts version) is

pub component_of-stopped : (version : ℕ) (d : Data) (stop : ReadStop) → StopsAs stop (shaped (codes "name" ∷ codes "body" ∷ []) component_names d) → StopsAs stop (component_of version d)
unfolding component_of
component_of-stopped version d (Shape fault) h = ap (λ w. and_then w (λ _. component_parts version d)) h
component_of-stopped version d OutOfMemory h = tt

-- ---- what walks give is in range

and_then-ok : {A B : Type 0} (w : ShapeWalk A) (f : A → ShapeWalk B) (y : B) → and_then w f ≡ Ok y → (x : A) × (f x ≡ Ok y)
and_then-ok (Ok x) f y e = (x, e)
and_then-ok (Err fault) f y e = absurd cc

within-ok : {A : Type 0} (step : List ℕ) (w : ShapeWalk A) (x : A) → within step w ≡ Ok x → w ≡ Ok x
within-ok step (Ok y) x e = e
within-ok step (Err fault) x e = cc

given-ok : {A B : Type 0} (f : A → B) (w : ShapeWalk A) (y : B) → given f w ≡ Ok y → (x : A) × (w ≡ Ok x) × (f x ≡ y)
given-ok f (Ok x) y e = (x, refl, cc)
given-ok f (Err fault) y e = absurd cc

-- a number within its bounds
limits : (low high k n : ℕ) (b : Bool) → (nat_le low k && nat_le k high) ≡ b → (if b then Ok k else stops OutOfRange) ≡ Ok n → (low ≤ n) × (n ≤ high)
limits low high k n true h e = let same : k ≡ n = cc in (grind (arith, nat_tests), grind (arith, nat_tests))
limits low high k n false h e = absurd cc

version-range : (z : ℤ) (n : ℕ) → as_version z ≡ Ok n → IsVersion n
version-range (pos k) n e = let both = limits 1 3 k n _ refl e in record { first = both.0; last = both.1 }
version-range (negsuc k) n e = absurd cc

side-range : (z : ℤ) (n : ℕ) → as_side z ≡ Ok n → IsSide n
side-range (pos k) n e = let both = limits 1 16777216 k n _ refl e in record { least = both.0; greatest = both.1 }
side-range (negsuc k) n e = absurd cc

side_of-range : (i : ℕ) (d : Data) (n : ℕ) → at_entry i (side_of d) ≡ Ok n → IsSide n
side_of-range i d n e =
    let read = and_then-ok (integer_of d) as_side n (within-ok (decimal i) (side_of d) n e) in
    side-range read.0 n read.1

pub version-in-range : (d : Data) (n : ℕ) → required_at version_of (codes "version") d ≡ Ok n → IsVersion n
version-in-range d n e =
    let found = and_then-ok (or_stop MissingMember (get (codes "version") d)) (λ v. within (codes "version") (version_of v)) n e in
    let read = and_then-ok (integer_of found.0) as_version n (within-ok (codes "version") (version_of found.0) n found.1) in
    version-range read.0 n read.1

pub view-in-range : (d : Data) (size : Size) → required_at view_of (codes "view") d ≡ Ok size → IsSide size.w × IsSide size.h
view-in-range d size e =
    let found = and_then-ok (or_stop MissingMember (get (codes "view") d)) (λ v. within (codes "view") (view_of v)) size e in
    let pair = and_then-ok (pair_of found.0) view_from size (within-ok (codes "view") (view_of found.0) size found.1) in
    sides pair.0 size pair.1
  where
    sides : (p : Data × Data) (size : Size) → view_from p ≡ Ok size → IsSide size.w × IsSide size.h
    sides p size e = two (at_entry 0 (side_of p.0)) refl e
      where
        two : (w : ShapeWalk ℕ) → at_entry 0 (side_of p.0) ≡ w → and_then w (λ w. given (size_with w) (at_entry 1 (side_of p.1))) ≡ Ok size → IsSide size.w × IsSide size.h
        two (Ok w) first e =
            let last = given-ok (size_with w) (at_entry 1 (side_of p.1)) size e in
            (subst (λ (s : Size). IsSide s.w) last.2 (side_of-range 0 p.0 w first), subst (λ (s : Size). IsSide s.h) last.2 (side_of-range 1 p.1 last.0 last.1))
        two (Err fault) first e = absurd cc

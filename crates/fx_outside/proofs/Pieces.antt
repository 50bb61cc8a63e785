-- The next bytes of a list, and those after them.
use Rattle.std.proofs.Common.{◌≡◌, ℕ, ◌+◌, ◌-◌, List, ◌++◌, length, take, drop, ap, ap₂, sym, ◌∙◌}
use Rattle.std.proofs.lemmas.List.{drop-drop, length-drop, take-append-drop}
use Rattle.std.proofs.Math.Seq.{take-length}

-- a slice from a place to the end is all that comes after the place
pub rest_of : (items : List ℕ) (at : ℕ) → take (length items - at) (drop at items) ≡ drop at items
rest_of items at = ap (λ n. take n (drop at items)) (sym (length-drop at items)) ∙ take-length (drop at items)

-- from a place on, a list is its next bytes and what comes after them
pub next_bytes : (items given left taken : List ℕ) (at count : ℕ) → drop at items ≡ left → given ≡ items
    → taken ≡ take count (take (length given - at) (drop at given)) → left ≡ taken ++ drop (at + count) items
next_bytes items given left taken at count is_left is_given is_taken =
    let now : taken ≡ take count (drop at items) = is_taken ∙ ap (take count) (rest_of given at ∙ ap (drop at) is_given) in
    sym is_left ∙ sym (take-append-drop count (drop at items)) ∙ ap₂ (λ a b. a ++ b) (sym now) (drop-drop count at items)

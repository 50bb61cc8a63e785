-- How long the front and the end that two lists share are.
use Rattle.std.proofs.Common.{◌≡◌, ℕ, ◌-◌, ◌≤◌, min, length, List, reverse, sym, ◌∙◌, refl, arith}
use Rattle.std.specs.List.{common_prefix_len}
use Rattle.std.proofs.lemmas.List.Sums.{common_prefix_len-le}
use Rattle.widget_model.specs.Plain.{PlainWidget}
use Rattle.widget_model.specs.Update.{updates}
use Rattle.reconcile.specs.Matching.{prefix_len, suffix_len}

module _ (old new : List PlainWidget) where
  pub prefix_within : (prefix_len old new ≤ length old) × (prefix_len old new ≤ length new)
  unfolding prefix_len
  prefix_within = common_prefix_len-le updates old new

  capped : (n m : ℕ) → min n m ≤ m
  capped n m = omega arith

  pub suffix_within : suffix_len old new ≤ min (length old) (length new) - prefix_len old new
  unfolding suffix_len
  suffix_within = capped _ _

  pub prefix_is : (p : ℕ) → p ≡ common_prefix_len updates old new → p ≡ prefix_len old new
  unfolding prefix_len
  prefix_is p e = e

  -- a count from the end, capped by what the front leaves
  pub suffix_is : (p s m n : ℕ) → p ≡ prefix_len old new → length old ≡ m → length new ≡ n
      → s ≡ min (common_prefix_len updates (reverse old) (reverse new)) (min m n - p) → s ≡ suffix_len old new
  unfolding suffix_len
  suffix_is p s m n e f g h = h ∙ (rw (e, sym f, sym g) refl)

-- what is left between the front and the end of a list of m, where the other has n
pub room_left : (p s m n : ℕ) → p ≤ m → p ≤ n → s ≤ min m n - p → (p ≤ m - s) × (p ≤ n - s) × (s ≤ m) × (s ≤ n)
room_left p s m n a b c = (omega arith, omega arith, omega arith, omega arith)

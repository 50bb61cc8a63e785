-- No key so far repeats an earlier one, and the set answers what the keys so far do.
use Rattle.std.proofs.Common.{ℕ, ◌<◌, ◌≡◌, true, take}
use Rattle.std.specs.List.{list_any}
use Rattle.std.specs.Ordering.{eq_by_cmp}
use Rattle.widget_keys.specs.Key.{Key, is_given, keys_equal, IsRepeat}
use Rattle.widget_keys.proofs.repeats.first_repeat.Given as goal

abbrev pub invariant-loop-i : goal.invariant-loop-i
invariant-loop-i g l =
    ((k : ℕ) → k < l.i → IsRepeat (eq_by_cmp g.V.Ord.cmp) l.keys k → ⊥)
    × ((q : Key g.row.V.Denot) → is_given q ≡ true → list_any (λ s. keys_equal (eq_by_cmp g.V.Ord.cmp) q s.now) l.seen.keys ≡ list_any (λ e. keys_equal (eq_by_cmp g.V.Ord.cmp) q e) (take l.i l.keys))

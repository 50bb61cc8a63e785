-- The children so far are matched.
use Rattle.std.proofs.Common.{◌≡◌, map}
use Rattle.std.specs.List.{range_with_len}
use Rattle.reconcile.specs.Matching.{match_at}
use Rattle.widget_model.specs.View.{shared}
use Rattle.reconcile.proofs.children.match_children.Given as goal

abbrev pub invariant-loop-i : goal.invariant-loop-i
invariant-loop-i l = l.matches.items ≡ map (match_at (map shared l.old) (map shared l.new)) (range_with_len 0 l.i)

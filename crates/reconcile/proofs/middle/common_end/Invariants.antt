-- The pairs so far can update, so the count is theirs and that of the rest.
use Rattle.std.proofs.Common.{◌≡◌, ◌+◌, drop, reverse, map}
use Rattle.std.specs.List.{common_prefix_len}
use Rattle.widget_model.specs.Update.{updates}
use Rattle.widget_model.specs.View.{shared}
use Rattle.reconcile.proofs.middle.common_end.Given as goal

abbrev pub invariant-loop-i : goal.invariant-loop-i
invariant-loop-i l =
    common_prefix_len updates (reverse (map shared l.old)) (reverse (map shared l.new))
    ≡ l.i + common_prefix_len updates (drop l.i (reverse (map shared l.old))) (drop l.i (reverse (map shared l.new)))

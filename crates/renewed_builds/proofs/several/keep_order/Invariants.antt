-- Whether all leave children where they are is left to the others.
use Rattle.std.proofs.Common.{◌≡◌, drop}
use Rattle.std.specs.List.{list_all}
use Rattle.renewed_builds.specs.Several.{keeps_order}
use Rattle.renewed_builds.proofs.several.keep_order.Given as goal

abbrev pub invariant-loop-i : goal.invariant-loop-i
invariant-loop-i l = list_all keeps_order (drop l.i l.changes) ≡ list_all keeps_order (drop l.first l.changes)

-- Each call goes to another function of the cycle, or one depth down. What was inflated so far is what the widgets so far come to.
use Rattle.std.proofs.Common.{◌≡◌, ◌+◌, ◌*◌, map}
use Rattle.widget_model.specs.View.{look_in, shared}
use Rattle.build_owner.specs.WalkView.{program_of}
use Rattle.first_builds.proofs.Cycling.{SoFar}
use Rattle.first_builds.proofs.inflating.+inflating.Given as goal

abbrev pub decreases-inflate : goal.decreases-inflate
decreases-inflate g l = 2 * l.left

abbrev pub decreases-inflate_each : goal.decreases-inflate_each
decreases-inflate_each g l = 2 * l.left + 1

abbrev pub decreases-inflate_only : goal.decreases-inflate_only
decreases-inflate_only g l = 2 * l.left + 1

abbrev pub invariant-inflate_each-loop-i : goal.invariant-inflate_each-loop-i
invariant-inflate_each-loop-i g l =
    SoFar (program_of l.from) l.left l.fn.values l.values l.fn.parent l.fn.above (look_in l.kind) (map shared l.widgets) l.i l.fn.t.tree l.t.tree l.fn.r.tree l.r.tree l.fn.g l.g l.fn.entered l.entered l.fn.builds l.builds
    × (l.r.scale ≡ l.fn.r.scale)

-- Each call goes to another function of the walk, or one depth down. The nodes so far are those of the arrivals so far.
use Rattle.std.proofs.Common.{◌+◌, ◌*◌, map, take, drop}
use Rattle.widget_model.specs.View.{shared}
use Rattle.build_form.specs.Step.{each}
use Rattle.build_form.specs.Entering.{enter}
use Rattle.build_form.specs.Lent.{lent}
use Rattle.plain_build.specs.PartnerView.{plain_arrival}
use Rattle.plain_build.specs.WalkView.{progress_of}
use Rattle.plain_build.specs.BasisView.{basis_of, declared_by, phase_of}
use Rattle.build_form.proofs.Eaching.{after}
use Rattle.build_form.proofs.Walked.{SoFar}
use Rattle.plain_build.proofs.entering.+entering.Given as goal

abbrev pub decreases-enter : goal.decreases-enter
decreases-enter g l = 4 * l.left

abbrev pub decreases-enter_below : goal.decreases-enter_below
decreases-enter_below g l = 4 * l.left + 3

abbrev pub decreases-enter_under : goal.decreases-enter_under
decreases-enter_under g l = 4 * l.left + 2

abbrev pub decreases-enter_all : goal.decreases-enter_all
decreases-enter_all g l = 4 * l.left + 1

abbrev pub invariant-enter_all-loop-i : goal.invariant-enter_all-loop-i
invariant-enter_all-loop-i g l =
    let go = enter (basis_of l.from) (phase_of l.phase) l.left l.fn.values in
    SoFar (declared_by l.from) l.values l.fn.values (map (λ a. shared a.widget) (take l.i l.arriving)) l.nodes.items (map lent l.walk.waiting.items)
    (each go (map plain_arrival l.arriving) (progress_of l.fn.walk)) (after l.nodes.items (each go (drop l.i (map plain_arrival l.arriving)) (progress_of l.walk)))

-- Each call goes to another function of the walk, or one depth down. The handles so far are those of the arrivals so far.
use Rattle.std.proofs.Common.{◌≡◌, ◌≤◌, ◌+◌, ◌*◌, length, vec_len, vec_capacity}
use Rattle.build_owner.specs.WalkView.{phase_of, place_of}
use Rattle.build_owner.proofs.Cycling.{SoFar}
use Rattle.build_owner.proofs.entering.+entering.Given as goal

abbrev pub decreases-enter : goal.decreases-enter
decreases-enter g l = 4 * l.left

abbrev pub decreases-enter_shown : goal.decreases-enter_shown
decreases-enter_shown g l = 4 * l.left + 3

abbrev pub decreases-enter_below : goal.decreases-enter_below
decreases-enter_below g l = 4 * l.left + 2

abbrev pub decreases-enter_all : goal.decreases-enter_all
decreases-enter_all g l = 4 * l.left + 1

abbrev pub invariant-enter_all-loop-i : goal.invariant-enter_all-loop-i
invariant-enter_all-loop-i g l =
    SoFar l.from (phase_of l.phase) l.left l.fn.names.now.items l.fn.names.was.items l.names.now.items l.names.was.items (place_of l.place) l.arriving l.i l.fn.t.tree l.t.tree l.fn.r.tree l.r.tree l.fn.g l.g
    l.fn.walk l.walk l.fn.builds l.builds l.handles.items × (l.r.scale ≡ l.fn.r.scale) × (vec_len l.handles ≡ l.i) × (length l.arriving ≤ vec_capacity l.handles)

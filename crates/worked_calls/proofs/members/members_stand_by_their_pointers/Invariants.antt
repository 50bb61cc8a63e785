-- No event is left of the pointers so far.
use Rattle.std.proofs.Common.{◌≡◌, []}
use Rattle.gesture_arena.specs.StandsFor.{events_left}
use Rattle.worked_calls.proofs.members.members_stand_by_their_pointers.Given as goal

abbrev pub invariant-loop-number : goal.invariant-loop-number
invariant-loop-number g l = events_left l.pointers ≡ []

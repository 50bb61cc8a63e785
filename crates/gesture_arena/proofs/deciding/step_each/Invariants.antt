use Rattle.std.proofs.Common.{◌≡◌, ◌++◌, map, take, drop}
use Rattle.gesture_arena.specs.Stored.{offset_of, moment_of, given_stepped}
use Rattle.gesture_arena.proofs.deciding.step_each.Given as goal

abbrev pub invariant-loop-t : goal.invariant-loop-t
invariant-loop-t l =
    l.members ≡ map (given_stepped l.answers l.scale (offset_of l.from) (moment_of l.happening)) (take l.t-index l.fn.members) ++ drop l.t-index l.fn.members

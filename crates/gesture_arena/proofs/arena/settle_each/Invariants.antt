use Rattle.std.proofs.Common.{◌≡◌, drop, map}
use Rattle.gesture_arena.specs.Answering.{answered}
use Rattle.gesture_arena.specs.Settled.{open_after}
use Rattle.gesture_arena.proofs.Answered.{ends}
use Rattle.gesture_arena.proofs.arena.settle_each.Given as goal

-- what all come to is what is left to be found
abbrev pub invariant-loop-t : goal.invariant-loop-t
invariant-loop-t l = open_after (map (answered l.answers) l.members) l.goes_up ≡ ends l.first l.several l.goes_up (map (answered l.answers) (drop l.t-index l.members))

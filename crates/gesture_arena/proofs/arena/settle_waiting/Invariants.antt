use Rattle.std.proofs.Common.{◌≡◌, false, drop, map}
use Rattle.std.specs.List.{list_any}
use Rattle.gesture_arena.specs.Answering.{answered}
use Rattle.gesture_arena.specs.Settled.{has_accepted, open_after}
use Rattle.gesture_arena.proofs.Answered.{ends}
use Rattle.gesture_arena.proofs.arena.settle_waiting.Given as goal

-- what all come to is what is left to be found, and none that is left has accepted
abbrev pub invariant-loop-t : goal.invariant-loop-t
invariant-loop-t l = record {
  ends : open_after (map (answered l.answers) l.members) l.goes_up ≡ ends l.first false l.goes_up (map (answered l.answers) (drop l.t-index l.members));
  quiet : list_any has_accepted (map (answered l.answers) (drop l.t-index l.members)) ≡ false;
}

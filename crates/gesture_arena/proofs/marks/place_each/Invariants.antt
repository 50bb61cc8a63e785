use Rattle.std.proofs.Common.{◌≡◌, ◌==◌, true, is_some, IfSome, take}
use Rattle.std.specs.HashMap.{get}
use Rattle.gesture_arena.specs.Marks.{HavePlaces, NoneIsMarked}
use Rattle.gesture_arena.proofs.marks.place_each.Given as goal

-- the members so far have places, and so has the node of the last of them
abbrev pub invariant-loop-t : goal.invariant-loop-t
invariant-loop-t l =
    HavePlaces (take l.t-index l.members) l.marks × NoneIsMarked l.marks × IfSome l.last (λ node. is_some (get (λ a b. a == b) l.marks node) ≡ true)

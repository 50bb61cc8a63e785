use Rattle.std.proofs.Common.{◌≡◌, true, Some, drop}
use Rattle.gesture_arena.specs.declared.gesture.Member.{Member}
use Rattle.gesture_arena.specs.Moment.{is_among}
use Rattle.gesture_arena.specs.Marks.{mark_of}
use Rattle.gesture_arena.proofs.marks.unmark.Given as goal

-- what is marked still is among the members to come
abbrev pub invariant-loop-member : goal.invariant-loop-member
invariant-loop-member l = (m : Member) → mark_of l.marks m ≡ Some true → is_among (drop l.member-index l.gone) m ≡ true

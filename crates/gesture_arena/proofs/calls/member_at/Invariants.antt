use Rattle.std.proofs.Common.{◌≡◌, slice_get, drop}
use Rattle.gesture_arena.specs.StandsFor.{held_members}
use Rattle.gesture_arena.proofs.calls.member_at.Given as goal

abbrev pub invariant-loop-h : goal.invariant-loop-h
invariant-loop-h l = slice_get (held_members l.held) l.index ≡ slice_get (held_members (drop l.h-index l.held)) l.left

use Rattle.std.proofs.Common.{◌≤◌, ◌+◌, ◌*◌, List, vec_len, vec_capacity}
use Rattle.gesture_arena.specs.Moment.{Pointer}
use Rattle.gesture_arena.specs.Pointers.{loses}
use Rattle.gesture_arena.specs.Stored.{AllStand}
use Rattle.gesture_arena.proofs.EachMeets.{Midway}
use Rattle.gesture_arena.proofs.meeting.drop_each.Given as goal

abbrev pub invariant-loop-h : goal.invariant-loop-h
invariant-loop-h l = record {
  met : (ps : List Pointer) → AllStand l.scale l.fn.held ps → Midway l.scale (loses l.gone) l.held l.h-index l.fn.events.items l.events.items ps;
  len : vec_len l.events ≤ vec_len l.fn.events + 2 * l.h-index;
  capacity : vec_capacity l.fn.events ≤ vec_capacity l.events;
}

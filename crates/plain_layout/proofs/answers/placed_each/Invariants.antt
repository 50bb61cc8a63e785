use Rattle.std.proofs.Common.{◌≡◌, ◌≤◌, ◌++◌, map, drop, length, vec_len, vec_capacity}
use Rattle.plain_tree.specs.LaidView.{stood}
use Rattle.layout_form.specs.Object.{placed_at}
use Rattle.layout_form.specs.Protocol.{present}
use Rattle.plain_layout.proofs.answers.placed_each.Given as goal

abbrev pub invariant-loop-slot : goal.invariant-loop-slot
invariant-loop-slot l = record {
  same : map stood l.children.items ++ placed_at (drop l.i l.places) (present l.slot-iterator.rest.items) ≡ placed_at l.places (present l.fn.slots.items);
  count : vec_len l.children ≡ l.i;
  room : length l.places ≤ vec_capacity l.children;
}

use Rattle.std.proofs.Common.{◌≡◌, ◌≤◌, ◌++◌, drop, length, vec_len, vec_capacity}
use Rattle.plain_layout.specs.Computed.{blank}
use Rattle.plain_layout.proofs.answers.blank_each.Given as goal

abbrev pub invariant-loop-child : goal.invariant-loop-child
invariant-loop-child l = record {
  same : l.slots.items ++ blank (drop l._child-index l.children) ≡ blank l.children;
  count : vec_len l.slots ≡ l._child-index;
  room : length l.children ≤ vec_capacity l.slots;
}

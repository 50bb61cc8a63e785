use Rattle.std.proofs.Common.{◌≡◌, ◌≤◌, ◌++◌, map, drop, length, vec_len, vec_capacity}
use Rattle.layout_form.specs.Fits.{data_of}
use Rattle.plain_layout.proofs.answers.told_each.Given as goal

abbrev pub invariant-loop-child : goal.invariant-loop-child
invariant-loop-child l = record {
  same : l.told.items ++ map data_of (drop l.child-index l.children) ≡ map data_of l.children;
  count : vec_len l.told ≡ l.child-index;
  room : length l.children ≤ vec_capacity l.told;
}

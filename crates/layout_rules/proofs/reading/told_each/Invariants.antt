use Rattle.std.proofs.Common.{◌≡◌, ◌++◌, map, drop, ◌≤◌, length, vec_len, vec_capacity}
use Rattle.layout_rules.specs.Reads.{told_at}
use Rattle.layout_rules.proofs.reading.told_each.Given as goal

abbrev pub invariant-loop-child : goal.invariant-loop-child
invariant-loop-child l = record {
  same : l.told.items ++ map (told_at l.r.tree) (drop l.child-index l.children) ≡ map (told_at l.r.tree) l.children;
  count : vec_len l.told ≡ l.child-index;
  room : length l.children ≤ vec_capacity l.told;
}

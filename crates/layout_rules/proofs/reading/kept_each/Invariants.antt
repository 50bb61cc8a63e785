use Rattle.std.proofs.Common.{◌≡◌, ◌++◌, drop, ◌≤◌, length, vec_len, vec_capacity}
use Rattle.layout_rules.specs.Reads.{kept_at}
use Rattle.layout_rules.proofs.reading.kept_each.Given as goal

abbrev pub invariant-loop-child : goal.invariant-loop-child
invariant-loop-child l = record {
  same : l.asks.items ++ kept_at l.r.tree (drop l.child-index l.children) ≡ kept_at l.r.tree l.children;
  count : vec_len l.asks ≡ l.child-index;
  room : length l.children ≤ vec_capacity l.asks;
}

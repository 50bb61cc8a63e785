use Rattle.std.proofs.Common.{◌≡◌, ◌≤◌, ◌++◌, drop, length, vec_len, vec_capacity}
use Rattle.layout_form.specs.Frames.{others_by}
use Rattle.kind_rules.proofs.asking.others.Given as goal

abbrev pub invariant-loop-i : goal.invariant-loop-i
invariant-loop-i g l = record {
  same : l.asks.items ++ others_by (drop l.i l.bounds) (drop l.i (g.F.Family.frames l.family)) ≡ others_by l.bounds (g.F.Family.frames l.family);
  count : vec_len l.asks ≤ l.i;
  room : length (g.F.Family.frames l.family) ≤ vec_capacity l.asks;
}

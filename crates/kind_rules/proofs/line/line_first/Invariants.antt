use Rattle.std.proofs.Common.{◌≡◌, ◌≤◌, ◌++◌, drop, length, vec_len, vec_capacity}
use Rattle.layout_form.specs.Protocol.{asks_where, goes_first}
use Rattle.kind_rules.proofs.line.line_first.Given as goal

abbrev pub invariant-loop-i : goal.invariant-loop-i
invariant-loop-i g l = record {
  same : l.asks.items ++ asks_where (goes_first l.most) l.ask (drop l.i (g.F.Family.told l.family)) ≡ asks_where (goes_first l.most) l.ask (g.F.Family.told l.family);
  count : vec_len l.asks ≡ l.i;
  room : length (g.F.Family.told l.family) ≤ vec_capacity l.asks;
}

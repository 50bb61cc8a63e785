use Rattle.std.proofs.Common.{◌≡◌, ◌++◌, drop}
use Rattle.layout_form.specs.StackRule.{is_free}
use Rattle.layout_form.specs.Protocol.{asks_where}
use Rattle.kind_rules.proofs.pile.pile_first.Given as goal

abbrev pub invariant-loop-d : goal.invariant-loop-d
invariant-loop-d l = l.asks.items ++ asks_where is_free l.ask (drop l.d-index l.told) ≡ asks_where is_free l.ask l.told

use Rattle.std.proofs.Common.{◌≡◌, ◌++◌, drop}
use Rattle.layout_form.specs.Protocol.{everybody}
use Rattle.kind_rules.proofs.asking.everybody.Given as goal

abbrev pub invariant-loop-child : goal.invariant-loop-child
invariant-loop-child l = l.asks.items ++ everybody l.ask (drop l._child-index l.told) ≡ everybody l.ask l.told

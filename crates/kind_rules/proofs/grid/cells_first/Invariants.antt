use Rattle.std.proofs.Common.{◌≡◌, ◌++◌, drop}
use Rattle.layout_form.specs.Protocol.{cells_first}
use Rattle.kind_rules.proofs.grid.cells_first.Given as goal

abbrev pub invariant-loop-i : goal.invariant-loop-i
invariant-loop-i l = l.asks.items ++ cells_first l.columns l.i (drop l.i l.told) ≡ cells_first l.columns 0 l.told

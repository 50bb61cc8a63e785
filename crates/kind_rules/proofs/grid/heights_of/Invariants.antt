use Rattle.std.proofs.Common.{◌≡◌, ◌++◌, drop}
use Rattle.layout_form.specs.WrapTable.{heights_of}
use Rattle.kind_rules.proofs.grid.heights_of.Given as goal

abbrev pub invariant-loop-size : goal.invariant-loop-size
invariant-loop-size l = l.heights.items ++ heights_of (drop l.size-index l.sizes) ≡ heights_of l.sizes

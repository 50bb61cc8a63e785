use Rattle.std.proofs.Common.{◌≡◌, ◌++◌, map, drop}
use Rattle.flex_layout.specs.Stack.{extent_from}
use Rattle.kind_rules.proofs.grid.clamped_widths.Given as goal

abbrev pub invariant-loop-width : goal.invariant-loop-width
invariant-loop-width l = l.columns.items ++ map extent_from (drop l.width-index l.widths) ≡ map extent_from l.widths

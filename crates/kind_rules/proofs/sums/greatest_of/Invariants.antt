use Rattle.std.proofs.Common.{◌≡◌, max, drop}
use Rattle.wrap_table.specs.Stretches.{greatest_of}
use Rattle.kind_rules.proofs.sums.greatest_of.Given as goal

abbrev pub invariant-loop-extent : goal.invariant-loop-extent
invariant-loop-extent l = max l.most (greatest_of (drop l.extent-index l.extents)) ≡ greatest_of l.extents

use Rattle.std.proofs.Common.{◌≡◌, ◌^◌, ◌≤◌, drop}
use Rattle.std.specs.Prelude.{sum}
use Rattle.fx_geom.specs.Len.{length_sum, total_of}
use Rattle.kind_rules.proofs.sums.total_of.Given as goal

abbrev pub invariant-loop-length : goal.invariant-loop-length
invariant-loop-length l = record {
  same : length_sum l.total (sum (drop l.length-index l.lengths)) ≡ total_of l.lengths;
  small : l.total ≤ 2 ^ 40;
}

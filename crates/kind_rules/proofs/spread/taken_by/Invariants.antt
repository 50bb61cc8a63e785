use Rattle.std.proofs.Common.{◌≡◌, ◌+◌, ◌^◌, ◌≤◌, max, length, drop}
use Rattle.std.specs.Prelude.{sum}
use Rattle.fx_geom.specs.Insets.{other_of}
use Rattle.fx_geom.specs.Len.{length_sum, total_of}
use Rattle.wrap_table.specs.Stretches.{greatest_of}
use Rattle.layout_form.specs.Frames.{frames_given, sizes_by}
use Rattle.layout_form.specs.Object.{extents_of}
use Rattle.kind_rules.proofs.spread.taken_by.Given as goal

abbrev pub invariant-loop-i : goal.invariant-loop-i
invariant-loop-i g l =
    let left = sizes_by (frames_given (drop l.i (g.F.Family.frames l.family))) in
    let all = sizes_by (frames_given (g.F.Family.frames l.family)) in record {
      total : length_sum l.allocated (sum (extents_of l.axis left)) ≡ total_of (extents_of l.axis all);
      small : l.allocated ≤ 2 ^ 40;
      most : max l.across (greatest_of (extents_of (other_of l.axis) left)) ≡ greatest_of (extents_of (other_of l.axis) all);
      number : l.count + length left ≡ length all;
      few : l.count ≤ l.i;
    }

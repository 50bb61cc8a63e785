use Rattle.std.proofs.Common.{◌≡◌, ◌^◌, ◌≤◌, drop}
use Rattle.std.specs.Prelude.{sum}
use Rattle.fx_geom.specs.Len.{length_sum, total_of}
use Rattle.layout_form.specs.Frames.{frames_given, sizes_by}
use Rattle.layout_form.specs.Object.{extents_of}
use Rattle.kind_rules.proofs.reading.extent_given.Given as goal

abbrev pub invariant-loop-i : goal.invariant-loop-i
invariant-loop-i g l = record {
  same : length_sum l.total (sum (extents_of l.axis (sizes_by (frames_given (drop l.i (g.F.Family.frames l.family)))))) ≡ total_of (extents_of l.axis (sizes_by (frames_given (g.F.Family.frames l.family))));
  small : l.total ≤ 2 ^ 40;
}

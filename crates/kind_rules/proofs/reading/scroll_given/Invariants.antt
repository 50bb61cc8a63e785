use Rattle.std.proofs.Common.{◌≡◌, ◌^◌, ◌≤◌, drop}
use Rattle.std.specs.Prelude.{sum}
use Rattle.fx_geom.specs.Len.{length_sum, total_of}
use Rattle.layout_form.specs.Frames.{scrolls_by}
use Rattle.kind_rules.proofs.reading.scroll_given.Given as goal

abbrev pub invariant-loop-frame : goal.invariant-loop-frame
invariant-loop-frame l = record {
  same : length_sum l.total (sum (scrolls_by (drop l.frame-index l.frames))) ≡ total_of (scrolls_by l.frames);
  small : l.total ≤ 2 ^ 40;
}

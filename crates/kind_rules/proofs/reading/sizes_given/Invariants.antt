use Rattle.std.proofs.Common.{◌≡◌, ◌≤◌, ◌++◌, drop, length, vec_len, vec_capacity}
use Rattle.layout_form.specs.Frames.{frames_given, sizes_by}
use Rattle.kind_rules.proofs.reading.sizes_given.Given as goal

abbrev pub invariant-loop-frame : goal.invariant-loop-frame
invariant-loop-frame l = record {
  same : l.sizes.items ++ sizes_by (frames_given (drop l.frame-index l.frames)) ≡ sizes_by (frames_given l.frames);
  count : vec_len l.sizes ≤ l.frame-index;
  room : length l.frames ≤ vec_capacity l.sizes;
}

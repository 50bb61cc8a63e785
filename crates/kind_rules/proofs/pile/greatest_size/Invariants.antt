use Rattle.std.proofs.Common.{◌≡◌, drop}
use Rattle.std.specs.Prelude.{fold}
use Rattle.layout_form.specs.StackRule.{greater}
use Rattle.layout_form.specs.Frames.{frames_given, sizes_by}
use Rattle.kind_rules.proofs.pile.greatest_size.Given as goal

abbrev pub invariant-loop-frame : goal.invariant-loop-frame
invariant-loop-frame l = fold greater l.most (sizes_by (frames_given (drop l.frame-index l.frames))) ≡ fold greater l.fn.least (sizes_by (frames_given l.frames))

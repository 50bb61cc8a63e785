use Rattle.std.proofs.Common.{◌≡◌, drop}
use Rattle.layout_form.specs.Frames.{frames_given}
use Rattle.kind_rules.specs.Reading.{first_frame_of}
use Rattle.kind_rules.proofs.reading.first_frame.Given as goal

abbrev pub invariant-loop-frame : goal.invariant-loop-frame
invariant-loop-frame l = first_frame_of (frames_given (drop l.frame-index l.frames)) ≡ first_frame_of (frames_given l.frames)

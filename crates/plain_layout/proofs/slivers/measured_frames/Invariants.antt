use Rattle.std.proofs.Common.{◌≡◌, ◌++◌, drop}
use Rattle.plain_layout.specs.Slivers.{measured_with}
use Rattle.plain_layout.proofs.slivers.measured_frames.Given as goal

abbrev pub invariant-loop-i : goal.invariant-loop-i
invariant-loop-i l = l.frames.items ++ measured_with l.axis l.cross (drop l.i l.children) (drop l.i l.boxes) ≡ measured_with l.axis l.cross l.children l.boxes

-- The outputs of small templates, computed.
use Rattle.std.proofs.Common.{refl}
use Rattle.template_build.specs.Output.{output_of}
use Rattle.template_build.specs.Worked.{WorkedOutputs}

pub worked : WorkedOutputs
unfolding output_of
worked = record {
  lengths = refl;
  insets = refl;
  alignments = refl;
  stacks = refl;
  colors = refl;
  opaque_white = refl;
  flexes = refl;
  placed = refl;
  extents = refl;
  over_nothing = refl;
  over_child = refl;
  then_taken = refl;
  else_taken = refl;
  spliced = refl;
  nested = refl;
  given = refl;
  used = refl;
  provided = refl;
}

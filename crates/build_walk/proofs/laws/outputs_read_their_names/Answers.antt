use Rattle.build_form.specs.Program.{names_in}
use Rattle.build_walk.proofs.Outputs.{component_same}
use Rattle.build_walk.proofs.Rebuilding.{reads_names}
use Rattle.build_walk.proofs.laws.outputs_read_their_names.Goals as goal

pub returns-clause-bodies : goal.returns-clause-bodies
returns-clause-bodies c = λ p place component props fields was now slots number found long also agrees.
    component_same p place component (names_in props fields was) was now slots number found long also agrees

pub returns-clause-widgets : goal.returns-clause-widgets
returns-clause-widgets c = λ p w checked typed. reads_names p checked w typed

use Rattle.layout_form.proofs.Worked.{works, frames_work}
use Rattle.layout_form.proofs.laws.worked_layouts.Goals as goal

pub returns-clause-trees : goal.returns-clause-trees
returns-clause-trees c = works

pub returns-clause-frames : goal.returns-clause-frames
returns-clause-frames c = frames_work

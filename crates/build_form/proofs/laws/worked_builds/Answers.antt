use Rattle.build_form.proofs.Worked.{works}
use Rattle.build_form.proofs.laws.worked_builds.Goals as goal

pub returns : goal.returns
returns c = works

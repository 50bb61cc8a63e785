use Rattle.session_laws.proofs.WorkedLemmas.{works}
use Rattle.session_laws.proofs.worked.worked_runs.Goals as goal

pub returns : goal.returns
returns c = works

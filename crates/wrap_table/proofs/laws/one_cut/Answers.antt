use Rattle.wrap_table.proofs.CutLemmas.{runs_of-is_cut, only_cut}
use Rattle.wrap_table.proofs.laws.one_cut.Goals as goal

pub returns-clause-exists : goal.returns-clause-exists
returns-clause-exists c limit gap children = runs_of-is_cut limit gap children

pub returns-clause-only : goal.returns-clause-only
returns-clause-only c limit gap children runs cut = only_cut limit gap children runs cut

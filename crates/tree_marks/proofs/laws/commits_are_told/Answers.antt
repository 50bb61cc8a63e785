use Rattle.tree_marks.proofs.Surviving.{IsCommit-planned, IsCommit-store}
use Rattle.tree_marks.proofs.laws.commits_are_told.Goals as goal

pub returns-clause-planned : goal.returns-clause-planned
returns-clause-planned g c = λ updated m x keeps at now changed f. IsCommit-planned updated m x keeps at now changed f

pub returns-clause-store : goal.returns-clause-store
returns-clause-store g c = IsCommit-store

use Rattle.tree_marks.proofs.Surviving.{IsSettled-sweep, IsClosed-settled, IsLinked-settled}
use Rattle.tree_marks.proofs.laws.commits_settle.Goals as goal

pub returns-clause-settled : goal.returns-clause-settled
returns-clause-settled g c = λ m x shown ok whole are at. IsSettled-sweep m ok x shown are at whole

pub returns-clause-closed : goal.returns-clause-closed
returns-clause-closed g c = λ m x shown ok whole are at also changed p f closed. IsClosed-settled m ok x shown are at whole closed also changed p f

pub returns-clause-linked : goal.returns-clause-linked
returns-clause-linked g c = λ m x ok at changed p f linked. IsLinked-settled m ok x at linked changed p f

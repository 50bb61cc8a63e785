use Rattle.std.proofs.Common.{◌≡◌, true}
use Rattle.tree_marks.proofs.Surviving.{LawForest-settled, LawBelow-settled, forests_stand}
use Rattle.tree_marks.proofs.laws.laws_survive_commits.Goals as goal

pub returns-clause-law : goal.returns-clause-law
returns-clause-law g c = λ m x law at f. LawForest-settled m x at (λ o s l. law o s l ≡ true) f

pub returns-clause-below : goal.returns-clause-below
returns-clause-below g c = λ m x shown are law at f. LawBelow-settled m x shown are at (λ o s l g. law o s l g ≡ true) f

pub returns-clause-forests : goal.returns-clause-forests
returns-clause-forests g c = forests_stand

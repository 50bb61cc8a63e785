use Rattle.first_builds.proofs.Placing.{mounted_as, mounted_append}
use Rattle.first_builds.proofs.laws.mounted_as_drawn.Goals as goal

pub returns-clause-made : goal.returns-clause-made
returns-clause-made c = λ above told f. mounted_as above told f

pub returns-clause-turns : goal.returns-clause-turns
returns-clause-turns c = λ above told f g. mounted_append above told f g

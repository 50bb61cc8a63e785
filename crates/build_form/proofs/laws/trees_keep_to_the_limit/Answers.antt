use Rattle.build_form.proofs.Counted.{first_keeps_to_limit, build_keeps_to_limit}
use Rattle.build_form.proofs.laws.trees_keep_to_the_limit.Goals as goal

pub returns-clause-first : goal.returns-clause-first
returns-clause-first c = λ b old next root tree s is. first_keeps_to_limit b old next root tree s is

pub returns-clause-whole : goal.returns-clause-whole
returns-clause-whole c = λ b screen old next after root tree e. build_keeps_to_limit b old next root screen tree after e

use Rattle.build_walk.proofs.Walking.{through_walked, under_walked}
use Rattle.build_walk.proofs.laws.nodes_are_walked.Goals as goal

pub returns-clause-through : goal.returns-clause-through
returns-clause-through c = λ phase t r scrolled at h e kids old mid goes vanishing plain w. through_walked phase t r scrolled at h e kids goes vanishing plain old mid w

pub returns-clause-under : goal.returns-clause-under
returns-clause-under c = λ phase t r scrolled at h k e itself kids old mid goes own is named w. under_walked phase t r scrolled at h e kids goes k own is named itself old mid w

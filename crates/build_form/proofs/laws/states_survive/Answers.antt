use Rattle.build_form.proofs.KeptStates as kept
use Rattle.build_form.proofs.laws.states_survive.Goals as goal

pub returns-clause-first : goal.returns-clause-first
returns-clause-first c = λ b old next root tree s numbered is. kept.first_states b old next root numbered tree s is

pub returns-clause-whole : goal.returns-clause-whole
returns-clause-whole c = λ b screen old next after root tree numbered is. kept.states_survive b old next root numbered screen tree after is

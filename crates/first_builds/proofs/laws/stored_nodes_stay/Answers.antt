use Rattle.first_builds.proofs.Placing.{all_go_later, all_drawn_later}
use Rattle.first_builds.proofs.laws.stored_nodes_stay.Goals as goal

pub returns-clause-elements : goal.returns-clause-elements
returns-clause-elements c = λ old new f stay goes. all_go_later old new f stay goes

pub returns-clause-drawn : goal.returns-clause-drawn
returns-clause-drawn c = λ old new scrolled f stay d. all_drawn_later old new scrolled f stay d

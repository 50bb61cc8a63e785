use Rattle.node_tree.proofs.Children.{opened, below-stands, nth_child, skip_all, first-skip, append-append, append-none}
use Rattle.node_tree.proofs.Tree.child_laws.Goals as goal

pub returns-clause-opened : goal.returns-clause-opened
returns-clause-opened g c = opened

pub returns-clause-stands : goal.returns-clause-stands
returns-clause-stands g c = λ t h holds. (below-stands t h holds).0

pub returns-clause-listed : goal.returns-clause-listed
returns-clause-listed g c = λ t h holds. (below-stands t h holds).1

pub returns-clause-nth : goal.returns-clause-nth
returns-clause-nth g c = nth_child

pub returns-clause-all : goal.returns-clause-all
returns-clause-all g c = skip_all

pub returns-clause-parts : goal.returns-clause-parts
returns-clause-parts g c = first-skip

pub returns-clause-joined : goal.returns-clause-joined
returns-clause-joined g c = append-append

pub returns-clause-ends : goal.returns-clause-ends
returns-clause-ends g c = append-none

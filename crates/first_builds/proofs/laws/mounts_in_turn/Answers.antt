use Rattle.std.proofs.Common.{refl}
use Rattle.fx_handles.specs.Handle.{same}
use Rattle.node_tree.proofs.MountLemmas.{mounted_last, put_none, put_more, put_in_last}
use Rattle.first_builds.proofs.laws.mounts_in_turn.Goals as goal

pub returns-clause-last : goal.returns-clause-last
returns-clause-last c = λ t f q s is can. mounted_last t f q s is can

pub returns-clause-nothing : goal.returns-clause-nothing
returns-clause-nothing c = λ p f. put_none p f

pub returns-clause-more : goal.returns-clause-more
returns-clause-more c = λ p r s f. put_more p r s f

pub returns-clause-below : goal.returns-clause-below
returns-clause-below c = λ q h v kids s f absent. put_in_last q h v kids s f absent

pub returns-clause-worked : goal.returns-clause-worked
unfolding same
returns-clause-worked c = record { root = refl; child = refl; next = refl; below = refl; absent = refl }

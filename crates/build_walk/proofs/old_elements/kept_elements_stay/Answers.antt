use Rattle.std.proofs.Common.{ap}
use Rattle.element_tree.specs.Nodes.{nodes_of}
use Rattle.build_walk.specs.Kept.{first_node}
use Rattle.build_walk.proofs.Kept.{holds_live, kept_later}
use Rattle.build_walk.proofs.old_elements.kept_elements_stay.Goals as goal

pub returns-clause-kept : goal.returns-clause-kept
returns-clause-kept c = λ pasts scrolled olds t u r s h keeps also kept.
    let there = c.keep_laws.ensures.subtree t u h keeps (holds_live t h kept.holds) kept.holds in
    kept_later pasts scrolled olds t u r s h there.0 there.1 (λ k o is. c.keep_laws-2.ensures.value r s k o also is) kept

pub returns-clause-node : goal.returns-clause-node
returns-clause-node c = λ scrolled t u h keeps holds.
    let there = c.keep_laws.ensures.subtree t u h keeps (holds_live t h holds) holds in
    ap (λ f. first_node (nodes_of scrolled f)) there.0

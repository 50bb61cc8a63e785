use Rattle.std.proofs.Common.{refl}
use Rattle.fx_handles.specs.ArenaLaws.{some_of}
use Rattle.std.proofs.Common.{Some}
use Rattle.node_tree.specs.Forest.{paste, tree_of, without}
use Rattle.node_tree.proofs.TreeLemmas.{one_parent}
use Rattle.node_tree.proofs.EditLemmas.{on_ok_both, err_two}
use Rattle.node_tree.proofs.TreeEdits.{moved_is, other_node, tree_of_on, same_tree}
use Rattle.node_tree.proofs.Tree.move_to.Goals as goal

pub place_below-requires-clause-apart : goal.place_below-requires-clause-apart
place_below-requires-clause-apart g c =
    let can = rw (← c.self.view_is) at c.requires in
    other_node _ c.self.invariant.0 c.args.h c.args.parent c.self.invariant.1 can.live can.apart

pub place_below-requires-clause-one : goal.place_below-requires-clause-one
place_below-requires-clause-one g c =
    let can = rw (← c.self.view_is) at c.requires in
    one_parent _ c.self.invariant.0 c.args.h c.self.invariant.1 can.live

pub returns-clause-plain : goal.returns-clause-plain
returns-clause-plain g c =
    let can = rw (← c.self.view_is) at c.requires in
    let above = some_of _ can.has_parent in
    rw (← c.self.view_is) (on_ok_both _ _ _ _ c.place_below.ensures.hooks (rw above.1 at c.place_below.ensures.inactive)
    (λ hooks inactive. moved_is _ _ c.args.h c.args.parent c.args.at can hooks refl inactive))

pub invariant_of-self : goal.invariant_of-self
invariant_of-self g c =
    let can = rw (← c.self.view_is) at c.requires in
    let above = some_of _ can.has_parent in
    tree_of_on c.place_below.result (record { nodes = c.self.inside.nodes; root = c.self.inside.root; inactive = c.self.inside.inactive.items }) _ (λ f. paste (Some c.args.parent) c.args.at (tree_of c.args.h f) (without c.args.h f))
    (on_ok_both _ _ _ _ c.place_below.ensures.hooks (rw above.1 at c.place_below.ensures.inactive)
    (λ hooks inactive. moved_is _ _ c.args.h c.args.parent c.args.at can hooks refl inactive))
    (err_two _ _ _ _ c.place_below.ensures.err (λ nodes inactive. same_tree _ _ _ _ _ _ nodes refl inactive))
    c.self.invariant

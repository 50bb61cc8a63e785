use Rattle.std.proofs.Common.{sym, ap, ◌∙◌}
use Rattle.fx_handles.specs.Arena.{get}
use Rattle.fx_handles.specs.ArenaLaws.{some_of}
use Rattle.node_tree.specs.Tree.{parent_of}
use Rattle.node_tree.proofs.TreeLemmas.{is_node}
use Rattle.node_tree.proofs.EditLemmas.{get-with_value_same, get-with_value_other, one_parent_out, stays_lifted, hooks_below, swapped_back, on_err_then, on_ok_both, both}
use Rattle.node_tree.proofs.edits.place_below.Goals as goal

-- while p's list is out, h is as it was
pub rehook-placed-requires-clause-live : goal.rehook-placed-requires-clause-live
rehook-placed-requires-clause-live g c =
    let found = some_of _ c.requires.parent in
    let here = some_of _ c.requires.live in
    let out = c.swap_children.ensures.nodes found.0 found.1 in
    is_node _ here.0 (ap (λ x. get x c.args.h) out ∙ get-with_value_other _ _ _ _ c.args.h found.1 c.requires.apart ∙ here.1)

pub rehook-placed-requires-clause-one : goal.rehook-placed-requires-clause-one
rehook-placed-requires-clause-one g c =
    let found = some_of _ c.requires.parent in
    one_parent_out _ _ c.args.p c.args.h found.0 _ c.requires.one c.requires.apart found.1 (c.swap_children.ensures.nodes found.0 found.1) c.new-list.ensures.items

pub swap_children-requires-2 : goal.swap_children-requires-2
swap_children-requires-2 g c =
    let found = some_of _ c.requires.parent in
    let out = c.swap_children.ensures.nodes found.0 found.1 in
    let in_b = ap (λ x. get x c.args.p) out ∙ get-with_value_same _ _ _ _ found.1 in
    stays_lifted _ _ _ c.args.p c.args.h _ _ c.rehook-placed.ensures.nodes c.rehook-placed.ensures.err_nodes (λ e. c.requires.apart (sym e)) in_b

pub returns-clause-hooks : goal.returns-clause-hooks
returns-clause-hooks g c =
    let found = some_of _ c.requires.parent in
    on_ok_both _ _ _ _ c.rehook-placed.ensures.nodes c.rehook-placed.ensures.list (λ lifted longer.
    hooks_below _ _ _ _ c.args.p c.args.h found.0 c.args.at _ _ _ found.1 c.requires.apart (c.swap_children.ensures.nodes found.0 found.1) (c.swap_children.ensures.list found.0 found.1) lifted longer c.swap_children-2.ensures.nodes)

pub returns-clause-inactive : goal.returns-clause-inactive
returns-clause-inactive g c =
    let found = some_of _ c.requires.parent in
    let out = c.swap_children.ensures.nodes found.0 found.1 in
    let same = ap parent_of (ap (λ x. get x c.args.h) out ∙ get-with_value_other _ _ _ _ c.args.h found.1 c.requires.apart) in
    rw same at c.rehook-placed.ensures.inactive

pub returns-clause-err : goal.returns-clause-err
returns-clause-err g c =
    let found = some_of _ c.requires.parent in
    let out = c.swap_children.ensures.nodes found.0 found.1 in
    let in_b = ap (λ x. get x c.args.p) out ∙ get-with_value_same _ _ _ _ found.1 in
    on_err_then _ _ _ c.rehook-placed.ensures.err (λ same.
    both (swapped_back _ _ _ _ c.args.p found.0 _ _ _ found.1 out (c.swap_children.ensures.list found.0 found.1) same.0 same.1 (c.swap_children-2.ensures.nodes _ (ap (λ x. get x c.args.p) same.0 ∙ in_b))) same.2)

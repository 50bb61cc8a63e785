use Rattle.std.proofs.Common.{ap, ◌∙◌}
use Rattle.fx_handles.specs.Arena.{get}
use Rattle.fx_handles.specs.ArenaLaws.{some_of}
use Rattle.node_tree.proofs.TreeLemmas.{is_node}
use Rattle.node_tree.proofs.EditLemmas.{swapped_back, stays_live, both_ok, on_err_then, keeps-with_value, get-with_value_same}
use Rattle.node_tree.proofs.MountLemmas.{last_below}
use Rattle.node_tree.proofs.edits.mount_below.Goals as goal

pub mount_into-mounted-requires : goal.mount_into-mounted-requires
mount_into-mounted-requires g c =
    let found = some_of _ c.requires.live in
    let out = c.swap_children.ensures.nodes found.0 found.1 in
    let keeps = keeps-with_value _ c.args.p found.0 (record found.0 { children = c.new-list.result.items }) found.1 in
    rw (out, keeps.used, keeps.retired) c.requires.room

-- p stays live while its list is out
pub swap_children-requires-2 : goal.swap_children-requires-2
swap_children-requires-2 g c =
    let found = some_of _ c.requires.live in
    let out = c.swap_children.ensures.nodes found.0 found.1 in
    let in_b = ap (λ x. get x c.args.p) out ∙ get-with_value_same _ _ _ _ found.1 in
    is_node _ _ (stays_live _ _ _ c.args.p _ _ _ c.mount_into-mounted.ensures.inserts c.mount_into-mounted.ensures.err in_b)

pub returns-clause-adds : goal.returns-clause-adds
returns-clause-adds g c =
    let found = some_of _ c.requires.live in
    let out = c.swap_children.ensures.nodes found.0 found.1 in
    let was = c.swap_children.ensures.list found.0 found.1 in
    let in_b = ap (λ x. get x c.args.p) out ∙ get-with_value_same _ _ _ _ found.1 in
    let here = stays_live _ _ _ c.args.p _ _ _ c.mount_into-mounted.ensures.inserts c.mount_into-mounted.ensures.err in_b in
    both_ok _ _ _ _ c.mount_into-mounted.ensures.inserts c.mount_into-mounted.ensures.list (λ h inserted longer.
    last_below _ _ _ _ c.args.p h found.0 _ c.args.value _ _ _ found.1 out was inserted longer here (c.swap_children-2.ensures.nodes _ here))

pub returns-clause-err : goal.returns-clause-err
returns-clause-err g c =
    let found = some_of _ c.requires.live in
    let out = c.swap_children.ensures.nodes found.0 found.1 in
    let in_b = ap (λ x. get x c.args.p) out ∙ get-with_value_same _ _ _ _ found.1 in
    let here = stays_live _ _ _ c.args.p _ _ _ c.mount_into-mounted.ensures.inserts c.mount_into-mounted.ensures.err in_b in
    on_err_then _ _ _ c.mount_into-mounted.ensures.err (λ same.
    swapped_back _ _ _ _ c.args.p found.0 _ _ _ found.1 out (c.swap_children.ensures.list found.0 found.1) same.0 same.1 (c.swap_children-2.ensures.nodes _ here))

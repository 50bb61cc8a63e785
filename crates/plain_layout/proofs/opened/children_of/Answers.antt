use Rattle.plain_layout.proofs.Trees.{children_again}
use Rattle.plain_layout.proofs.opened.children_of.Goals as goal

pub returns : goal.returns
returns c =
    let n = c.node.inside in
    children_again n.number _ n.parent_data n.scroll _ n.children.items c.as_slice.result.now c.args.node.now c.node.view_is c.as_slice.ensures.value

use Rattle.node_tree.specs.Tree.{IsNode}
use Rattle.render_tree.specs.Marks.{paint_marks}
use Rattle.worked_calls.proofs.Leaves.{calm_leaf}
use Rattle.worked_calls.proofs.render_steps.clear_paint_leaf.Goals as goal

pub clear_paint_below-requires : goal.clear_paint_below-requires
clear_paint_below-requires c =
    let t = c.args.tree.now.tree in
    let live : IsNode t c.args.h = rw c.tree.ensures at (c.contains.ensures.0 c.if-not-contains.false) in
    calm_leaf paint_marks t c.args.h (c.child_laws.ensures.listed t c.args.h (c.walk_laws.ensures.holds t c.args.h c.root.ensures.tree live)) (c.is_leaf.ensures c.if-not-is_leaf.false)

-- What is painted so far of the children, with what is left to paint, is all; and how many nodes a call is given.
use Rattle.std.proofs.Common.{◌≡◌, ◌++◌, drop, map}
use Rattle.delegates.specs.Table.{meant_in}
use Rattle.layer_tree.specs.View.{item_of}
use Rattle.plain_tree.specs.Laid.{count_of}
use Rattle.plain_tree.specs.LaidView.{laids_in}
use Rattle.screen_form.specs.Painted.{painted_all}
use Rattle.plain_paint.proofs.painting.+paint_node.Given as goal

abbrev pub invariant-loop-child : goal.invariant-loop-child
invariant-loop-child g l =
    let delegates = meant_in l.table (λ v. (g.dyn-1.0.entry v).1) in
    map item_of l.items.items ++ painted_all l.scale.cell delegates (laids_in (drop l.child-index l.children)) l.from
    ≡ map item_of l.initial.items.items ++ painted_all l.scale.cell delegates (laids_in l.children) l.from

abbrev pub decreases-paint_node : goal.decreases-paint_node
decreases-paint_node g l = count_of l.node.now

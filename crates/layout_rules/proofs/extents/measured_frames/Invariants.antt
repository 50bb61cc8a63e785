use Rattle.std.proofs.Common.{◌≡◌, ◌++◌}
use Rattle.node_tree.specs.Forest.{Forest, skip}
use Rattle.node_tree.specs.Forest.Forest.{none, tree}
use Rattle.layout_walk.specs.Node.{LayoutNode}
use Rattle.layout_walk.specs.Measure.{extents_in}
use Rattle.layout_rules.specs.Nodes.{SeenAt}
use Rattle.layout_rules.specs.Ending.{measured_frames}
use Rattle.layout_rules.proofs.extents.measured_frames.Given as goal

abbrev pub invariant-loop-child : goal.invariant-loop-child
invariant-loop-child l =
    (v : LayoutNode) (kids : Forest LayoutNode) → SeenAt l.r.tree l.fn.h (tree l.fn.h v kids none)
    → l.frames.items ++ measured_frames l.axis l.cross (extents_in l.axis l.cross (skip l.child-index kids)) ≡ measured_frames l.axis l.cross (extents_in l.axis l.cross kids)

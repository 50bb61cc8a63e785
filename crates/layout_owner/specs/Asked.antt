-- Which nodes a flush leaves in the bounds of their last layout.
use Rattle.std.specs.Prelude.{◌≡◌, false}
use Rattle.node_tree.specs.Forest.{Forest}
use Rattle.node_tree.specs.Forest.Forest.{none, tree}
use Rattle.layout_walk.specs.Node.{LayoutNode, asked}
use Rattle.layout_walk.specs.Walk.{AreAskedAlike}

-- a node that needn't be laid out, and is asked as it was in its last layout, isn't laid out: each of its children keeps the bounds of
-- its own last layout. It holds at every node, in the window or not.
abbrev pub KeepBounds : Forest LayoutNode → Forest LayoutNode → Type 0
KeepBounds none none = Unit {0}
KeepBounds none (tree k w below rest) = ⊥
KeepBounds (tree h v kids more) none = ⊥
KeepBounds (tree h v kids more) (tree k w below rest) =
    (v.needs_layout ≡ false → asked w ≡ asked v → AreAskedAlike kids below) × KeepBounds kids below × KeepBounds more rest

-- Where the Viewports of a tree stand scrolled after a flush, against the tree before it.
use Rattle.std.specs.Prelude.{◌≡◌, Bool, true, false, Some}
use Rattle.node_tree.specs.Forest.{Forest}
use Rattle.node_tree.specs.Forest.Forest.{none, tree}
use Rattle.plain_tree.specs.Offsets.{rescrolled}
use Rattle.plain_tree.specs.RenderRole.{render_role_of}
use Rattle.layout_walk.specs.Node.{LayoutNode, member, renders_in}

-- in the window a Viewport stands where its last layout left it, and any other node as before; out of it nothing is scrolled
abbrev pub ScrolledIf : Bool → LayoutNode → Forest LayoutNode → LayoutNode → Forest LayoutNode → Type 0 → Type 0
ScrolledIf true v kids w below further = (w.scroll ≡ rescrolled (render_role_of v.look) (Some w.scrolled) v.scroll) × further
ScrolledIf false v kids w below further = (w.scroll ≡ v.scroll) × (renders_in below ≡ renders_in kids)

-- the same nodes, scrolled so
abbrev pub AreScrolled : Forest LayoutNode → Forest LayoutNode → Type 0
AreScrolled none none = Unit {0}
AreScrolled none (tree k w below rest) = ⊥
AreScrolled (tree h v kids more) none = ⊥
AreScrolled (tree h v kids more) (tree k w below rest) =
    (h ≡ k) × (member v ≡ member w) × ScrolledIf w.shown v kids w below (AreScrolled kids below) × AreScrolled more rest

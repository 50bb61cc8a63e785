-- What a layout leaves of the nodes in the window, and of those out of it.
use Rattle.std.specs.Prelude.{◌≡◌, Bool, true, false, IsSome}
use Rattle.node_tree.specs.Forest.{Forest}
use Rattle.node_tree.specs.Forest.Forest.{none, tree}
use Rattle.layout_walk.specs.Node.{LayoutNode}
use Rattle.layout_walk.specs.Walk.{IsLeft}

-- a node in the window was laid out, and was put somewhere
pub record IsPut (v : LayoutNode) : Type 0 where
  pub framed : IsSome v.frame
  pub placed : IsSome v.offset

-- out of the window nothing of a node changes but that, and nothing below it
abbrev pub LeftIf : Bool → LayoutNode → Forest LayoutNode → LayoutNode → Forest LayoutNode → Type 0 → Type 0
LeftIf true v kids w below further = IsPut w × further
LeftIf false v kids w below further = IsLeft v kids w below

abbrev pub AreLeft : Forest LayoutNode → Forest LayoutNode → Type 0
AreLeft none none = Unit {0}
AreLeft none (tree k w below rest) = ⊥
AreLeft (tree h v kids more) none = ⊥
AreLeft (tree h v kids more) (tree k w below rest) = (h ≡ k) × LeftIf w.shown v kids w below (AreLeft kids below) × AreLeft more rest

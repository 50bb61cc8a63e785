-- Viewports that stay what they are: no build gives the number of one to a node of another kind, nor the other way.
use Rattle.std.specs.Prelude.{◌≡◌, Some}
use Rattle.plain_tree.specs.Render.{Render, render, Renders, no_renders, more_renders}
use Rattle.work_roles.specs.WorkRole.{is_viewport}
use Rattle.work_sets.specs.Before.{Before}
use Rattle.work_sets.specs.InTree.{Standing, standing, look_of, number_of}

-- a node is a Viewport exactly where the node of the last frame's tree with its number was one
abbrev pub StaysWindow : Before → Render → Type 0
StaysWindow before r = (was : Standing) → standing before.tree (number_of r) ≡ Some was → is_viewport (look_of was.node) ≡ is_viewport (look_of r)

module _ (before : Before) where
  abbrev mutual
    pub WindowsStay : Render → Type 0
    WindowsStay (render number look told scroll count children) = StaysWindow before (render number look told scroll count children) × AllWindowsStay children

    pub AllWindowsStay : Renders → Type 0
    AllWindowsStay no_renders = Unit {0}
    AllWindowsStay (more_renders r rs) = WindowsStay r × AllWindowsStay rs

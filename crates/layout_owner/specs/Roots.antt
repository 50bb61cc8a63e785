-- What a flush finds at the root, and what it leaves there.
use Rattle.std.specs.Prelude.{◌≡◌, true, false, Option, Some, None, List, [], ◌∷◌}
use Rattle.fx_geom.specs.Bounds.{tight}
use Rattle.fx_geom.specs.Offset.{origin}
use Rattle.fx_geom.specs.declared.shapes.Size.{Size}
use Rattle.node_tree.specs.Forest.{Forest}
use Rattle.node_tree.specs.Forest.Forest.{none, tree}
use Rattle.plain_tree.specs.Render.{Render, Renders, no_renders, more_renders}
use Rattle.layout_form.specs.declared.asks.Ask.{Ask}
use Rattle.layout_form.specs.declared.asks.Ask.TheVariants.{AsBox}
use Rattle.layout_form.specs.Fits.{CanAllBeLaidOut}
use Rattle.layout_form.specs.Object.{Setting}
use Rattle.render_tree.specs.Object.{RenderObject}
use Rattle.render_tree.specs.Plain.{renders_of}
use Rattle.layout_walk.specs.Node.{LayoutNode, asked}
use Rattle.layout_walk.specs.Here.{HereAll}
use Rattle.layout_walk.specs.Rules.{parts_of}
use Rattle.layout_rules.specs.Nodes.{layout_nodes}

-- between two flushes each node agrees with its children: what is stored of one that needn't be laid out is what its rule gives, and
-- marks reach the parent; and the tree can be laid out
pub record Good (s : Setting) (f : Forest RenderObject) : Type 0 where
  pub here : HereAll (parts_of s) (layout_nodes f)
  pub fits : CanAllBeLaidOut (renders_of f)

-- the render node of a root's tree, if there is one
abbrev pub top_render : Renders → Option Render
top_render no_renders = None
top_render (more_renders r rs) = Some r

-- a root's tree as a flush sees it: the root is in the window, at its start
abbrev pub in_window : Forest LayoutNode → Forest LayoutNode
in_window none = none
in_window (tree h v kids rest) = tree h (record v { shown = true; offset = Some origin }) kids rest

abbrev pub rooted : Forest RenderObject → Forest LayoutNode
rooted f = in_window (layout_nodes f)

-- a flush asks the root to be as large as the view
abbrev pub view_asks : Size → List (Option Ask)
view_asks view = Some (AsBox (tight view)) ∷ []

-- a root that needn't be laid out was asked so in its last layout
abbrev pub AskedFirst : Size → Forest LayoutNode → Type 0
AskedFirst view none = Unit {0}
AskedFirst view (tree h v kids rest) = v.needs_layout ≡ false → asked v ≡ Some (AsBox (tight view))

abbrev pub IsAskedAs : Size → Forest RenderObject → Type 0
IsAskedAs view f = AskedFirst view (layout_nodes f)

-- the root is in the window, at its start
abbrev pub IsPlaced : Forest RenderObject → Type 0
IsPlaced none = ⊥
IsPlaced (tree h o below rest) = (o.shown ≡ true) × (o.offset ≡ Some origin)

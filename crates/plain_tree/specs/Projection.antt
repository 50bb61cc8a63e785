-- Which nodes of a tree are laid out, and what each is told by the widgets between it and the one above.
use Rattle.std.specs.Prelude.{ℕ, false, Option, Some, None, List, [], ◌++◌, ◌∷◌, if◌then◌else◌}
use Rattle.widget_model.specs.Plain.{look_of, children_of as child_widgets}
use Rattle.plain_tree.specs.declared.render.ParentData.{ParentData}
use Rattle.plain_tree.specs.declared.role.RenderRole.{RenderRole}
use Rattle.plain_tree.specs.declared.role.RenderRole.TheVariants.{Shares, Places, Line, Pile, Lazy, Window, Plain}
use Rattle.plain_tree.specs.PlainNode.{PlainNode, node, PlainNodes, no_nodes, more_nodes}
use Rattle.plain_tree.specs.RenderRole.{render_role_of, vanishes}
use Rattle.plain_tree.specs.Render.{Render, render, renders_of, lazy_count}

-- what a node right below a render node is told before any widget between them speaks: its place, where the one above is
-- a SliverLazy
abbrev pub first_told : RenderRole → ℕ → ParentData
first_told Lazy index = record { flex = 0; tight = false; placed = None; index = index }
first_told _ index = record { flex = 0; tight = false; placed = None; index = 0 }

-- what is told below a widget between two render nodes, after what was told above it: a Flexible is heard by a Row or
-- Column and a Positioned by a Stack, and what stands nearer to the child counts
abbrev pub told_by : RenderRole → RenderRole → ParentData → ParentData
told_by Line (Shares flex tight) d = record d { flex = flex; tight = tight }
told_by Pile (Places placed) d = record d { placed = Some placed }
told_by _ _ d = d

-- what a node is told that stands at a place among its parent's child widgets: what the widgets above it told, or, right
-- below a render node, the first of it
abbrev pub told_at : RenderRole → Option ParentData → ℕ → ParentData
told_at above (Some told) index = told
told_at above None index = first_told above index

-- how far a render node is scrolled: only a Viewport is
abbrev pub scroll_in : RenderRole → ℕ → ℕ
scroll_in Window scroll = scroll
scroll_in _ scroll = 0

-- the render nodes that a node gives below a render node of a role, where the widgets between them told something: itself
-- with those below it, or, where it has none of its own, those that its children give
unfoldable mutual
  pub projected : RenderRole → Option ParentData → PlainNode → List Render
  projected above told (node number widget fields scroll index children) =
      let role = render_role_of (look_of widget) in
      let parent_data = told_at above told index in
      if vanishes role
      then projected_all above (Some (told_by above role parent_data)) children
      else (render number (look_of widget) parent_data (scroll_in role scroll) (lazy_count role (child_widgets widget)) (renders_of (projected_all role None children)) ∷ [])

  pub projected_all : RenderRole → Option ParentData → PlainNodes → List Render
  projected_all above told no_nodes = []
  projected_all above told (more_nodes n ns) = projected above told n ++ projected_all above told ns

-- the render nodes of a tree
abbrev pub render_of : PlainNode → List Render
render_of root = projected Plain None root

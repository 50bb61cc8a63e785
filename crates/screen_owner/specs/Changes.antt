-- What lines between two frames change of a screen.
use Rattle.std.specs.Prelude.{◌≡◌, ℕ, ◌==◌, ◌&&◌, true, Some, option_map, List, [], ◌∷◌, if◌then◌else◌}
use Rattle.fx_handles.specs.declared.Handle.{Handle}
use Rattle.node_tree.specs.Tree.{Tree}
use Rattle.widget_model.specs.Plain.{PlainWidget}
use Rattle.work_roles.specs.WorkRole.{is_repaint_boundary}
use Rattle.plain_tree.specs.Render.{Render, render, Renders, no_renders, more_renders}
use Rattle.tree_marks.specs.Marks.{listed}
use Rattle.render_tree.specs.Edits.{Writes, with_scroll}
use Rattle.render_tree.specs.Marked.{SetsMarks}
use Rattle.render_tree.specs.Marks.{layout_marks, paint_marks}
use Rattle.render_tree.specs.Object.{RenderObject, is_viewport}
use Rattle.render_tree.specs.Tree.{object_at}
use Rattle.render_tree.specs.Users.{uses}
use Rattle.kept_layers.specs.Group.{is_boundary}

-- what a build knows of a render node: its number, its widget, and how far it is scrolled
pub record BuiltNode : Type 0 where
  pub number : ℕ
  pub widget : PlainWidget
  pub scroll : ℕ

abbrev pub built_node : RenderObject → BuiltNode
built_node o = record { number = o.number; widget = o.widget; scroll = o.scroll }

-- the same nodes are there, and a build knows the same of each
abbrev pub SameBuilt : Tree RenderObject → Tree RenderObject → Type 0
SameBuilt old new = (k : Handle) → option_map built_node (object_at new k) ≡ option_map built_node (object_at old k)

-- the Viewport with a number, if there is one, is scrolled so far
abbrev pub scrolled_to : ℕ → ℕ → RenderObject → RenderObject
scrolled_to number scroll o = if o.number == number && is_viewport o then with_scroll scroll o else o

abbrev pub Scrolls : ℕ → ℕ → Tree RenderObject → Tree RenderObject → Type 0
Scrolls number scroll old new = (k : Handle) → option_map built_node (object_at new k) ≡ option_map (λ o. built_node (scrolled_to number scroll o)) (object_at old k)

-- ---- the render nodes of a build

-- a render node is a RepaintBoundary exactly where the node of the tree with its number is
abbrev mutual
  pub AreKindsSo : Tree RenderObject → Render → Type 0
  AreKindsSo t (render number look told scroll count children) =
      ((h : Handle) (o : RenderObject) → object_at t h ≡ Some o → o.number ≡ number → is_repaint_boundary look ≡ is_boundary o) × AllKindsSo t children

  pub AllKindsSo : Tree RenderObject → Renders → Type 0
  AllKindsSo t no_renders = Unit {0}
  AllKindsSo t (more_renders r rs) = AreKindsSo t r × AllKindsSo t rs

-- ---- what is marked

-- the Viewport with a number is scrolled and marked for layout, and nothing else changes
pub record MarksScrolled (number scroll : ℕ) (old new : Tree RenderObject) : Type 0 where
  pub at : Handle
  pub object : RenderObject
  pub there : object_at old at ≡ Some object
  pub number_is : object.number ≡ number
  pub viewport : is_viewport object ≡ true
  pub scrolled : Tree RenderObject
  pub writes : Writes old scrolled at (with_scroll scroll object)
  pub marks : SetsMarks layout_marks true (at ∷ []) scrolled new

-- exactly the nodes that use the delegate of a name are marked, for layout and for painting, and nothing else changes
pub record MarksUsers (name : List ℕ) (old new : Tree RenderObject) : Type 0 where
  pub users : List Handle
  pub each : (k : Handle) → listed k users ≡ uses old name k
  pub laid : Tree RenderObject
  pub layouts : SetsMarks layout_marks true users old laid
  pub paints : SetsMarks paint_marks true users laid new

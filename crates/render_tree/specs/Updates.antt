-- What a node's other widget changes.
use Rattle.std.specs.Prelude.{◌≡◌, Option, Some}
use Rattle.fx_handles.specs.declared.Handle.{Handle}
use Rattle.node_tree.specs.Tree.{Tree, parent_at}
use Rattle.widget_model.specs.Plain.{PlainWidget, look_of, children_of}
use Rattle.plain_tree.specs.RenderRole.{render_role_of}
use Rattle.plain_tree.specs.Render.{lazy_count}
use Rattle.work_roles.specs.ForLayout.{for_layout}
use Rattle.work_roles.specs.WorkRole.{is_offstage, is_viewport}
use Rattle.tree_marks.specs.Marking.{Marking}
use Rattle.render_tree.specs.Object.{RenderObject}
use Rattle.render_tree.specs.Marks.{layout_marks, paint_marks}
use Rattle.render_tree.specs.Edits.{Writes, with_widget}
use Rattle.render_tree.specs.Calls.{Then, MarksAt}

-- a layout reads the same of two widgets: their kinds but for members that no layout reads, and how many child widgets a
-- SliverLazy has
pub record IsReadSame (p q : PlainWidget) : Type 0 where
  pub look : for_layout (look_of p) ≡ for_layout (look_of q)
  pub count : lazy_count (render_role_of (look_of p)) (children_of p) ≡ lazy_count (render_role_of (look_of q)) (children_of q)

-- the size of a box follows from its bounds alone in the same way
pub record EndsSame (p q : PlainWidget) : Type 0 where
  pub scrolled : is_viewport (look_of p) ≡ is_viewport (look_of q)
  pub hidden : is_offstage (look_of p) ≡ is_offstage (look_of q)

-- a node is marked, if one is given, unless this holds
pub record MarksUnless (m : Marking RenderObject) (P : Type 0) (h : Option Handle) (old new : Tree RenderObject) : Type 0 where
  pub same : P → new ≡ old
  pub other : (P → ⊥) → MarksAt m h old new

-- a node has another widget, and then the node and its parent are marked for layout and the node for painting, each unless what
-- it goes by is the same
abbrev pub Updated : Tree RenderObject → Tree RenderObject → Handle → RenderObject → PlainWidget → Type 0
Updated old new h o p =
    Then (λ a. Writes old a h (with_widget p o))
    (λ a. Then (MarksUnless layout_marks (IsReadSame o.widget p) (Some h) a)
    (λ b. Then (MarksUnless layout_marks (EndsSame o.widget p) (parent_at old h) b)
    (λ c. MarksUnless paint_marks (look_of o.widget ≡ look_of p) (Some h) c new)))

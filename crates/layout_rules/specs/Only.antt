-- Boxes whose rule knows one child, and that have one.
use Rattle.std.specs.Prelude.{◌≡◌, ◌<◌, true, List, [], ◌∷◌, Some}
use Rattle.fx_geom.specs.declared.boxes.Bounds.{Bounds}
use Rattle.fx_handles.specs.declared.Handle.{Handle}
use Rattle.node_tree.specs.Forest.{size}
use Rattle.node_tree.specs.Tree.{Tree, children_at, subtree_at}
use Rattle.plain_tree.specs.declared.render.ParentData.{ParentData}
use Rattle.plain_tree.specs.Render.{Render}
use Rattle.layout_form.specs.declared.asks.Ask.TheVariants.{AsBox}
use Rattle.layout_form.specs.Object.{Setting}
use Rattle.kind_rules.specs.Cursor.{look_of}
use Rattle.kind_rules.specs.Single.{is_single}
use Rattle.render_tree.specs.Object.{RenderObject}
use Rattle.layout_rules.specs.declared.duties.Course.{Course}
use Rattle.layout_rules.specs.declared.duties.Course.TheVariants.{Run}
use Rattle.layout_rules.specs.Places.{render_at}
use Rattle.layout_rules.specs.Reads.{first_by}

-- the rule of a box knows one child, and asks it in these bounds, whatever it was told
pub record AsksOne (s : Setting) (r : Render) (b inner : Bounds) : Type 0 where
  pub single : is_single (look_of r) ≡ true
  pub asks : (ds : List ParentData) → Some (AsBox inner) ∷ [] ≡ first_by s r (AsBox b) ds

-- the rule of a box is run that has one child, and knows one
pub record HasOne (s : Setting) (t : Tree RenderObject) (h : Handle) (course : Course) (child : Handle) (b inner : Bounds) : Type 0 where
  pub runs : course ≡ Run (AsBox b)
  pub one : children_at t h ≡ child ∷ []
  pub smaller : size (subtree_at t child) < size (subtree_at t h)
  pub asks : AsksOne s (render_at t h) b inner

-- What a plan for a whole new tree changes of a render node.
use Rattle.std.specs.Prelude.{refl}
use Rattle.std.specs.Coded.{Coded, code_by, coded×}
use Rattle.widget_model.specs.Plain.{PlainWidget}
use Rattle.plain_tree.specs.declared.render.ParentData.{ParentData}
use Rattle.plain_tree.specs.RenderCode.{coded_parent_data}
use Rattle.render_tree.specs.Object.{RenderObject, coded_widget}

-- the widget that a node has from now on, and what its parent takes from the widgets between them
pub record Redraw : Type 0 where
  pub widget : PlainWidget
  pub parent_data : ParentData

abbrev pub redraw_code : Coded Redraw
redraw_code =
    code_by (PlainWidget × ParentData) (coded× coded_widget coded_parent_data) (λ u. (u.widget, u.parent_data)) (λ p. record { widget = p.0; parent_data = p.1 }) (λ _. refl)

-- a node after it: all else stays as it is
abbrev pub redrawn : Redraw → RenderObject → RenderObject
redrawn u o = record o { widget = u.widget; parent_data = u.parent_data }

-- What a plan for a whole new tree changes of an element.
use Rattle.std.specs.Prelude.{◌≡◌, ℕ, false, Option, Some, List, All}
use Rattle.std.specs.Coded.{Coded, code_by, coded×, coded_ℕ, coded_option}
use Rattle.std.specs.Prelude.{refl}
use Rattle.fx_handles.specs.declared.Handle.{Handle}
use Rattle.fx_expr.specs.declared.values.Value.{Value}
use Rattle.widget_model.specs.Plain.{PlainWidget}
use Rattle.node_tree.specs.Tree.{Tree, handle_code}
use Rattle.node_tree.specs.Plan.{PlanEntry}
use Rattle.element_tree.specs.Element.{Element, element_at, coded_widget}
use Rattle.element_tree.specs.Fields.{CanFollow}
use Rattle.element_tree.specs.Edits.{new_element}

-- the widget that an element has from now on, its place among its parent's child widgets, what its body gave, and the handle
-- of its render node
pub record Renewal : Type 0 where
  pub widget : PlainWidget
  pub index : ℕ
  pub output : Option PlainWidget
  pub render : Option Handle

abbrev pub renewal_code : Coded Renewal
renewal_code =
    code_by
    (PlainWidget × (ℕ × (Option PlainWidget × Option Handle)))
    (coded× coded_widget (coded× coded_ℕ (coded× (coded_option coded_widget) (coded_option handle_code))))
    (λ u. (u.widget, (u.index, (u.output, u.render))))
    (λ p. record { widget = p.0; index = p.1.0; output = p.1.1.0; render = p.1.1.1 })
    (λ _. refl)

-- an element after it: it keeps its number and its fields, and isn't to be built anew
abbrev pub renewed : Renewal → Element → Element
renewed u e = record e { widget = u.widget; index = u.index; dirty = false; output = u.output; render = u.render }

-- an element that was made just now and built at once, with this number and these fields
abbrev pub mounted : ℕ → List Value → Renewal → Element
mounted number fields u = renewed u (new_element number u.widget fields)

-- the widget that an entry of a plan gives to an element may follow the one that it has
abbrev pub FollowsAt : Tree Element → PlanEntry Renewal → Type 0
FollowsAt t x = (e : Element) → element_at t x.at ≡ Some e → CanFollow e.widget x.update.widget

-- so it is of each entry of a plan
abbrev pub FollowsIn : Tree Element → List (PlanEntry Renewal) → Type 0
FollowsIn t es = All (FollowsAt t) es

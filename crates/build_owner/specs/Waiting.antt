-- What waits between the two phases of a build.
use Rattle.std.specs.Prelude.{ℕ, List, refl}
use Rattle.std.specs.Coded.{Coded, code_by, coded×, coded_ℕ, coded_list}
use Rattle.fx_expr.specs.declared.values.Value.{Value as AnyValue}
use Rattle.fx_handles.specs.declared.Handle.{Handle}
use Rattle.node_tree.specs.Tree.{handle_code}
use Rattle.widget_model.specs.LookCode.{coded_values}
use Rattle.widget_model.specs.Plain.{PlainWidget}
use Rattle.element_tree.specs.Element.{coded_widget}
use Rattle.build_walk.specs.Serving.{WaitingList}
use Rattle.build_owner.specs.contracts.walk.BuildWalk as walk_rows
use Rattle.build_owner.specs.declared.walk.BuildWalk.{BuildWalk}

-- the element at the root; the lazy lists that wait for their items, in order; and what is planned, which the second phase carries out
pub record WaitingBuild : Type 0 where
  pub root : Handle
  pub lists : List WaitingList
  pub plan : BuildWalk

-- a list that waits is stored as the tuple of its fields
abbrev pub list_code : Coded WaitingList
list_code =
    code_by
    (ℕ × (ℕ × (List PlainWidget × (ℕ × List AnyValue))))
    (coded× coded_ℕ (coded× coded_ℕ (coded× (coded_list coded_widget) (coded× coded_ℕ coded_values))))
    (λ l. (l.number, (l.extent, (l.widgets, (l.left, l.values)))))
    (λ p. record { number = p.0; extent = p.1.0; widgets = p.1.1.0; left = p.1.1.1.0; values = p.1.1.1.1 })
    (λ _. refl)

abbrev pub waiting_build_code : Coded WaitingBuild
waiting_build_code =
    code_by (Handle × (List WaitingList × BuildWalk)) (coded× handle_code (coded× (coded_list list_code) (walk_rows.the_row).coded)) (λ b. (b.root, (b.lists, b.plan)))
    (λ p. record { root = p.0; lists = p.1.0; plan = p.1.1 }) (λ _. refl)

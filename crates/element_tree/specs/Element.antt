-- What an element is, and what a contract sees of a tree of elements.
use Rattle.std.specs.Prelude.{ℕ, Bool, false, Option, Some, None, List, option_map, refl}
use Rattle.std.specs.Coded.{Coded, code_by, coded×, coded_ℕ, coded_bool, coded_option}
use Rattle.fx_handles.specs.declared.Handle.{Handle}
use Rattle.fx_handles.specs.Arena.{inserted_count}
use Rattle.fx_expr.specs.declared.values.Value.{Value}
use Rattle.widget_model.specs.Plain.{PlainWidget}
use Rattle.widget_model.specs.PlainCode.{widget_code, widget_inj}
use Rattle.widget_model.specs.LookCode.{coded_values}
use Rattle.node_tree.specs.Tree.{Tree, handle_code, tree_code, value_at}

-- an element: its number, its widget, the values of its fields, its place among its parent's child widgets, whether it is to
-- be built anew, what its body gave when it was built last, and the handle of its render node
pub record Element : Type 0 where
  pub number : ℕ
  pub widget : PlainWidget
  pub fields : List Value
  pub index : ℕ
  pub dirty : Bool
  pub output : Option PlainWidget
  pub render : Option Handle

-- the elements, and whether the tree is spent: then it takes no memory any more
pub record Elements : Type 0 where
  pub tree : Tree Element
  pub spent : Bool

abbrev pub coded_widget : Coded PlainWidget
coded_widget = record { code = widget_code; inj = widget_inj }

-- an element is stored as the tuple of its fields
abbrev pub element_code : Coded Element
element_code =
    code_by
    (ℕ × (PlainWidget × (List Value × (ℕ × (Bool × (Option PlainWidget × Option Handle))))))
    (coded× coded_ℕ (coded× coded_widget (coded× coded_values (coded× coded_ℕ (coded× coded_bool (coded× (coded_option coded_widget) (coded_option handle_code)))))))
    (λ e. (e.number, (e.widget, (e.fields, (e.index, (e.dirty, (e.output, e.render)))))))
    (λ p. record {
      number = p.0;
      widget = p.1.0;
      fields = p.1.1.0;
      index = p.1.1.1.0;
      dirty = p.1.1.1.1.0;
      output = p.1.1.1.1.1.0;
      render = p.1.1.1.1.1.1;
    })
    (λ _. refl)

abbrev pub elements_code : Coded Elements
elements_code =
    code_by (Tree Element × Bool) (coded× (tree_code element_code) coded_bool) (λ t. (t.tree, t.spent)) (λ p. record { tree = p.0; spent = p.1 }) (λ _. refl)

-- the element at a handle, where it is live
abbrev pub element_at : Tree Element → Handle → Option Element
element_at t h = value_at t h

-- its number
abbrev pub number_at : Tree Element → Handle → Option ℕ
number_at t h = option_map (λ e. e.number) (element_at t h)

-- how many elements were made so far: those that are there, and those that were taken away
abbrev pub made_count : Tree Element → ℕ
made_count t = inserted_count t.nodes

-- whether an element is to be built anew, which none is that isn't there
abbrev pub is_flagged : Option Element → Bool
is_flagged None = false
is_flagged (Some e) = e.dirty

-- Fields of elements: what their widgets declare, and what gives one of them a value.
use Rattle.std.specs.Prelude.{◌≡◌, ℕ, Bool, true, Option, Some, None, Result, Ok, Err, List, [], ◌∷◌, map, slice_set}
use Rattle.std.specs.List.{find, position_or_len}
use Rattle.std.specs.Str.{bytes_eq}
use Rattle.fx_expr.specs.declared.values.Ty.{Ty}
use Rattle.fx_expr.specs.declared.values.Ty.TheVariants as ty
use Rattle.fx_expr.specs.declared.values.Value.{Value}
use Rattle.fx_expr.specs.declared.values.Value.TheVariants as value
use Rattle.fx_expr.specs.Value.{type_of}
use Rattle.widget_model.specs.Look.{Look, component}
use Rattle.widget_model.specs.Plain.{PlainWidget, look_of}
use Rattle.widget_model.specs.Update.{CanUpdate}
use Rattle.element_tree.specs.Element.{Element}
use Rattle.element_tree.specs.declared.fields.SetFault.{SetFault}
use Rattle.element_tree.specs.declared.fields.SetFault.TheVariants.{NotStateful, NoField, WrongType}

-- the fields that a kind declares, each a name and a type: a component does
abbrev pub declared : Look → List (List ℕ × Ty)
declared (component place props declaration) = declaration.fields
declared _ = []

-- fields are those that the widget declares, in number and types
abbrev pub AreDeclared : PlainWidget → List Value → Type 0
AreDeclared w fields = map type_of fields ≡ map (λ (d : List ℕ × Ty). d.1) (declared (look_of w))

-- a widget may take the place of another one, and declares the same fields
pub record CanFollow (a b : PlainWidget) : Type 0 where
  pub updates : CanUpdate a b
  pub fields : declared (look_of b) ≡ declared (look_of a)

-- what a field of a type holds once it was given a value: the value, where it has the type. An empty list of one of the two
-- list types is also one of the other
abbrev pub fitted : Ty → Value → Option Value
fitted ty.Int (value.Int n) = Some (value.Int n)
fitted ty.Bool (value.Bool b) = Some (value.Bool b)
fitted ty.Text (value.Text t) = Some (value.Text t)
fitted ty.Ints (value.Ints ns) = Some (value.Ints ns)
fitted ty.Ints (value.Texts []) = Some (value.Ints [])
fitted ty.Texts (value.Texts ts) = Some (value.Texts ts)
fitted ty.Texts (value.Ints []) = Some (value.Texts [])
fitted _ _ = None

-- a declared field has this name
abbrev pub is_named : List ℕ → List ℕ × Ty → Bool
is_named name d = bytes_eq name d.0

-- an element with a value in the field at a place, to be built anew
abbrev pub with_value : ℕ → Value → Element → Element
with_value place v e = record e { fields = slice_set e.fields place v; dirty = true }

abbrev pub with_fitted : Element → ℕ → Option Value → Result Element SetFault
with_fitted e place None = Err WrongType
with_fitted e place (Some v) = Ok (with_value place v e)

abbrev pub with_found : Element → Option (List ℕ × Ty) → ℕ → Value → Result Element SetFault
with_found e None place v = Err NoField
with_found e (Some d) place v = with_fitted e place (fitted d.1 v)

abbrev pub with_declared : Element → List (List ℕ × Ty) → List ℕ → Value → Result Element SetFault
with_declared e [] name v = Err NotStateful
with_declared e (d ∷ ds) name v = with_found e (find (is_named name) (d ∷ ds)) (position_or_len (is_named name) (d ∷ ds)) v

-- what an element becomes once its first field of this name is given a value, or why it isn't: its widget declares no field,
-- or none of this name, or one of another type
abbrev pub with_field : Element → List ℕ → Value → Result Element SetFault
with_field e name v = with_declared e (declared (look_of e.widget)) name v

-- an element with other fields, to be built anew
abbrev pub with_fields : List Value → Element → Element
with_fields fields e = record e { fields = fields; dirty = true }

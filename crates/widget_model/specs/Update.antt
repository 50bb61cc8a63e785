-- Which widget of a new tree may take the place of one of the old tree.
use Rattle.std.specs.Prelude.{◌≡◌, Bool, ◌&&◌}
use Rattle.fx_expr.specs.declared.values.Value.{Value}
use Rattle.fx_expr.specs.Value.{value_eq}
use Rattle.widget_keys.specs.declared.keys.Key.{Key}
use Rattle.widget_keys.specs.Key.{keys_equal}
use Rattle.widget_model.specs.Plain.{PlainWidget, look_of, key_of}
use Rattle.widget_model.specs.WidgetType.{type_of, type_eq}

-- two keys are equal; two absent ones are
abbrev pub key_eq : Key Value → Key Value → Bool
key_eq a b = keys_equal value_eq a b

-- two widgets are of one type
abbrev pub same_type : PlainWidget → PlainWidget → Bool
same_type a b = type_eq (type_of (look_of a)) (type_of (look_of b))

-- two widgets are of one type and have equal keys
abbrev pub updates : PlainWidget → PlainWidget → Bool
updates a b = same_type a b && key_eq (key_of a) (key_of b)

-- the same as facts
abbrev pub IsSameType : PlainWidget → PlainWidget → Type 0
IsSameType a b = type_of (look_of a) ≡ type_of (look_of b)

pub record CanUpdate (a b : PlainWidget) : Type 0 where
  pub type : IsSameType a b
  pub key : key_of a ≡ key_of b

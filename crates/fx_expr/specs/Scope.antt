-- What an expression can name: values, each at its place.
use Rattle.std.specs.Prelude.{ℕ, ℤ, pos, List, [], map, slice_index_or}
use Rattle.fx_expr.specs.declared.values.Value.{Value}
use Rattle.fx_expr.specs.declared.values.Value.TheVariants as value
use Rattle.fx_expr.specs.declared.values.Ty.{Ty}
use Rattle.fx_expr.specs.Value.{type_of}

-- the values that are in scope, and the movement of the event
pub record Env : Type 0 where
  pub fields : List Value
  pub props : List Value
  pub vars : List Value
  pub inherited : List Value
  pub dx : ℤ
  pub dy : ℤ

-- the types of the values that are in scope
pub record Types : Type 0 where
  pub fields : List Ty
  pub props : List Ty
  pub vars : List Ty
  pub inherited : List Ty

abbrev pub types_in : Env → Types
types_in s = record {
  fields = map type_of s.fields;
  props = map type_of s.props;
  vars = map type_of s.vars;
  inherited = map type_of s.inherited;
}

-- the value at a place; 0 where there is none
abbrev pub value_at : List Value → ℕ → Value
value_at vs i = slice_index_or vs i (value.Int (pos 0))

-- a later scope with the props, loop variables and inherited values of an earlier one
abbrev pub with_names : Env → Env → Env
with_names earlier later = record {
  fields = later.fields;
  props = earlier.props;
  vars = earlier.vars;
  inherited = earlier.inherited;
  dx = later.dx;
  dy = later.dy;
}

-- fields and an event, and no other name
abbrev pub fields_alone : List Value → ℤ → ℤ → Env
fields_alone vs x y = record { fields = vs; props = []; vars = []; inherited = []; dx = x; dy = y }

-- types of fields, and of no other name
abbrev pub field_types_alone : List Ty → Types
field_types_alone ts = record { fields = ts; props = []; vars = []; inherited = [] }

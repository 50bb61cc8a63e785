-- The names that an expression can use.
use Rattle.std.specs.Prelude.{ℕ, ◌+◌, List, [], ◌∷◌, map, Bool, if◌then◌else◌, Option, Some, None, option_map}
use Rattle.std.specs.Option.{option_or}
use Rattle.std.specs.Str.{bytes_eq}
use Rattle.fx_expr.specs.declared.values.Ty.{Ty}
use Rattle.fx_expr.specs.Scope.{Types}

-- names with their types, in order
abbrev pub NamedTypes : Type 0
NamedTypes = List (List ℕ × Ty)

-- the same place in a list that has one more in front
abbrev pub one_later : ℕ × Ty → ℕ × Ty
one_later p = (p.0 + 1, p.1)

-- the place of the first of a name, counted from 0, and its type
abbrev pub place_of : NamedTypes → List ℕ → Option (ℕ × Ty)
place_of [] name = None
place_of (d ∷ ds) name = if bytes_eq name d.0 then Some (0, d.1) else option_map one_later (place_of ds name)

-- the place of the last of a name, and its type: a later one hides an earlier one
abbrev pub latest_of : NamedTypes → List ℕ → Option (ℕ × Ty)
latest_of [] name = None
latest_of (d ∷ ds) name =
    option_or (option_map one_later (latest_of ds name)) (if bytes_eq name d.0 then Some (0, d.1) else None)

-- what an expression can name, and whether it sees the event of a gesture; loop variables stand from the outermost loop on
pub record PlainNames : Type 0 where
  pub fields : NamedTypes
  pub props : NamedTypes
  pub vars : NamedTypes
  pub inherited : NamedTypes
  pub event : Bool

-- their types, each at its place
abbrev pub types_in : NamedTypes → List Ty
types_in ds = map (λ d. d.1) ds

abbrev pub types_of : PlainNames → Types
types_of names = record {
  fields = types_in names.fields;
  props = types_in names.props;
  vars = types_in names.vars;
  inherited = types_in names.inherited;
}

-- What a handler does: its sets, in order, each over the fields that the earlier ones left.
use Rattle.std.specs.Prelude.{◌≡◌, ℕ, ℤ, Some, List, [], ◌∷◌, slice_get, slice_set}
use Rattle.fx_expr.specs.declared.values.Value.{Value}
use Rattle.fx_expr.specs.declared.values.Ty.{Ty}
use Rattle.fx_expr.specs.Exp.{Exp}
use Rattle.fx_expr.specs.Scope.{fields_alone, field_types_alone}
use Rattle.fx_expr.specs.ValueOf.{value_of}
use Rattle.fx_expr.specs.Typed.{IsTyped}
use Rattle.fx_expr.specs.Closed.{IsClosed}

-- the fields after sets, at an event's movement
abbrev pub fields_after : List (ℕ × Exp) → List Value → ℤ → ℤ → List Value
fields_after [] fields dx dy = fields
fields_after (set ∷ sets) fields dx dy =
    fields_after sets (slice_set fields set.0 (value_of set.1 (fields_alone fields dx dy))) dx dy

-- the sets fit fields of these types: each sets one of them, by a closed expression of its type that names fields alone
abbrev pub FitFields : List Ty → List (ℕ × Exp) → Type 0
FitFields types [] = Unit {0}
FitFields types (set ∷ sets) =
    ((t : Ty) × (slice_get types set.0 ≡ Some t) × IsClosed set.1 × IsTyped (field_types_alone types) set.1 t)
    × FitFields types sets

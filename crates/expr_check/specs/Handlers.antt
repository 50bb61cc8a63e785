-- A handler's check: the fields that it sets are found, and its expressions and their types tested, or what is wrong first.
use Rattle.std.specs.Prelude.{◌≡◌, ℕ, List, [], ◌∷◌, map, true, Some, slice_get}
use Rattle.fx_expr.specs.declared.values.Ty.{Ty}
use Rattle.fx_expr.specs.Exp.{Exp}
use Rattle.fx_expr.specs.Scope.{Types}
use Rattle.fx_expr.specs.Typed.{IsTyped}
use Rattle.program_form.specs.Form.{PlainForm}
use Rattle.program_form.specs.Handler.{PlainSet}
use Rattle.expr_check.specs.declared.wants.Want.{Want}
use Rattle.expr_check.specs.declared.wants.Want.TheVariants as want
use Rattle.expr_check.specs.Check.{Check, and_then, given, in_order}
use Rattle.expr_check.specs.Names.{PlainNames, place_of}
use Rattle.expr_check.specs.Exprs.{TypedExp, or_missing, fits, typed_form}

-- an expression of a type that is asked for: the expression first, and then its type
abbrev pub typed_as : PlainNames → Want → PlainForm → Check TypedExp
typed_as names want f = and_then (typed_form names f) (λ e. given (λ _. e) (fits want e.ty))

-- the same names, and the event
abbrev pub with_event : PlainNames → PlainNames
with_event names = record { fields = names.fields; props = names.props; vars = names.vars; inherited = names.inherited; event = true }

-- a set of a handler: its field, its expression, and then its type
unfoldable pub checked_set : PlainNames → PlainSet → Check (ℕ × Exp)
checked_set names s =
    and_then (or_missing (place_of names.fields s.name)) (λ f.
    given (λ e. (f.0, e.exp)) (typed_as (with_event names) (want.Exactly f.1) s.value))

abbrev pub checked_handler : PlainNames → List PlainSet → Check (List (ℕ × Exp))
checked_handler names sets = in_order (map (checked_set names) sets)

-- ---- what a checked handler is

-- a set has the place of a field, and an expression of the field's type
abbrev pub IsTypedSet : Types → ℕ × Exp → Type 0
IsTypedSet T set = (t : Ty) × (slice_get T.fields set.0 ≡ Some t) × IsTyped T set.1 t

abbrev pub AreTypedSets : Types → List (ℕ × Exp) → Type 0
AreTypedSets T [] = Unit {0}
AreTypedSets T (set ∷ sets) = IsTypedSet T set × AreTypedSets T sets

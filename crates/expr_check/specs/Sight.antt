-- What an expression is typed in, and whether it reads the event of a gesture.
use Rattle.std.specs.Prelude.{◌≡◌, Bool, true}
use Rattle.fx_expr.specs.declared.values.Ty.{Ty}
use Rattle.fx_expr.specs.Exp.{Exp}
use Rattle.fx_expr.specs.Scope.{Types}
use Rattle.fx_expr.specs.SomeForm.{reads_event}
use Rattle.fx_expr.specs.Typed.{IsTyped}
use Rattle.expr_check.specs.Names.{PlainNames, types_of}

-- what an expression is typed in: the types of what it can name, and whether it sees the event of a gesture
pub record Sight : Type 0 where
  pub types : Types
  pub event : Bool

abbrev pub sight : Types → Bool → Sight
sight types event = record { types = types; event = event }

abbrev pub sight_of : PlainNames → Sight
sight_of names = sight (types_of names) names.event

-- an expression is typed where it stands: it has the type over the types of what it can name, and reads the event only
-- where that is seen
abbrev pub IsTypedIn : Sight → Exp → Ty → Type 0
IsTypedIn S e t = IsTyped S.types e t × (reads_event e ≡ true → S.event ≡ true)

-- An expression as it is written, with its names found and its types tested, or what is wrong first.
use Rattle.std.specs.Prelude.{ℕ, List, [], ◌∷◌, ◌+◌, Bool, if◌then◌else◌, Option, Some, None, Ok, Err, ⊤}
use Rattle.fx_expr.specs.declared.values.Ty.{Ty}
use Rattle.fx_expr.specs.declared.values.Ty.TheVariants as ty
use Rattle.fx_expr.specs.Value.{type_of}
use Rattle.fx_expr.specs.Exp as exp
use Rattle.fx_expr.specs.Exp.{Exp}
use Rattle.program_form.specs.declared.operators.Operator.{Operator}
use Rattle.program_form.specs.Operators.{takes}
use Rattle.program_form.specs.Form.{PlainForm, literal, field, prop, variable, inherited, event_dx, event_dy, operation, PlainForms, no_forms, form}
use Rattle.expr_check.specs.declared.fault.CheckCode.TheVariants.{MissingName, WrongType}
use Rattle.expr_check.specs.declared.wants.Want.{Want}
use Rattle.expr_check.specs.declared.wants.Seen.{Seen}
use Rattle.expr_check.specs.Check.{Check, and_then, given}
use Rattle.expr_check.specs.Names.{PlainNames, place_of, latest_of}
use Rattle.expr_check.specs.Wants.{meets, none_seen, with_type, wanted, given_type}
use Rattle.expr_check.specs.Built.{built}

-- an expression and its type
pub record TypedExp : Type 0 where
  pub exp : Exp
  pub ty : Ty

abbrev pub typed : Exp → Ty → TypedExp
typed e t = record { exp = e; ty = t }

-- the place and the type of a name that was looked up
abbrev pub or_missing : Option (ℕ × Ty) → Check (ℕ × Ty)
or_missing None = Err MissingName
or_missing (Some p) = Ok p

-- a value in scope, where its name is there
abbrev pub placed : (ℕ → Exp) → ℕ × Ty → TypedExp
placed make p = typed (make p.0) p.1

abbrev pub named : (ℕ → Exp) → Option (ℕ × Ty) → Check TypedExp
named make found = given (placed make) (or_missing found)

-- the movement of an event, where it is seen
abbrev pub moved : Exp → Bool → Check TypedExp
moved e seen = if seen then Ok (typed e ty.Int) else Err MissingName

-- the type of an operand is one of those asked for
abbrev pub fits : Want → Ty → Check ⊤
fits want t = if meets want t then Ok tt else Err WrongType

-- operands, and the types of the first two
pub record TypedOperands : Type 0 where
  pub exps : List Exp
  pub seen : Seen

abbrev pub operands_with : List Exp → Seen → TypedOperands
operands_with es seen = record { exps = es; seen = seen }

abbrev pub with_front : Exp → TypedOperands → TypedOperands
with_front e o = operands_with (e ∷ o.exps) o.seen

-- operands in order: each its expression, and then its type
abbrev pub typed_operands : Operator → Seen → List (Check TypedExp) → Check TypedOperands
typed_operands operator seen [] = Ok (operands_with [] seen)
typed_operands operator seen (check ∷ checks) =
    and_then check (λ o. and_then (fits (wanted operator seen) o.ty) (λ _.
    given (with_front o.exp) (typed_operands operator (with_type seen o.ty) checks)))

-- as many operands as the operator takes; what is read of a program has as many
abbrev pub counted : Operator → ℕ → Check ⊤
counted operator count = if takes operator count then Ok tt else Err WrongType

abbrev pub form_count : PlainForms → ℕ
form_count no_forms = 0
form_count (form f fs) = form_count fs + 1

abbrev pub whole : Operator → TypedOperands → TypedExp
whole operator o = typed (built operator o.exps) (given_type operator o.seen)

abbrev pub typed_operation : Operator → PlainForms → List (Check TypedExp) → Check TypedExp
typed_operation operator operands checks =
    and_then (counted operator (form_count operands)) (λ _. given (whole operator) (typed_operands operator none_seen checks))

-- an expression, over the names in scope
unfoldable mutual
  pub typed_form : PlainNames → PlainForm → Check TypedExp
  typed_form names (literal v) = Ok (typed (exp.literal v) (type_of v))
  typed_form names (field x) = named exp.field (place_of names.fields x)
  typed_form names (prop x) = named exp.prop (place_of names.props x)
  typed_form names (variable x) = named exp.variable (latest_of names.vars x)
  typed_form names (inherited x) = named exp.inherited (place_of names.inherited x)
  typed_form names event_dx = moved exp.event_dx names.event
  typed_form names event_dy = moved exp.event_dy names.event
  typed_form names (operation operator operands) = typed_operation operator operands (typed_forms names operands)

  pub typed_forms : PlainNames → PlainForms → List (Check TypedExp)
  typed_forms names no_forms = []
  typed_forms names (form f fs) = typed_form names f ∷ typed_forms names fs

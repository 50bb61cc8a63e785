-- An expression that is given has its type.
use Rattle.std.proofs.Common.{arith, ◌≡◌, ℕ, length, List, Bool, true, false, Option, Some, None, ap, subst, refl, ◌∙◌}
use Rattle.std.proofs.lemmas.Grind.{common_steps}
use Rattle.fx_expr.specs.declared.values.Ty.{Ty}
use Rattle.fx_expr.specs.declared.values.Ty.TheVariants as ty
use Rattle.fx_expr.specs.Exp as exp
use Rattle.fx_expr.specs.Exp.{Exp}
use Rattle.fx_expr.specs.Scope.{Types}
use Rattle.fx_expr.specs.Typed.{IsTyped}
use Rattle.program_form.specs.declared.operators.Operator.{Operator}
use Rattle.program_form.specs.Operators.{takes}
use Rattle.program_form.specs.Form.{PlainForm, literal, field, prop, variable, inherited, event_dx, event_dy, operation, PlainForms, no_forms, form}
use Rattle.expr_check.specs.Check.{Check, given}
use Rattle.expr_check.specs.Names.{PlainNames, types_of, place_of, latest_of}
use Rattle.expr_check.specs.Wants.{none_seen}
use Rattle.expr_check.specs.Exprs.{TypedExp, named, moved, counted, form_count, whole, typed_operands, typed_operation, typed_form, typed_forms}
use Rattle.expr_check.proofs.Sound.{Sound, AllSound, ok_is, and_then-ok, given-ok, test-ok, place_of-type, latest_of-type}
use Rattle.expr_check.proofs.Whole.{whole_typed, operands_fit}

named-Sound : (T : Types) (make : ℕ → Exp) (found : Option (ℕ × Ty)) → ((p : ℕ × Ty) → found ≡ Some p → IsTyped T (make p.0) p.1) → Sound T (named make found)
named-Sound T make (Some p) h r e = subst (λ r. IsTyped T r.exp r.ty) (ok_is e) (h p refl)
named-Sound T make None h r e = cc

moved-Sound : (T : Types) (e : Exp) (seen : Bool) → IsTyped T e ty.Int → Sound T (moved e seen)
moved-Sound T e true h r q = subst (λ r. IsTyped T r.exp r.ty) (ok_is q) h
moved-Sound T e false h r q = cc

operation-Sound : (T : Types) (operator : Operator) (fs : PlainForms) (checks : List (Check TypedExp)) → AllSound T checks
    → length checks ≡ form_count fs → Sound T (typed_operation operator fs checks)
operation-Sound T operator fs checks sound count r e =
    let test = and_then-ok (counted operator (form_count fs)) (λ _. given (whole operator) (typed_operands operator none_seen checks)) r e in
    let made = given-ok (whole operator) (typed_operands operator none_seen checks) r test.1.1 in
    let fit = operands_fit T operator none_seen checks sound made.0 made.1.0 in
    let takes_all : takes operator (length made.0.exps) ≡ true =
    ap (takes operator) (fit.1 ∙ count) ∙ test-ok (takes operator (form_count fs)) test.0 test.1.0 in
    subst (λ r. IsTyped T r.exp r.ty) made.1.1 (whole_typed T operator made.0.exps made.0.seen takes_all fit.0)

length-typed_forms : (names : PlainNames) (fs : PlainForms) → length (typed_forms names fs) ≡ form_count fs
unfolding typed_form
length-typed_forms names no_forms = refl
length-typed_forms names (form f fs) = let rest = length-typed_forms names fs in grind (arith, common_steps)

mutual
  unfolding typed_form

  pub typed_form-Sound : (names : PlainNames) (f : PlainForm) → Sound (types_of names) (typed_form names f)
  typed_form-Sound names (literal v) = λ r e. subst (λ r. IsTyped (types_of names) r.exp r.ty) (ok_is e) refl
  typed_form-Sound names (field x) = named-Sound (types_of names) exp.field (place_of names.fields x) (place_of-type names.fields x)
  typed_form-Sound names (prop x) = named-Sound (types_of names) exp.prop (place_of names.props x) (place_of-type names.props x)
  typed_form-Sound names (variable x) = named-Sound (types_of names) exp.variable (latest_of names.vars x) (latest_of-type names.vars x)
  typed_form-Sound names (inherited x) = named-Sound (types_of names) exp.inherited (place_of names.inherited x) (place_of-type names.inherited x)
  typed_form-Sound names event_dx = moved-Sound (types_of names) exp.event_dx names.event refl
  typed_form-Sound names event_dy = moved-Sound (types_of names) exp.event_dy names.event refl
  typed_form-Sound names (operation operator fs) =
      operation-Sound (types_of names) operator fs (typed_forms names fs) (typed_forms-AllSound names fs) (length-typed_forms names fs)

  typed_forms-AllSound : (names : PlainNames) (fs : PlainForms) → AllSound (types_of names) (typed_forms names fs)
  typed_forms-AllSound names no_forms = tt
  typed_forms-AllSound names (form f fs) = (typed_form-Sound names f, typed_forms-AllSound names fs)

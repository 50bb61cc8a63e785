-- The operands of an operator: their number, their depth, and the loop over them.
use Rattle.std.proofs.Common.{arith, ◌≡◌, ℕ, zero, suc, ◌<◌, ◌≤◌, max, length, get_or, List, [], ◌∷◌, ◌++◌, map, Bool, if◌then◌else◌, Ok, Err, ap, subst, refl, sym, ◌∙◌}
use Rattle.std.specs.Prelude.{⊤}
use Rattle.std.proofs.lemmas.Grind.{common_steps}
use Rattle.program_form.specs.declared.forms.Form.{Form}
use Rattle.program_form.specs.declared.operators.Operator.{Operator}
use Rattle.program_form.specs.Operators.{takes}
use Rattle.program_form.specs.Form.{PlainForm, literal, field, prop, variable, inherited, event_dx, event_dy, operation, PlainForms, no_forms, form, operands_in}
use Rattle.program_form.specs.FormView.{plain_form}
use Rattle.fx_expr.specs.Exp.{Exp}
use Rattle.expr_check.specs.declared.fault.CheckCode.TheVariants.{WrongType}
use Rattle.expr_check.specs.Check.{Check, given}
use Rattle.expr_check.specs.Names.{PlainNames}
use Rattle.expr_check.specs.Exprs.{TypedExp, TypedOperands, operands_with, counted, form_count, typed_form, typed_forms}

-- as many operands as forms
pub form_count-forms : (fs : List Form) → form_count (operands_in (map plain_form fs)) ≡ length fs
form_count-forms [] = refl
form_count-forms (f ∷ fs) = grind (arith, common_steps, form_count-forms fs)

abbrev counted_if : Bool → Check ⊤
counted_if b = if b then Ok tt else Err WrongType

pub counted-forms : (operator : Operator) (fs : List Form) (b : Bool) → takes operator (length fs) ≡ b
    → counted operator (form_count (operands_in (map plain_form fs))) ≡ counted_if b
counted-forms operator fs b h = ap counted_if (ap (takes operator) (form_count-forms fs) ∙ h)

-- how deep operators nest
abbrev mutual
  pub form_depth : PlainForm → ℕ
  form_depth (literal v) = 0
  form_depth (field x) = 0
  form_depth (prop x) = 0
  form_depth (variable x) = 0
  form_depth (inherited x) = 0
  form_depth event_dx = 0
  form_depth event_dy = 0
  form_depth (operation operator fs) = suc (forms_depth fs)

  pub forms_depth : PlainForms → ℕ
  forms_depth no_forms = 0
  forms_depth (form f fs) = max (form_depth f) (forms_depth fs)

depth_here : (a rest : ℕ) → a ≤ max a rest
depth_here a rest = grind arith

depth_later : (a b rest : ℕ) → b ≤ rest → b ≤ max a rest
depth_later a b rest h = grind arith

-- an operand is no deeper than the operands together
pub depth-operand : (fs : List Form) (i : ℕ) (f : Form) → i < length fs → f ≡ get_or fs i f → form_depth (plain_form f) ≤ forms_depth (operands_in (map plain_form fs))
depth-operand [] i f h e = absurd (grind (arith, common_steps))
depth-operand (x ∷ fs) zero f h e =
    subst (λ y. form_depth (plain_form y) ≤ max (form_depth (plain_form x)) (forms_depth (operands_in (map plain_form fs)))) (sym e)
    (depth_here (form_depth (plain_form x)) (forms_depth (operands_in (map plain_form fs))))
depth-operand (x ∷ fs) (suc i) f h e = depth_later (form_depth (plain_form x)) _ _ (depth-operand fs i f (grind (arith, common_steps)) e)

-- the checks of operands, one by one
abbrev pub check_of : PlainNames → Form → Check TypedExp
check_of names f = typed_form names (plain_form f)

pub typed_forms-map : (names : PlainNames) (fs : List Form) → typed_forms names (operands_in (map plain_form fs)) ≡ map (check_of names) fs
unfolding typed_form
typed_forms-map names [] = refl
typed_forms-map names (f ∷ fs) = ap (λ cs. typed_form names (plain_form f) ∷ cs) (typed_forms-map names fs)

-- what was given so far, and the check of the operands that are left
abbrev pub in_front : List Exp → TypedOperands → TypedOperands
in_front before o = operands_with (before ++ o.exps) o.seen

abbrev pub resumed : List Exp → Check TypedOperands → Check TypedOperands
resumed before check = given (in_front before) check

pub resumed-none : (check : Check TypedOperands) → check ≡ resumed [] check
resumed-none (Ok o) = refl
resumed-none (Err code) = refl

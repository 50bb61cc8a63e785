-- An expression that is given reads the event only where it is seen.
use Rattle.std.proofs.Common.{◌≡◌, ℕ, List, [], ◌∷◌, Bool, true, false, ◌||◌, Option, Some, None, Ok, subst, refl}
use Rattle.fx_expr.specs.declared.values.Ty.{Ty}
use Rattle.fx_expr.specs.Exp as exp
use Rattle.fx_expr.specs.Exp.{Exp, exps_of}
use Rattle.program_form.specs.declared.operators.Operator.{Operator}
use Rattle.program_form.specs.declared.operators.Operator.TheVariants as op
use Rattle.program_form.specs.Form.{PlainForm, literal, field, prop, variable, inherited, event_dx, event_dy, operation, PlainForms, no_forms, form}
use Rattle.expr_check.specs.declared.wants.Seen.{Seen}
use Rattle.expr_check.specs.Check.{Check, and_then, given}
use Rattle.expr_check.specs.Names.{PlainNames, place_of, latest_of}
use Rattle.expr_check.specs.Wants.{none_seen, with_type, wanted}
use Rattle.expr_check.specs.Built.{first, later, built}
use Rattle.expr_check.specs.Exprs.{TypedExp, TypedOperands, named, moved, fits, counted, form_count, with_front, whole, typed_operands, typed_operation, typed_form, typed_forms}
use Rattle.fx_expr.specs.SomeForm.{is_event, reads_event, some_form_of_each}
use Rattle.expr_check.specs.Sight.{sight_of, IsTypedIn}
use Rattle.expr_check.proofs.Sound.{ok_is, and_then-ok, given-ok}
use Rattle.expr_check.proofs.Typing.{typed_form-Sound}

-- an expression reads the event only where it is seen
abbrev pub Sees : Bool → Exp → Type 0
Sees b e = reads_event e ≡ true → b ≡ true

abbrev AllSee : Bool → List Exp → Type 0
AllSee b [] = Unit {0}
AllSee b (e ∷ es) = Sees b e × AllSee b es

-- whatever a check gives does
abbrev SeesIn : Bool → Check TypedExp → Type 0
SeesIn b check = (r : TypedExp) → check ≡ Ok r → Sees b r.exp

abbrev AllSeeIn : Bool → List (Check TypedExp) → Type 0
AllSeeIn b [] = Unit {0}
AllSeeIn b (check ∷ checks) = SeesIn b check × AllSeeIn b checks

or_of : (b x y : Bool) → (x ≡ true → b ≡ true) → (y ≡ true → b ≡ true) → (x || y) ≡ true → b ≡ true
or_of b true y f g h = f refl
or_of b false y f g h = g h

first-sees : (b : Bool) (es : List Exp) → AllSee b es → Sees b (first es)
first-sees b [] h = λ e. cc
first-sees b (e ∷ es) h = h.0

later-see : (b : Bool) (es : List Exp) → AllSee b es → AllSee b (later es)
later-see b [] h = tt
later-see b (e ∷ es) h = h.1

items-see : (b : Bool) (es : List Exp) → AllSee b es → some_form_of_each is_event (exps_of es) ≡ true → b ≡ true
items-see b [] h = λ e. cc
items-see b (e ∷ es) h = or_of b (reads_event e) (some_form_of_each is_event (exps_of es)) h.0 (items-see b es h.1)

two-see : (b : Bool) (es : List Exp) → AllSee b es → (reads_event (first es) || reads_event (first (later es))) ≡ true → b ≡ true
two-see b es h = or_of b _ _ (first-sees b es h) (first-sees b (later es) (later-see b es h))

three-see : (b : Bool) (es : List Exp) → AllSee b es
    → (reads_event (first es) || (reads_event (first (later es)) || reads_event (first (later (later es))))) ≡ true → b ≡ true
three-see b es h = or_of b _ _ (first-sees b es h) (two-see b (later es) (later-see b es h))

built-sees : (b : Bool) (operator : Operator) (es : List Exp) → AllSee b es → Sees b (built operator es)
built-sees b op.Ints es h = items-see b es h
built-sees b op.Texts es h = items-see b es h
built-sees b op.Add es h = two-see b es h
built-sees b op.Sub es h = two-see b es h
built-sees b op.Mul es h = two-see b es h
built-sees b op.Div es h = two-see b es h
built-sees b op.Mod es h = two-see b es h
built-sees b op.Equal es h = two-see b es h
built-sees b op.Less es h = two-see b es h
built-sees b op.And es h = two-see b es h
built-sees b op.Or es h = two-see b es h
built-sees b op.Not es h = first-sees b es h
built-sees b op.If es h = three-see b es h
built-sees b op.Cat es h = two-see b es h
built-sees b op.Len es h = first-sees b es h
built-sees b op.At es h = three-see b es h
built-sees b op.Push es h = two-see b es h
built-sees b op.Drop es h = two-see b es h
built-sees b op.Reverse es h = first-sees b es h
built-sees b op.Range es h = first-sees b es h
built-sees b op.Show es h = first-sees b es h

operands-see : (b : Bool) (operator : Operator) (seen : Seen) (checks : List (Check TypedExp)) → AllSeeIn b checks
    → (r : TypedOperands) → typed_operands operator seen checks ≡ Ok r → AllSee b r.exps
operands-see b operator seen [] all r e = subst (λ r. AllSee b r.exps) (ok_is e) tt
operands-see b operator seen (check ∷ checks) all r e =
    let one = and_then-ok check (λ o. and_then (fits (wanted operator seen) o.ty) (λ _.
    given (with_front o.exp) (typed_operands operator (with_type seen o.ty) checks))) r e in
    let o : TypedExp = one.0 in
    let test = and_then-ok (fits (wanted operator seen) o.ty) (λ _. given (with_front o.exp) (typed_operands operator (with_type seen o.ty) checks)) r one.1.1 in
    let more = given-ok (with_front o.exp) (typed_operands operator (with_type seen o.ty) checks) r test.1.1 in
    subst (λ r. AllSee b r.exps) more.1.1
    (all.0 o one.1.0, operands-see b operator (with_type seen o.ty) checks all.1 more.0 more.1.0)

operation-sees : (b : Bool) (operator : Operator) (fs : PlainForms) (checks : List (Check TypedExp)) → AllSeeIn b checks → SeesIn b (typed_operation operator fs checks)
operation-sees b operator fs checks all r e =
    let test = and_then-ok (counted operator (form_count fs)) (λ _. given (whole operator) (typed_operands operator none_seen checks)) r e in
    let made = given-ok (whole operator) (typed_operands operator none_seen checks) r test.1.1 in
    subst (λ r. Sees b r.exp) made.1.1 (built-sees b operator made.0.exps (operands-see b operator none_seen checks all made.0 made.1.0))

named-sees : (b : Bool) (make : ℕ → Exp) (found : Option (ℕ × Ty)) → ((i : ℕ) → Sees b (make i)) → SeesIn b (named make found)
named-sees b make (Some p) h r e = subst (λ r. Sees b r.exp) (ok_is e) (h p.0)
named-sees b make None h r e = cc

moved-sees : (seen : Bool) (e : Exp) → SeesIn seen (moved e seen)
moved-sees true e r q = λ h. refl
moved-sees false e r q = cc

mutual
  unfolding typed_form

  pub typed_form-sees : (names : PlainNames) (f : PlainForm) → SeesIn names.event (typed_form names f)
  typed_form-sees names (literal v) = λ r e. subst (λ r. Sees names.event r.exp) (ok_is e) (λ h. cc)
  typed_form-sees names (field x) = named-sees names.event exp.field (place_of names.fields x) (λ i h. cc)
  typed_form-sees names (prop x) = named-sees names.event exp.prop (place_of names.props x) (λ i h. cc)
  typed_form-sees names (variable x) = named-sees names.event exp.variable (latest_of names.vars x) (λ i h. cc)
  typed_form-sees names (inherited x) = named-sees names.event exp.inherited (place_of names.inherited x) (λ i h. cc)
  typed_form-sees names event_dx = moved-sees names.event exp.event_dx
  typed_form-sees names event_dy = moved-sees names.event exp.event_dy
  typed_form-sees names (operation operator fs) = operation-sees names.event operator fs (typed_forms names fs) (typed_forms-see names fs)

  typed_forms-see : (names : PlainNames) (fs : PlainForms) → AllSeeIn names.event (typed_forms names fs)
  typed_forms-see names no_forms = tt
  typed_forms-see names (form f fs) = (typed_form-sees names f, typed_forms-see names fs)

-- what is given is typed where it stands
pub typed_form-typed : (names : PlainNames) (f : PlainForm) (r : TypedExp) → typed_form names f ≡ Ok r → IsTypedIn (sight_of names) r.exp r.ty
typed_form-typed names f r e = (typed_form-Sound names f r e, typed_form-sees names f r e)

-- Handlers: the loop over their sets, and the types of what is given.
use Rattle.std.proofs.Common.{◌≡◌, ℕ, suc, ◌+◌, ◌<◌, add-one, append_assoc, length, get_or, drop, drop-cons, List, [], ◌∷◌, ◌++◌, map, Option, Some, None, Ok, Err, ap, subst, refl, sym, ◌∙◌}
use Rattle.std.specs.Prelude.{⊤}
use Rattle.fx_expr.specs.declared.values.Ty.{Ty}
use Rattle.fx_expr.specs.Exp.{Exp}
use Rattle.fx_expr.specs.Typed.{IsTyped}
use Rattle.program_form.specs.Form.{PlainForm}
use Rattle.program_form.specs.Handler.{PlainSet}
use Rattle.program_form.specs.HandlerView.{plain_set}
use Rattle.program_form.specs.declared.handlers.SetForm.{SetForm}
use Rattle.expr_check.specs.declared.wants.Want.TheVariants as want
use Rattle.expr_check.specs.Check.{Check, and_then, given, in_order}
use Rattle.expr_check.specs.Names.{PlainNames, types_of, place_of}
use Rattle.expr_check.specs.Wants.{meets}
use Rattle.expr_check.specs.Exprs.{TypedExp, or_missing, fits, typed_form}
use Rattle.expr_check.specs.Handlers.{typed_as, with_event, checked_set, checked_handler, IsTypedSet, AreTypedSets}
use Rattle.expr_check.proofs.Sound.{ok_is, and_then-ok, given-ok, test-ok, place_of-type}
use Rattle.expr_check.proofs.Whole.{same_ty-is}
use Rattle.expr_check.proofs.Typing.{typed_form-Sound}

-- what was given so far, and the checks that are left
abbrev pub resumed : {A : Type 0} → List A → Check (List A) → Check (List A)
resumed before check = given (λ later. before ++ later) check

pub resumed-none : {A : Type 0} (check : Check (List A)) → check ≡ resumed [] check
resumed-none (Ok xs) = refl
resumed-none (Err code) = refl

resumed-last : {A : Type 0} (before : List A) (x : A) (check : Check (List A)) → resumed before (given (λ xs. x ∷ xs) check) ≡ resumed (before ++ x ∷ []) check
resumed-last before x (Ok xs) = ap Ok (sym (append_assoc before (x ∷ []) xs))
resumed-last before x (Err code) = refl

-- one more that was given
pub resumed-step : {A S : Type 0} (check : S → Check A) (whole : Check (List A)) (before after : List A) (ss : List S) (i : ℕ) (s : S) (x : A)
    → i < length ss → s ≡ get_or ss i s → whole ≡ resumed before (in_order (map check (drop i ss))) → check s ≡ Ok x → after ≡ before ++ x ∷ []
    → whole ≡ resumed after (in_order (map check (drop (i + 1) ss)))
resumed-step check whole before after ss i s x h e w r l =
    let rest : Check _ = in_order (map check (drop (suc i) ss)) in
    w ∙ ap (λ left. resumed before (in_order (map check left))) (drop-cons ss i s h)
    ∙ ap (λ y. resumed before (and_then (check y) (λ x. given (λ xs. x ∷ xs) rest))) (sym e)
    ∙ ap (λ y. resumed before (and_then y (λ x. given (λ xs. x ∷ xs) rest))) r
    ∙ resumed-last before x rest ∙ ap (λ xs. resumed xs rest) (sym l)
    ∙ ap (λ n. resumed after (in_order (map check (drop n ss)))) (sym (add-one i))

-- the checks of the sets that the program holds
abbrev pub set_check : PlainNames → SetForm → Check (ℕ × Exp)
set_check names s = checked_set names (plain_set s)

pub checked_handler-map : (names : PlainNames) (sets : List SetForm) → checked_handler names (map plain_set sets) ≡ in_order (map (set_check names) sets)
checked_handler-map names sets = ap in_order (maps sets)
  where
    maps : (sets : List SetForm) → map (checked_set names) (map plain_set sets) ≡ map (set_check names) sets
    maps [] = refl
    maps (s ∷ sets) = ap (λ cs. set_check names s ∷ cs) (maps sets)

-- ---- types

-- an expression that was asked for has the type
pub typed_as-type : (names : PlainNames) (t : Ty) (f : PlainForm) (r : TypedExp) → typed_as names (want.Exactly t) f ≡ Ok r → IsTyped (types_of names) r.exp t
typed_as-type names t f r e =
    let first = and_then-ok (typed_form names f) (λ e. given (λ _. e) (fits (want.Exactly t) e.ty)) r e in
    let o : TypedExp = first.0 in
    let test = given-ok (λ _. o) (fits (want.Exactly t) o.ty) r first.1.1 in
    let same : t ≡ o.ty = same_ty-is t o.ty (test-ok (meets (want.Exactly t) o.ty) test.0 test.1.0) in
    subst (λ o. IsTyped (types_of names) o.exp t) test.1.1
    (subst (IsTyped (types_of names) o.exp) (sym same) (typed_form-Sound names f o first.1.0))

or_missing-found : (o : Option (ℕ × Ty)) (p : ℕ × Ty) → or_missing o ≡ Ok p → o ≡ Some p
or_missing-found (Some q) p e = ap Some (ok_is e)
or_missing-found None p e = cc

pub checked_set-typed : (names : PlainNames) (s : PlainSet) (r : ℕ × Exp) → checked_set names s ≡ Ok r → IsTypedSet (types_of names) r
unfolding checked_set
checked_set-typed names s r e =
    let field = and_then-ok (or_missing (place_of names.fields s.name)) (λ f. given (λ e. (f.0, e.exp)) (typed_as (with_event names) (want.Exactly f.1) s.value)) r e in
    let f : ℕ × Ty = field.0 in
    let value = given-ok (λ e. (f.0, e.exp)) (typed_as (with_event names) (want.Exactly f.1) s.value) r field.1.1 in
    subst (IsTypedSet (types_of names)) value.1.1
    (f.1, place_of-type names.fields s.name f (or_missing-found (place_of names.fields s.name) f field.1.0), typed_as-type (with_event names) f.1 s.value value.0 value.1.0)

pub checked_handler-typed : (names : PlainNames) (sets : List PlainSet) (r : List (ℕ × Exp)) → checked_handler names sets ≡ Ok r → AreTypedSets (types_of names) r
checked_handler-typed names [] r e = subst (AreTypedSets (types_of names)) (ok_is e) tt
checked_handler-typed names (s ∷ sets) r e =
    let first = and_then-ok (checked_set names s) (λ x. given (λ xs. x ∷ xs) (checked_handler names sets)) r e in
    let x : ℕ × Exp = first.0 in
    let rest = given-ok (λ xs. x ∷ xs) (checked_handler names sets) r first.1.1 in
    subst (AreTypedSets (types_of names)) rest.1.1 (checked_set-typed names s x first.1.0, checked_handler-typed names sets rest.0 rest.1.0)

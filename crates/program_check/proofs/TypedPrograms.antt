-- What the check of a program gives is typed.
use Rattle.std.proofs.Common.{◌≡◌, ℕ, zero, suc, append_assoc, length, take, List, [], ◌∷◌, ◌++◌, map, is_none, Option, Some, None, Ok, Err, ap, subst, refl, sym}
use Rattle.std.specs.Prelude.{slice_get, ⊤}
use Rattle.fx_expr.specs.declared.values.Ty.{Ty}
use Rattle.fx_expr.specs.Exp.{Exp}
use Rattle.program_form.specs.declared.kinds.ChildSort.TheVariants as stands
use Rattle.program_form.specs.Template.{PlainTemplate}
use Rattle.program_form.specs.Program.{PlainVariable, PlainComponent, PlainProgram}
use Rattle.expr_check.specs.declared.fault.CheckCode.TheVariants.{RepeatedName}
use Rattle.expr_check.specs.declared.wants.Want.TheVariants as want
use Rattle.program_check.specs.declared.places.Amount.TheVariants.{One}
use Rattle.expr_check.specs.Check.{Check, and_then, given}
use Rattle.expr_check.specs.Names.{NamedTypes, PlainNames, types_in}
use Rattle.expr_check.specs.Sight.{Sight, sight_of, IsTypedIn}
use Rattle.expr_check.specs.Exprs.{TypedExp}
use Rattle.expr_check.specs.Handlers.{typed_as}
use Rattle.program_check.specs.Body.{PlainBody}
use Rattle.program_check.specs.Place.{Signature, PlainPlace, expected, component_of}
use Rattle.program_check.specs.Judged.{position, child_at, judged}
use Rattle.program_check.specs.Checked.{PlainVariables, PlainCheckedComponent, PlainChecked, checked_component_with, checked_with, signature_of}
use Rattle.program_check.specs.ProgramCheck.{CheckedAt, made_at, then_placed, given_placed, new_name, declared_props, declared_variables, variables_and, declared_slots, no_variables, props_alone, nothing_seen, seen_in_body, place_with, DeclaredNames, new_declarations, component_from, checked_component, component_names, checked_components, checked_root, checked_program, checked_widget}
use Rattle.program_check.specs.TypedBody.{surroundings_of, IsBoxOrSliver, AreTypedInOrder}
use Rattle.program_check.specs.TypedChecked.{AreTypedVariables, IsTypedComponent, AreTypedComponents, IsTypedRoot, IsTypedChecked}
use Rattle.expr_check.proofs.Sound.{ok_is, and_then-ok, given-ok}
use Rattle.program_check.proofs.TypedParts.{typed_as-wanted, child_at-fine}
use Rattle.program_check.proofs.KnownSorts.{AreKnown, body-known}
use Rattle.program_check.proofs.TypedTemplates.{judged-sound}

-- ---- steps

pub placed_is : {A : Type 0} {x y : A} → (let P : CheckedAt A = Ok x in P ≡ Ok y) → x ≡ y
placed_is e = cc

pub made_at-ok : {A : Type 0} (component : Option ℕ) (check : Check A) (r : A) → made_at component check ≡ Ok r → check ≡ Ok r
made_at-ok component (Ok x) r e = ap Ok (placed_is e)
made_at-ok component (Err code) r e = cc

pub then_placed-ok : {A B : Type 0} (check : CheckedAt A) (next : A → CheckedAt B) (r : B) → then_placed check next ≡ Ok r → (x : A) × ((check ≡ Ok x) × (next x ≡ Ok r))
then_placed-ok (Ok x) next r e = (x, (refl, e))
then_placed-ok (Err bad) next r e = cc

pub given_placed-ok : {A B : Type 0} (f : A → B) (check : CheckedAt A) (r : B) → given_placed f check ≡ Ok r → (x : A) × ((check ≡ Ok x) × (f x ≡ r))
given_placed-ok f (Ok x) r e = (x, (refl, placed_is e))
given_placed-ok f (Err bad) r e = cc

-- ---- variables

in_order-more : (S : Sight) (ts : List Ty) (es : List Exp) (t : Ty) (e : Exp) → AreTypedInOrder S ts es → IsTypedIn S e t → AreTypedInOrder S (ts ++ t ∷ []) (es ++ e ∷ [])
in_order-more S [] [] t e typed last = (last, tt)
in_order-more S [] (x ∷ es) t e typed last = absurd typed
in_order-more S (u ∷ ts) [] t e typed last = absurd typed
in_order-more S (u ∷ ts) (x ∷ es) t e typed last = (typed.0, in_order-more S ts es t e typed.1 last)

types_in-more : (ds : NamedTypes) (n : List ℕ) (t : Ty) → types_in (ds ++ (n, t) ∷ []) ≡ types_in ds ++ t ∷ []
types_in-more [] n t = refl
types_in-more (d ∷ ds) n t = ap (λ ts. d.1 ∷ ts) (types_in-more ds n t)

variables-typed : (names : PlainNames) (before : PlainVariables) (vs : List PlainVariable) (r : PlainVariables) → AreTypedVariables names before
    → declared_variables names before vs ≡ Ok r → AreTypedVariables names r
variables-typed names before [] r typed e = subst (AreTypedVariables names) (ok_is e) typed
variables-typed names before (v ∷ vs) r typed e =
    let rest = λ (x : TypedExp). declared_variables names (variables_and before v x.exp) vs in
    let fresh = and_then-ok (new_name before.names v.name) (λ _. and_then (typed_as names (want.Exactly v.ty) v.value) rest) r e in
    let value = and_then-ok (typed_as names (want.Exactly v.ty) v.value) rest r fresh.1.1 in
    let x : TypedExp = value.0 in
    let last : IsTypedIn (sight_of names) x.exp v.ty = typed_as-wanted names (want.Exactly v.ty) v.value x value.1.0 in
    variables-typed names (variables_and before v x.exp) vs r
    (subst (λ ts. AreTypedInOrder (sight_of names) ts (before.values ++ x.exp ∷ [])) (sym (types_in-more before.names v.name v.ty))
    (in_order-more (sight_of names) (types_in before.names) before.values v.ty x.exp typed last)) value.1.1

-- ---- components

component-typed : (inherited : NamedTypes) (earlier : List Signature) (later : List (List ℕ)) (c : PlainComponent) (r : PlainCheckedComponent)
    → AreKnown earlier → checked_component inherited earlier later c ≡ Ok r → IsTypedComponent inherited earlier r
component-typed inherited earlier later c r known e =
    let from_fields = λ (props : NamedTypes) (fields : PlainVariables). given (λ slots. (props, fields, slots)) (declared_slots [] c.slots) in
    let from_props = λ (props : NamedTypes). and_then (declared_variables (props_alone props) no_variables c.fields) (from_fields props) in
    let from_name = λ (x : ⊤). and_then (declared_props [] c.props) from_props in
    let declared = and_then-ok (new_declarations earlier c) (component_from inherited earlier later c) r e in
    let d : DeclaredNames = declared.0 in
    let fresh = and_then-ok (expected (is_none (component_of earlier c.name)) RepeatedName) from_name d declared.1.0 in
    let with_props = and_then-ok (declared_props [] c.props) from_props d fresh.1.1 in
    let with_fields = and_then-ok (declared_variables (props_alone with_props.0) no_variables c.fields) (from_fields with_props.0) d with_props.1.1 in
    let with_slots = given-ok (λ (slots : List (List ℕ)). (with_props.0, with_fields.0, slots)) (declared_slots [] c.slots) d with_fields.1.1 in
    let there : PlainPlace = place_with (seen_in_body d.1.names d.0 inherited) inherited d.2 earlier later in
    let whole = given-ok (checked_component_with c.name d.0 d.1 d.2 ((judged c.body).sort earlier)) (child_at (position One stands.Any) there (judged c.body)) r declared.1.1 in
    let fine = child_at-fine (position One stands.Any) there (judged c.body) whole.0 (judged-sound c.body) whole.1.0 in
    subst (IsTypedComponent inherited earlier) whole.1.1 (record {
      fields = subst (λ (d : DeclaredNames). AreTypedVariables (props_alone d.0) d.1) with_slots.1.1
          (variables-typed (props_alone with_props.0) no_variables c.fields with_fields.0 tt with_fields.1.0);
      fits = fine.0;
      sort = sym fine.1.sort;
      known = subst IsBoxOrSliver fine.1.sort (body-known whole.0 (surroundings_of there) known fine.1.typed);
      typed = fine.1.typed;
    })

-- what is known of the components that a list holds
abbrev AreTypedAfter : NamedTypes → List Signature → List PlainCheckedComponent → Type 0
AreTypedAfter inherited earlier cs =
    (i : ℕ) (c : PlainCheckedComponent) → slice_get cs i ≡ Some c → IsTypedComponent inherited (earlier ++ map signature_of (take i cs)) c

pub some_is : {A : Type 0} (x y : A) → Some x ≡ Some y → x ≡ y
some_is x y e = cc

append-none : (xs : List Signature) → xs ++ [] ≡ xs
append-none [] = refl
append-none (x ∷ xs) = ap (λ xs. x ∷ xs) (append-none xs)

after-more : (inherited : NamedTypes) (earlier : List Signature) (before : List PlainCheckedComponent) (c : PlainCheckedComponent)
    → AreTypedAfter inherited earlier before → IsTypedComponent inherited (earlier ++ map signature_of before) c → AreTypedAfter inherited earlier (before ++ c ∷ [])
after-more inherited earlier [] c typed last zero d e = subst (IsTypedComponent inherited (earlier ++ [])) (some_is c d e) last
after-more inherited earlier [] c typed last (suc i) d e = cc e
after-more inherited earlier (b ∷ before) c typed last zero d e = typed 0 d e
after-more inherited earlier (b ∷ before) c typed last (suc i) d e =
    subst (λ es. IsTypedComponent inherited es d) (append_assoc earlier (signature_of b ∷ []) (map signature_of (take i (before ++ c ∷ []))))
    (after-more inherited (earlier ++ signature_of b ∷ []) before c
    (λ i d e. subst (λ es. IsTypedComponent inherited es d) (sym (append_assoc earlier (signature_of b ∷ []) (map signature_of (take i before)))) (typed (suc i) d e))
    (subst (λ es. IsTypedComponent inherited es c) (sym (append_assoc earlier (signature_of b ∷ []) (map signature_of before))) last) i d e)

-- the sorts of components that are typed are known
signature-there : (cs : List PlainCheckedComponent) (i : ℕ) (s : Signature) → slice_get (map signature_of cs) i ≡ Some s
    → (c : PlainCheckedComponent) × ((slice_get cs i ≡ Some c) × (signature_of c ≡ s))
signature-there [] i s e = cc e
signature-there (c ∷ cs) zero s e = (c, (refl, some_is (signature_of c) s e))
signature-there (c ∷ cs) (suc i) s e = signature-there cs i s e

sorts-known : (inherited : NamedTypes) (cs : List PlainCheckedComponent) → AreTypedComponents inherited cs → AreKnown (map signature_of cs)
sorts-known inherited cs typed i s e =
    let found = signature-there cs i s e in
    subst (λ (s : Signature). IsBoxOrSliver s.sort) found.1.1 (typed i found.0 found.1.0).known

components-typed : (inherited : NamedTypes) (before : List PlainCheckedComponent) (cs : List PlainComponent) (r : List PlainCheckedComponent)
    → AreTypedComponents inherited before → checked_components inherited before cs ≡ Ok r → AreTypedComponents inherited r
components-typed inherited before [] r typed e = subst (AreTypedComponents inherited) (placed_is e) typed
components-typed inherited before (c ∷ cs) r typed e =
    let check : Check PlainCheckedComponent = checked_component inherited (map signature_of before) (component_names (c ∷ cs)) c in
    let here = then_placed-ok (made_at (Some (length before)) check) (λ done. checked_components inherited (before ++ done ∷ []) cs) r e in
    let done : PlainCheckedComponent = here.0 in
    let last : IsTypedComponent inherited (map signature_of before) done =
    component-typed inherited (map signature_of before) (component_names (c ∷ cs)) c done (sorts-known inherited before typed)
    (made_at-ok (Some (length before)) check done here.1.0) in
    components-typed inherited (before ++ done ∷ []) cs r (after-more inherited [] before done typed last) here.1.1

-- ---- the root, and the program

pub widget-typed : (c : PlainChecked) (t : PlainTemplate) (b : PlainBody) → checked_widget c t ≡ Ok b → IsTypedRoot c b
widget-typed c t b e =
    let there : PlainPlace = place_with nothing_seen c.inherited.names [] (map signature_of c.components) [] in
    let fine = child_at-fine (position One stands.Box) there (judged t) b (judged-sound t) (made_at-ok None (child_at (position One stands.Box) there (judged t)) b e) in
    record { fits = fine.0; typed = fine.1.typed }

pub program-typed : (p : PlainProgram) (c : PlainChecked) → checked_program p ≡ Ok c → IsTypedChecked c
unfolding checked_program
program-typed p c e =
    let variables : CheckedAt PlainVariables = made_at None (declared_variables nothing_seen no_variables p.inherited) in
    let from_components = λ (inherited : PlainVariables) (components : List PlainCheckedComponent).
    given_placed (checked_with p.version p.view inherited components) (checked_root inherited.names components p.root) in
    let from_inherited = λ (inherited : PlainVariables). then_placed (checked_components inherited.names [] p.components) (from_components inherited) in
    let with_inherited = then_placed-ok variables from_inherited c e in
    let inherited : PlainVariables = with_inherited.0 in
    let with_components = then_placed-ok (checked_components inherited.names [] p.components) (from_components inherited) c with_inherited.1.1 in
    let components : List PlainCheckedComponent = with_components.0 in
    let whole = given_placed-ok (checked_with p.version p.view inherited components) (checked_root inherited.names components p.root) c with_components.1.1 in
    let b : PlainBody = whole.0 in
    subst IsTypedChecked whole.1.1 (record {
      inherited = variables-typed nothing_seen no_variables p.inherited inherited tt
          (made_at-ok None (declared_variables nothing_seen no_variables p.inherited) inherited with_inherited.1.0);
      components = components-typed inherited.names [] p.components components (λ i c e. cc e) with_components.1.0;
      root = widget-typed (checked_with p.version p.view inherited components b) p.root b whole.1.0;
    })

-- No name stands twice in a list of a checked program.
use Rattle.std.proofs.Common.{◌≡◌, ℕ, zero, suc, ◌+◌, add-one, List, [], ◌∷◌, ◌++◌, map, length, Bool, true, false, if◌then◌else◌, Option, Some, None, is_none, option_map, Ok, ap, subst, refl, sym, ◌∙◌}
use Rattle.std.specs.Prelude.{slice_get, ⊤}
use Rattle.std.specs.List.{AllByRecursion, IsDistinct}
use Rattle.std.specs.Str.{bytes_eq}
use Rattle.std.proofs.lemmas.List.{map-append}
use Rattle.std.proofs.lemmas.Bool.{false_from_ne_true}
use Rattle.std.proofs.lemmas.Bool.Decides.{not_from_Decides}
use Rattle.std.proofs.lemmas.Map.Made.{AllPairs-from_IsDistinct}
use Rattle.std.proofs.lemmas.Slice.Eq.{bytes_eq-Decides}
use Rattle.fx_expr.specs.declared.values.Ty.{Ty}
use Rattle.program_form.specs.Program.{PlainParameter, PlainVariable, PlainComponent, PlainProgram}
use Rattle.program_form.specs.declared.kinds.ChildSort.TheVariants as stands
use Rattle.program_check.specs.declared.places.Amount.TheVariants.{One}
use Rattle.expr_check.specs.declared.fault.CheckCode.TheVariants.{RepeatedName}
use Rattle.expr_check.specs.declared.wants.Want.TheVariants as want
use Rattle.expr_check.specs.Check.{Check, and_then, given}
use Rattle.expr_check.specs.Exprs.{TypedExp}
use Rattle.expr_check.specs.Handlers.{typed_as}
use Rattle.expr_check.specs.Names.{NamedTypes, PlainNames, place_of, one_later}
use Rattle.program_check.specs.Place.{Signature, expected, index_by, index_of, with_signature, component_of}
use Rattle.program_check.specs.Judged.{position, child_at, judged}
use Rattle.program_check.specs.Checked.{PlainVariables, PlainCheckedComponent, PlainChecked, checked_component_with, checked_with, signature_of}
use Rattle.program_check.specs.ProgramCheck.{CheckedAt, made_at, then_placed, given_placed, new_name, declared_props, declared_variables, variables_and, declared_slots, new_slot, no_variables, props_alone, nothing_seen, seen_in_body, place_with, DeclaredNames, new_declarations, component_from, checked_component, component_names, checked_components, checked_root, checked_program}
use Rattle.program_check.specs.Distinct.{NamesDiffer, names_of, DeclaresOnce, NamesOnce}
use Rattle.expr_check.proofs.Sound.{ok_is, and_then-ok, given-ok}
use Rattle.program_check.proofs.LoopLemmas.{map_map}
use Rattle.program_check.proofs.TypedParts.{expected-ok}
use Rattle.program_check.proofs.TypedPrograms.{placed_is, made_at-ok, then_placed-ok, given_placed-ok, some_is}

-- ---- a name that is none of those before it

-- none of these names is this one
abbrev IsNew : List ℕ → List (List ℕ) → Type 0
IsNew n names = AllByRecursion (λ m. bytes_eq n m ≡ false) names

abbrev Apart : List (List ℕ) → Type 0
Apart names = IsDistinct bytes_eq names

other_way : (a b : List ℕ) → bytes_eq a b ≡ false → bytes_eq b a ≡ false
other_way a b h = false_from_ne_true (bytes_eq b a) (λ e. not_from_Decides (bytes_eq a b) (bytes_eq-Decides a b) h (sym ((bytes_eq-Decides b a).0 e)))

all_more : (x n : List ℕ) (xs : List (List ℕ)) → AllByRecursion (λ y. bytes_eq x y ≡ false) xs → bytes_eq x n ≡ false
    → AllByRecursion (λ y. bytes_eq x y ≡ false) (xs ++ n ∷ [])
all_more x n [] all last = (last, tt)
all_more x n (y ∷ xs) all last = (all.0, all_more x n xs all.1 last)

none_apart : Apart []
unfolding IsDistinct
none_apart = tt

apart-more : (names : List (List ℕ)) (n : List ℕ) → Apart names → IsNew n names → Apart (names ++ n ∷ [])
unfolding IsDistinct
apart-more [] n apart new = (tt, tt)
apart-more (x ∷ xs) n apart new = (all_more x n xs apart.0 (other_way n x new.0), apart-more xs n apart.1 new.1)

differ : (names : List (List ℕ)) → Apart names → NamesDiffer names
differ names apart = AllPairs-from_IsDistinct bytes_eq-Decides names apart

-- ---- a name that a look-up doesn't find

none_here : {A B : Type 0} (b : Bool) (x : B) (f : A → B) (o : Option A) → is_none (if b then Some x else option_map f o) ≡ true → (b ≡ false) × (is_none o ≡ true)
none_here true x f o h = cc h
none_here false x f None h = (refl, refl)
none_here false x f (Some y) h = cc h

new_by : {X : Type 0} (name_in : X → List ℕ) (xs : List X) (n : List ℕ) → is_none (index_by name_in xs n) ≡ true
    → AllByRecursion (λ x. bytes_eq n (name_in x) ≡ false) xs
new_by name_in [] n h = tt
new_by name_in (x ∷ xs) n h =
    let here = none_here (bytes_eq n (name_in x)) 0 (λ i. i + 1) (index_by name_in xs n) h in
    (here.0, new_by name_in xs n here.1)

among : {X : Type 0} (name_in : X → List ℕ) (xs : List X) (n : List ℕ) → AllByRecursion (λ x. bytes_eq n (name_in x) ≡ false) xs → IsNew n (map name_in xs)
among name_in [] n h = tt
among name_in (x ∷ xs) n h = (h.0, among name_in xs n h.1)

new_declared : (ds : NamedTypes) (n : List ℕ) → is_none (place_of ds n) ≡ true → IsNew n (names_of ds)
new_declared [] n h = tt
new_declared (d ∷ ds) n h =
    let here = none_here (bytes_eq n d.0) (0, d.1) one_later (place_of ds n) h in
    (here.0, new_declared ds n here.1)

-- a component is found where its name is
mapped : {A B : Type 0} (f : A → B) (o : Option A) → is_none (option_map f o) ≡ is_none o
mapped f None = refl
mapped f (Some x) = refl

there_later : (c : Signature) (cs : List Signature) (o : Option ℕ) → is_none (with_signature cs o) ≡ is_none o
    → is_none (with_signature (c ∷ cs) (option_map (λ i. i + 1) o)) ≡ is_none (option_map (λ i. i + 1) o)
there_later c cs None h = refl
there_later c cs (Some i) h =
    mapped (λ (d : Signature). (i + 1, d)) (slice_get (c ∷ cs) (i + 1)) ∙ ap (λ k. is_none (slice_get (c ∷ cs) k)) (add-one i)
    ∙ sym (mapped (λ (d : Signature). (i, d)) (slice_get cs i)) ∙ h

found_there : (cs : List Signature) (n : List ℕ) → is_none (component_of cs n) ≡ is_none (index_by (λ c. c.name) cs n)
found_there [] n = refl
found_there (c ∷ cs) n =
    elim (bytes_eq n c.name)
    as (λ b. is_none (with_signature (c ∷ cs) (if b then Some 0 else option_map (λ i. i + 1) (index_by (λ c. c.name) cs n)))
    ≡ is_none (if b then Some 0 else option_map (λ i. i + 1) (index_by (λ c. c.name) cs n))) [
      | true ↦ refl
      | false ↦ there_later c cs (index_by (λ c. c.name) cs n) (found_there cs n)
    ]

abbrev component_names_in : List PlainCheckedComponent → List (List ℕ)
component_names_in cs = map (λ c. c.name) cs

new_component : (cs : List PlainCheckedComponent) (n : List ℕ) → is_none (component_of (map signature_of cs) n) ≡ true → IsNew n (component_names_in cs)
new_component cs n h =
    let by_name : Signature → List ℕ = λ c. c.name in
    subst (IsNew n) (map_map by_name signature_of cs)
    (among by_name (map signature_of cs) n (new_by by_name (map signature_of cs) n (sym (found_there (map signature_of cs) n) ∙ h)))

-- ---- declarations

one_more : (before : NamedTypes) (n : List ℕ) (t : Ty) (x : ⊤) → Apart (names_of before) → new_name before n ≡ Ok x → Apart (names_of (before ++ (n, t) ∷ []))
one_more before n t x apart e =
    subst Apart (sym (map-append (λ d. d.0) before ((n, t) ∷ [])))
    (apart-more (names_of before) n apart (new_declared before n (expected-ok (is_none (place_of before n)) RepeatedName x e)))

props-apart : (before : NamedTypes) (ps : List PlainParameter) (r : NamedTypes) → Apart (names_of before) → declared_props before ps ≡ Ok r → Apart (names_of r)
props-apart before [] r apart e = subst (λ r. Apart (names_of r)) (ok_is e) apart
props-apart before (p ∷ ps) r apart e =
    let fresh = and_then-ok (new_name before p.name) (λ _. declared_props (before ++ (p.name, p.ty) ∷ []) ps) r e in
    props-apart (before ++ (p.name, p.ty) ∷ []) ps r (one_more before p.name p.ty fresh.0 apart fresh.1.0) fresh.1.1

variables-apart : (names : PlainNames) (before : PlainVariables) (vs : List PlainVariable) (r : PlainVariables) → Apart (names_of before.names)
    → declared_variables names before vs ≡ Ok r → Apart (names_of r.names)
variables-apart names before [] r apart e = subst (λ (r : PlainVariables). Apart (names_of r.names)) (ok_is e) apart
variables-apart names before (v ∷ vs) r apart e =
    let rest = λ (x : TypedExp). declared_variables names (variables_and before v x.exp) vs in
    let fresh = and_then-ok (new_name before.names v.name) (λ _. and_then (typed_as names (want.Exactly v.ty) v.value) rest) r e in
    let value = and_then-ok (typed_as names (want.Exactly v.ty) v.value) rest r fresh.1.1 in
    let x : TypedExp = value.0 in
    variables-apart names (variables_and before v x.exp) vs r (one_more before.names v.name v.ty fresh.0 apart fresh.1.0) value.1.1

slots-apart : (before slots r : List (List ℕ)) → Apart before → declared_slots before slots ≡ Ok r → Apart r
slots-apart before [] r apart e = subst Apart (ok_is e) apart
slots-apart before (s ∷ slots) r apart e =
    let fresh = and_then-ok (new_slot before s) (λ _. declared_slots (before ++ s ∷ []) slots) r e in
    slots-apart (before ++ s ∷ []) slots r
    (apart-more before s apart (new_by (λ n. n) before s (expected-ok (is_none (index_of before s)) RepeatedName fresh.0 fresh.1.0))) fresh.1.1

-- ---- components

-- a component that is checked has a name that is none of those before it, and declares each name once
abbrev ComponentOnce : List Signature → PlainCheckedComponent → Type 0
ComponentOnce earlier r = (is_none (component_of earlier r.name) ≡ true) × DeclaresOnce r

component-once : (inherited : NamedTypes) (earlier : List Signature) (later : List (List ℕ)) (c : PlainComponent) (r : PlainCheckedComponent)
    → checked_component inherited earlier later c ≡ Ok r → ComponentOnce earlier r
component-once inherited earlier later c r e =
    let from_fields = λ (props : NamedTypes) (fields : PlainVariables). given (λ slots. (props, fields, slots)) (declared_slots [] c.slots) in
    let from_props = λ (props : NamedTypes). and_then (declared_variables (props_alone props) no_variables c.fields) (from_fields props) in
    let from_name = λ (x : ⊤). and_then (declared_props [] c.props) from_props in
    let declared = and_then-ok (new_declarations earlier c) (component_from inherited earlier later c) r e in
    let d : DeclaredNames = declared.0 in
    let fresh = and_then-ok (expected (is_none (component_of earlier c.name)) RepeatedName) from_name d declared.1.0 in
    let with_props = and_then-ok (declared_props [] c.props) from_props d fresh.1.1 in
    let with_fields = and_then-ok (declared_variables (props_alone with_props.0) no_variables c.fields) (from_fields with_props.0) d with_props.1.1 in
    let with_slots = given-ok (λ (slots : List (List ℕ)). (with_props.0, with_fields.0, slots)) (declared_slots [] c.slots) d with_fields.1.1 in
    let there = place_with (seen_in_body d.1.names d.0 inherited) inherited d.2 earlier later in
    let whole = given-ok (checked_component_with c.name d.0 d.1 d.2 ((judged c.body).sort earlier)) (child_at (position One stands.Any) there (judged c.body)) r declared.1.1 in
    let apart : Apart (names_of d.0) × (Apart (names_of d.1.names) × Apart d.2) = subst (λ (d : DeclaredNames). Apart (names_of d.0) × (Apart (names_of d.1.names) × Apart d.2)) with_slots.1.1 (
      props-apart [] c.props with_props.0 none_apart with_props.1.0,
      (
        variables-apart (props_alone with_props.0) no_variables c.fields with_fields.0 none_apart with_fields.1.0,
        slots-apart [] c.slots with_slots.0 none_apart with_slots.1.0,
      ),
    ) in
    subst (ComponentOnce earlier) whole.1.1 (
      expected-ok (is_none (component_of earlier c.name)) RepeatedName fresh.0 fresh.1.0,
      record { props = differ (names_of d.0) apart.0; fields = differ (names_of d.1.names) apart.1.0; slots = differ d.2 apart.1.1 },
    )

-- each of these declares each name once
abbrev EachOnce : List PlainCheckedComponent → Type 0
EachOnce cs = (i : ℕ) (d : PlainCheckedComponent) → slice_get cs i ≡ Some d → DeclaresOnce d

each-more : (before : List PlainCheckedComponent) (c : PlainCheckedComponent) → EachOnce before → DeclaresOnce c → EachOnce (before ++ c ∷ [])
each-more [] c each last zero d e = subst DeclaresOnce (some_is c d e) last
each-more [] c each last (suc i) d e = cc e
each-more (b ∷ before) c each last zero d e = each 0 d e
each-more (b ∷ before) c each last (suc i) d e = each-more before c (λ i d e. each (suc i) d e) last i d e

components-once : (inherited : NamedTypes) (before : List PlainCheckedComponent) (cs : List PlainComponent) (r : List PlainCheckedComponent)
    → Apart (component_names_in before) → EachOnce before → checked_components inherited before cs ≡ Ok r → Apart (component_names_in r) × EachOnce r
components-once inherited before [] r apart each e = subst (λ r. Apart (component_names_in r) × EachOnce r) (placed_is e) (apart, each)
components-once inherited before (c ∷ cs) r apart each e =
    let check : Check PlainCheckedComponent = checked_component inherited (map signature_of before) (component_names (c ∷ cs)) c in
    let here = then_placed-ok (made_at (Some (length before)) check) (λ done. checked_components inherited (before ++ done ∷ []) cs) r e in
    let done : PlainCheckedComponent = here.0 in
    let once = component-once inherited (map signature_of before) (component_names (c ∷ cs)) c done (made_at-ok (Some (length before)) check done here.1.0) in
    components-once inherited (before ++ done ∷ []) cs r
    (subst Apart (sym (map-append (λ c. c.name) before (done ∷ []))) (apart-more (component_names_in before) done.name apart (new_component before done.name once.0)))
    (each-more before done each once.1) here.1.1

-- ---- the program

pub program-once : (p : PlainProgram) (c : PlainChecked) → checked_program p ≡ Ok c → NamesOnce c
unfolding checked_program
program-once p c e =
    let variables : CheckedAt PlainVariables = made_at None (declared_variables nothing_seen no_variables p.inherited) in
    let from_components = λ (inherited : PlainVariables) (components : List PlainCheckedComponent).
    given_placed (checked_with p.version p.view inherited components) (checked_root inherited.names components p.root) in
    let from_inherited = λ (inherited : PlainVariables). then_placed (checked_components inherited.names [] p.components) (from_components inherited) in
    let with_inherited = then_placed-ok variables from_inherited c e in
    let inherited : PlainVariables = with_inherited.0 in
    let with_components = then_placed-ok (checked_components inherited.names [] p.components) (from_components inherited) c with_inherited.1.1 in
    let components : List PlainCheckedComponent = with_components.0 in
    let whole = given_placed-ok (checked_with p.version p.view inherited components) (checked_root inherited.names components p.root) c with_components.1.1 in
    let once = components-once inherited.names [] p.components components none_apart (λ i d e. cc e) with_components.1.0 in
    subst NamesOnce whole.1.1 (record {
      inherited = differ (names_of inherited.names) (variables-apart nothing_seen no_variables p.inherited inherited none_apart
          (made_at-ok None (declared_variables nothing_seen no_variables p.inherited) inherited with_inherited.1.0));
      components = differ (component_names_in components) once.0;
      declared = once.1;
    })

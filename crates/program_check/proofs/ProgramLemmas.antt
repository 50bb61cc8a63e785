-- Components in order: the loop over them, and what later templates have to know of them.
use Rattle.std.proofs.Common.{◌≡◌, ℕ, zero, suc, ◌+◌, ◌-◌, ◌<◌, add-one, length, length-append, get_or, take, drop, List, [], ◌∷◌, ◌++◌, map, Option, Some, None, Ok, ap, subst, refl, sym, ◌∙◌}
use Rattle.std.proofs.lemmas.List.{length-map, map-append, take_rest, at_drop_more}
use Rattle.std.proofs.lemmas.List.Elements.{All-push}
use Rattle.program_check.specs.DeclView.{HasDecl, HaveDecls}
use Rattle.program_form.specs.declared.programs.Component.{Component}
use Rattle.program_form.specs.declared.programs.Variable.{Variable}
use Rattle.program_form.specs.FormView.{plain_form}
use Rattle.program_form.specs.declared.kinds.ChildSort.TheVariants as stands
use Rattle.program_form.specs.Template.{PlainTemplate}
use Rattle.program_form.specs.ProgramView.{plain_variable, plain_component as component_written}
use Rattle.program_check.specs.declared.checked.CheckedComponent.{CheckedComponent}
use Rattle.expr_check.specs.declared.fault.CheckStop.{CheckStop}
use Rattle.expr_check.specs.declared.fault.CheckStop.TheVariants as stop
use Rattle.program_check.specs.declared.places.Amount.TheVariants.{One}
use Rattle.program_check.specs.declared.refusals.CheckFault.{CheckFault}
use Rattle.program_check.specs.declared.refusals.CheckFault.TheVariants as fault
use Rattle.expr_check.specs.Check.{Check, StopsAs, and_then}
use Rattle.expr_check.specs.declared.wants.Want.TheVariants as want
use Rattle.expr_check.specs.Names.{NamedTypes, PlainNames}
use Rattle.expr_check.specs.Exprs.{TypedExp}
use Rattle.expr_check.specs.Handlers.{typed_as}
use Rattle.program_check.specs.Body.{PlainBody}
use Rattle.program_check.specs.Judged.{position, child_at, judged}
use Rattle.program_check.specs.Place.{Signature}
use Rattle.program_check.specs.Checked.{PlainVariables, PlainCheckedComponent, signature_of}
use Rattle.program_check.specs.CheckedView.{signature, plain_component}
use Rattle.program_check.specs.ProgramCheck.{CheckedAt, made_at, then_placed, new_name, variables_and, declared_variables, nothing_seen, seen_in_body, place_with, checked_root, component_names, checked_component, checked_components}
use Rattle.program_check.specs.Refusals.{refusal_at, RefusesAs}

pub signatures-plain : (cs : List CheckedComponent) → map signature_of (map plain_component cs) ≡ map signature cs
signatures-plain [] = refl
signatures-plain (c ∷ cs) = ap (λ ss. signature c ∷ ss) (signatures-plain cs)

pub names-written : (cs : List Component) → component_names (map component_written cs) ≡ map (λ c. c.name) cs
names-written [] = refl
names-written (c ∷ cs) = ap (λ ns. c.name ∷ ns) (names-written cs)

-- the check of a component after those that are done, where it and those after it have these names
abbrev pub next_check : NamedTypes → List CheckedComponent → List (List ℕ) → Component → CheckedAt PlainCheckedComponent
next_check inherited done later c = made_at (Some (length done)) (checked_component inherited (map signature done) later (component_written c))

-- the check of the components that are left, after those that are done
abbrev pub left_to_check : NamedTypes → CheckedAt (List PlainCheckedComponent) → List Component → List CheckedComponent → Type 0
left_to_check inherited whole left done = whole ≡ checked_components inherited (map plain_component done) (map component_written left)

abbrev placed_next : NamedTypes → List PlainCheckedComponent → List Component → Component → ℕ → List Signature → List (List ℕ) → CheckedAt (List PlainCheckedComponent)
placed_next inherited before rest c place earlier later =
    then_placed (made_at (Some place) (checked_component inherited earlier later (component_written c))) (λ d.
    checked_components inherited (before ++ d ∷ []) (map component_written rest))

abbrev then_left : NamedTypes → List CheckedComponent → List Component → CheckedAt PlainCheckedComponent → CheckedAt (List PlainCheckedComponent)
then_left inherited done rest check = then_placed check (λ d. checked_components inherited (map plain_component done ++ d ∷ []) (map component_written rest))

abbrev pub name_of : Component → List ℕ
name_of c = c.name

-- the names that the program reads, of the place that it reads them at
names-read : (names : List (List ℕ)) (done : List CheckedComponent) (place : ℕ) → place ≡ length done → take (length names - place) (drop place names) ≡ drop (length done) names
names-read names done place e = take_rest names place ∙ ap (λ n. drop n names) e

components-next : (inherited : NamedTypes) (whole : CheckedAt (List PlainCheckedComponent)) (names : List (List ℕ)) (left : List Component) (done read : List CheckedComponent) (place : ℕ) (c : Component)
    (rest : List Component) → left ≡ c ∷ rest → left_to_check inherited whole left done → drop (length done) names ≡ map name_of left → read ≡ done → place ≡ length done
    → whole ≡ then_left inherited done rest (next_check inherited read (take (length names - place) (drop place names)) c)
components-next inherited whole names left done read place c rest is w named same at =
    let before = map plain_component done in
    let later : component_names (map component_written (c ∷ rest)) ≡ take (length names - place) (drop place names) =
    names-written (c ∷ rest) ∙ ap (map name_of) (sym is) ∙ sym named ∙ sym (names-read names done place at) in
    w ∙ ap (λ xs. checked_components inherited before (map component_written xs)) is
    ∙ ap (λ n. placed_next inherited before rest c n (map signature_of before) (component_names (map component_written (c ∷ rest)))) (length-map done plain_component)
    ∙ ap (λ ss. placed_next inherited before rest c (length done) ss (component_names (map component_written (c ∷ rest)))) (signatures-plain done)
    ∙ ap (placed_next inherited before rest c (length done) (map signature done)) later
    ∙ ap (λ earlier. then_left inherited done rest (next_check inherited earlier (take (length names - place) (drop place names)) c)) (sym same)

pub components-step : (inherited : NamedTypes) (whole : CheckedAt (List PlainCheckedComponent)) (names : List (List ℕ)) (left : List Component) (done read after : List CheckedComponent) (place : ℕ)
    (c : Component) (rest : List Component) (x : CheckedComponent) → left ≡ c ∷ rest → left_to_check inherited whole left done → drop (length done) names ≡ map name_of left → read ≡ done
    → place ≡ length done → next_check inherited read (take (length names - place) (drop place names)) c ≡ Ok (plain_component x) → after ≡ done ++ x ∷ []
    → left_to_check inherited whole rest after
components-step inherited whole names left done read after place c rest x is w named same at r l =
    components-next inherited whole names left done read place c rest is w named same at ∙ ap (then_left inherited done rest) r
    ∙ ap (λ before. checked_components inherited before (map component_written rest)) (sym (ap (map plain_component) l ∙ map-append plain_component done (x ∷ [])))

pub components-refused : (inherited : NamedTypes) (whole : CheckedAt (List PlainCheckedComponent)) (names : List (List ℕ)) (left : List Component) (done read : List CheckedComponent) (place : ℕ)
    (c : Component) (rest : List Component) (refusal : CheckFault) → left ≡ c ∷ rest → left_to_check inherited whole left done → drop (length done) names ≡ map name_of left → read ≡ done
    → place ≡ length done → RefusesAs refusal (next_check inherited read (take (length names - place) (drop place names)) c) → RefusesAs refusal whole
components-refused inherited whole names left done read place c rest (fault.Bad code component) is w named same at r =
    components-next inherited whole names left done read place c rest is w named same at ∙ ap (then_left inherited done rest) r
components-refused inherited whole names left done read place c rest fault.OutOfMemory is w named same at r = tt

-- the names of the components that are left, after one more
abbrev list_rest : List (List ℕ) → List (List ℕ)
list_rest [] = []
list_rest (x ∷ xs) = xs

drop_suc : (names : List (List ℕ)) (n : ℕ) → drop (suc n) names ≡ list_rest (drop n names)
drop_suc [] zero = refl
drop_suc [] (suc n) = refl
drop_suc (x ∷ names) zero = refl
drop_suc (x ∷ names) (suc n) = drop_suc names n

pub names-left : (names : List (List ℕ)) (left : List Component) (done after : List CheckedComponent) (c : Component) (rest : List Component) (x : CheckedComponent) → left ≡ c ∷ rest
    → drop (length done) names ≡ map name_of left → after ≡ done ++ x ∷ [] → drop (length after) names ≡ map name_of rest
names-left names left done after c rest x is named l =
    let count : length after ≡ suc (length done) = ap length l ∙ length-append done (x ∷ []) ∙ add-one (length done) in
    ap (λ n. drop n names) count ∙ drop_suc names (length done) ∙ ap list_rest (named ∙ ap (map name_of) is)

-- what one more component declares
pub decls-more : (count : ℕ) (before later : List CheckedComponent) (c : CheckedComponent) → HaveDecls count before → HasDecl count c → later ≡ before ++ c ∷ [] → HaveDecls count later
decls-more count before later c h d l = subst (HaveDecls count) (sym l) (All-push (HasDecl count) before c h d)

-- ---- the root

-- the check of a root where nothing has no names, and slots none
abbrev pub root_check : NamedTypes → NamedTypes → List (List ℕ) → List CheckedComponent → PlainTemplate → Check PlainBody
root_check nothing inherited slots cs t =
    child_at (position One stands.Box) (place_with (seen_in_body nothing nothing nothing) inherited slots (map signature cs) []) (judged t)

pub checked_root-plain : (nothing inherited : NamedTypes) (slots : List (List ℕ)) (cs : List CheckedComponent) (t : PlainTemplate) → nothing ≡ [] → slots ≡ []
    → checked_root inherited (map plain_component cs) t ≡ made_at None (root_check nothing inherited slots cs t)
checked_root-plain nothing inherited slots cs t h k =
    ap (λ ss. made_at None (child_at (position One stands.Box) (place_with nothing_seen inherited [] ss []) (judged t))) (signatures-plain cs)
    ∙ ap (λ names. made_at None (root_check names inherited [] cs t)) (sym h)
    ∙ ap (λ slots. made_at None (root_check nothing inherited slots cs t)) (sym k)

-- what stops a check, where it is made
pub refused-at : {A : Type 0} (component : Option ℕ) (why : CheckStop) (refusal : CheckFault) (check : Check A) (whole : CheckedAt A)
    → whole ≡ made_at component check → StopsAs why check → refusal ≡ refusal_at component why → RefusesAs refusal whole
refused-at component (stop.Bad code) refusal check whole w s l = subst (λ r. RefusesAs r whole) (sym l) (w ∙ ap (made_at component) s)
refused-at component stop.OutOfMemory refusal check whole w s l = subst (λ r. RefusesAs r whole) (sym l) tt

-- what stops the first of two checks stops both
pub stops-first : {A B : Type 0} (why : CheckStop) (w : Check A) (next : A → Check B) → StopsAs why w → StopsAs why (and_then w next)
stops-first (stop.Bad code) w next h = ap (λ x. and_then x next) h
stops-first stop.OutOfMemory w next h = tt

-- ---- fields and inherited names, one after another

-- one more has a name that is new, and a value of its type
pub variables-next : (names : PlainNames) (whole : Check PlainVariables) (before after : PlainVariables) (vs : List Variable) (i : ℕ) (v : Variable) (x : TypedExp)
    → i < length vs → v ≡ get_or vs i v → whole ≡ declared_variables names before (map plain_variable (drop i vs))
    → new_name before.names v.name ≡ Ok tt → typed_as names (want.Exactly v.ty) (plain_form v.value) ≡ Ok x → variables_and before (plain_variable v) x.exp ≡ after
    → whole ≡ declared_variables names after (map plain_variable (drop (i + 1) vs))
variables-next names whole before after vs i v x less is w new typed l =
    let rest = map plain_variable (drop (i + 1) vs) in
    let next = λ (e : TypedExp). declared_variables names (variables_and before (plain_variable v) e.exp) rest in
    w ∙ at_drop_more (λ xs. declared_variables names before (map plain_variable xs)) vs i v less
    ∙ ap (λ u. declared_variables names before (plain_variable u ∷ rest)) (sym is)
    ∙ ap (λ y. and_then y (λ _. and_then (typed_as names (want.Exactly v.ty) (plain_form v.value)) next)) new
    ∙ ap (λ y. and_then y next) typed
    ∙ ap (λ vs. declared_variables names vs rest) l

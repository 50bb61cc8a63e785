-- What is given to a component that is used: its props are typed, and its slots' contents.
use Rattle.std.proofs.Common.{arith, ◌≡◌, ℕ, zero, suc, ◌+◌, ◌==◌, add-one, length, List, [], ◌∷◌, map, Bool, true, false, if◌then◌else◌, Option, Some, None, Ok, ap, subst, refl, sym, ◌∙◌}
use Rattle.std.proofs.lemmas.Grind.{common_steps}
use Rattle.std.proofs.lemmas.Bool.Decides.{nat_tests}
use Rattle.std.specs.Prelude.{slice_get}
use Rattle.std.specs.List.{range_with_len}
use Rattle.fx_expr.specs.declared.values.Ty.{Ty}
use Rattle.fx_expr.specs.Exp.{Exp}
use Rattle.program_form.specs.declared.kinds.ChildSort.TheVariants as stands
use Rattle.program_form.specs.Form.{PlainForm}
use Rattle.expr_check.specs.declared.fault.CheckCode.{CheckCode}
use Rattle.expr_check.specs.declared.fault.CheckCode.TheVariants.{OtherDeclared}
use Rattle.expr_check.specs.declared.wants.Want.TheVariants as want
use Rattle.program_check.specs.declared.places.Amount.TheVariants.{One}
use Rattle.expr_check.specs.Check.{Check, and_then, given, in_order}
use Rattle.expr_check.specs.Names.{NamedTypes, PlainNames, place_of, types_in}
use Rattle.expr_check.specs.Sight.{Sight, sight_of, IsTypedIn}
use Rattle.expr_check.specs.Exprs.{TypedExp}
use Rattle.expr_check.specs.Handlers.{typed_as}
use Rattle.program_check.specs.Body.{PlainBody, bodies_in}
use Rattle.program_check.specs.Place.{PlainPlace, or_wrong}
use Rattle.program_check.specs.Judged.{Judged, position, child_at, given_at, arranged, checked_prop, props_placed, checked_props, slot_place, checked_slot_content, slots_placed, checked_slots}
use Rattle.program_check.specs.TypedBody.{surroundings_of, FitsIn, AreTypedInOrder, IsTypedBody, AreTypedSlots}
use Rattle.expr_check.proofs.Sound.{ok_is, and_then-ok, given-ok, place_of-type}
use Rattle.program_check.proofs.TypedParts.{IsSound, Every, AreSoundSlots, typed_as-wanted, child_at-fine}

-- ---- lists of what is given, each with a place

some_is : {A : Type 0} (x y : A) → Some x ≡ Some y → x ≡ y
some_is x y e = cc

pub or_wrong-found : {A : Type 0} (code : CheckCode) (o : Option A) (x : A) → or_wrong code o ≡ Ok x → o ≡ Some x
or_wrong-found code (Some y) x e = ap Some (ok_is e)
or_wrong-found code None x e = cc

same_place : (a b : ℕ) → (a == b) ≡ true → a ≡ b
same_place a b h = grind (arith, nat_tests, common_steps)

-- whatever is given is right for its place
abbrev Right : {A : Type 0} → (ℕ → A → Type 0) → ℕ × A → Type 0
Right P g = P g.0 g.1

in_order-every : {A S : Type 0} (R : S → Type 0) (Q : A → Type 0) (check : S → Check A) → ((s : S) (r : A) → R s → check s ≡ Ok r → Q r)
    → (ss : List S) (rs : List A) → Every R ss → in_order (map check ss) ≡ Ok rs → Every Q rs
in_order-every R Q check h [] rs every e = subst (Every Q) (ok_is e) tt
in_order-every R Q check h (s ∷ ss) rs every e =
    let here = and_then-ok (check s) (λ x. given (λ xs. x ∷ xs) (in_order (map check ss))) rs e in
    let later = given-ok (λ xs. here.0 ∷ xs) (in_order (map check ss)) rs here.1.1 in
    subst (Every Q) later.1.1 (h s here.0 every.0 here.1.0, in_order-every R Q check h ss later.0 every.1 later.1.0)

any : {S : Type 0} (ss : List S) → Every (λ (s : S). Unit {0}) ss
any [] = tt
any (s ∷ ss) = (tt, any ss)

given-here : {A : Type 0} (P : ℕ → A → Type 0) (place : ℕ) (b : Bool) (g : ℕ × A) (o : Option A) → (b ≡ true → g.0 ≡ place) → P g.0 g.1
    → ((x : A) → o ≡ Some x → P place x) → (x : A) → (if b then Some g.1 else o) ≡ Some x → P place x
given-here P place true g o same right h x e = subst (P place) (some_is _ x e) (subst (λ i. P i g.1) (same refl) right)
given-here P place false g o same right h x e = h x e

given-right : {A : Type 0} (P : ℕ → A → Type 0) (gs : List (ℕ × A)) (place : ℕ) → Every (Right P) gs → (x : A) → given_at gs place ≡ Some x → P place x
given-right P [] place every x e = cc
given-right P (g ∷ gs) place every x e =
    given-here P place (g.0 == place) g (given_at gs place) (same_place g.0 place) every.0 (given-right P gs place every.1) x e

-- as many as a count, each right for its place, from a first place on
abbrev EachFrom : {A : Type 0} → (ℕ → A → Type 0) → ℕ → ℕ → List A → Type 0
EachFrom P place zero [] = Unit {0}
EachFrom P place (suc count) (x ∷ xs) = P place x × EachFrom P (place + 1) count xs
EachFrom P place count xs = ⊥

arranged-from : {A : Type 0} (P : ℕ → A → Type 0) (place count : ℕ) (gs : List (ℕ × A)) (xs : List A) → Every (Right P) gs
    → in_order (map (λ i. or_wrong OtherDeclared (given_at gs i)) (range_with_len place count)) ≡ Ok xs → EachFrom P place count xs
arranged-from P place zero gs xs every e = subst (EachFrom P place 0) (ok_is e) tt
arranged-from P place (suc count) gs xs every e =
    let rest : Check (List _) = in_order (map (λ i. or_wrong OtherDeclared (given_at gs i)) (range_with_len (place + 1) count)) in
    let first = and_then-ok (or_wrong OtherDeclared (given_at gs place)) (λ x. given (λ xs. x ∷ xs) rest) xs e in
    let here = given-right P gs place every first.0 (or_wrong-found OtherDeclared (given_at gs place) first.0 first.1.0) in
    let later = given-ok (λ xs. first.0 ∷ xs) rest xs first.1.1 in
    subst (EachFrom P place (suc count)) later.1.1 (here, arranged-from P (place + 1) count gs later.0 every later.1.0)

one_back : {A : Type 0} (P Q : ℕ → A → Type 0) → ((i : ℕ) (x : A) → P (i + 1) x → Q i x) → (place count : ℕ) (xs : List A)
    → EachFrom P (place + 1) count xs → EachFrom Q place count xs
one_back P Q h place zero [] each = tt
one_back P Q h place zero (x ∷ xs) each = absurd each
one_back P Q h place (suc count) [] each = absurd each
one_back P Q h place (suc count) (x ∷ xs) each = (h place x each.0, one_back P Q h (place + 1) count xs each.1)

-- ---- props

-- an expression of the type at a place
abbrev HasTypeAt : Sight → List Ty → ℕ → Exp → Type 0
HasTypeAt S ts i e = (t : Ty) × (slice_get ts i ≡ Some t) × IsTypedIn S e t

in_types : (S : Sight) (ts : List Ty) (es : List Exp) → EachFrom (HasTypeAt S ts) 0 (length ts) es → AreTypedInOrder S ts es
in_types S [] [] each = tt
in_types S [] (e ∷ es) each = absurd each
in_types S (t ∷ ts) [] each = absurd each
in_types S (t ∷ ts) (e ∷ es) each = (
  subst (IsTypedIn S e) (some_is _ _ (sym each.0.1)) each.0.2,
  in_types S ts es (one_back (HasTypeAt S (t ∷ ts)) (HasTypeAt S ts) one_less 0 (length ts) es each.1),
)
  where
    one_less : (i : ℕ) (e : Exp) → HasTypeAt S (t ∷ ts) (i + 1) e → HasTypeAt S ts i e
    one_less i e h = (h.0, ap (slice_get (t ∷ ts)) (sym (add-one i)) ∙ h.1, h.2)

length-types_in : (ds : NamedTypes) → length (types_in ds) ≡ length ds
length-types_in [] = refl
length-types_in (d ∷ ds) = ap suc (length-types_in ds)

prop-right : (names : PlainNames) (declared : NamedTypes) (g : List ℕ × PlainForm) (r : ℕ × Exp) → checked_prop names declared g ≡ Ok r
    → Right (HasTypeAt (sight_of names) (types_in declared)) r
prop-right names declared g r e =
    let found = and_then-ok (or_wrong OtherDeclared (place_of declared g.0)) (λ d. given (λ e. (d.0, e.exp)) (typed_as names (want.Exactly d.1) g.1)) r e in
    let d : ℕ × Ty = found.0 in
    let value = given-ok (λ (e : TypedExp). (d.0, e.exp)) (typed_as names (want.Exactly d.1) g.1) r found.1.1 in
    subst (Right (HasTypeAt (sight_of names) (types_in declared))) value.1.1
    (d.1, place_of-type declared g.0 d (or_wrong-found OtherDeclared (place_of declared g.0) d found.1.0), typed_as-wanted names (want.Exactly d.1) g.1 value.0 value.1.0)

pub props-typed : (names : PlainNames) (declared : NamedTypes) (gs : List (List ℕ × PlainForm)) (es : List Exp) → checked_props names declared gs ≡ Ok es
    → AreTypedInOrder (sight_of names) (types_in declared) es
props-typed names declared gs es e =
    let S : Sight = sight_of names in
    let values : Check (List (ℕ × Exp)) = in_order (map (checked_prop names declared) gs) in
    let all = and_then-ok (props_placed declared gs) (λ _. and_then values (arranged (length declared))) es e in
    let given = and_then-ok values (arranged (length declared)) es all.1.1 in
    let right : Every (Right (HasTypeAt S (types_in declared))) given.0 =
    in_order-every (λ (s : List ℕ × PlainForm). Unit {0}) (Right (HasTypeAt S (types_in declared))) (checked_prop names declared) (λ g r _. prop-right names declared g r) gs given.0 (any gs) given.1.0 in
    in_types S (types_in declared) es
    (subst (λ n. EachFrom (HasTypeAt S (types_in declared)) 0 n es) (sym (length-types_in declared))
    (arranged-from (HasTypeAt S (types_in declared)) 0 (length declared) given.0 es right given.1.1))

-- ---- slots

-- a box, wherever it is given
abbrev IsTypedBox : PlainPlace → ℕ → PlainBody → Type 0
IsTypedBox place i b = FitsIn place.earlier (position One stands.Box) b × IsTypedBody (surroundings_of place) b

boxes : (place : PlainPlace) (i count : ℕ) (bs : List PlainBody) → EachFrom (IsTypedBox place) i count bs
    → AreTypedSlots (surroundings_of place) count (bodies_in bs)
boxes place i zero [] each = tt
boxes place i zero (b ∷ bs) each = absurd each
boxes place i (suc count) [] each = absurd each
boxes place i (suc count) (b ∷ bs) each = (each.0.0, each.0.1, boxes place (i + 1) count bs each.1)

content-right : (place : PlainPlace) (declared : List (List ℕ)) (g : List ℕ × Judged) (r : ℕ × PlainBody) → IsSound g.1
    → checked_slot_content place declared g ≡ Ok r → Right (IsTypedBox place) r
content-right place declared g r sound e =
    let found = and_then-ok (slot_place declared g) (λ i. given (λ b. (i, b)) (child_at (position One stands.Box) place g.1)) r e in
    let i : ℕ = found.0 in
    let box = given-ok (λ (b : PlainBody). (i, b)) (child_at (position One stands.Box) place g.1) r found.1.1 in
    let fine = child_at-fine (position One stands.Box) place g.1 box.0 sound box.1.0 in
    subst (Right (IsTypedBox place)) box.1.1 (fine.0, fine.1.typed)

pub slots-typed : (place : PlainPlace) (declared : List (List ℕ)) (gs : List (List ℕ × Judged)) (bs : List PlainBody) → AreSoundSlots gs
    → checked_slots place declared gs ≡ Ok bs → AreTypedSlots (surroundings_of place) (length declared) (bodies_in bs)
slots-typed place declared gs bs sound e =
    let values : Check (List (ℕ × PlainBody)) = in_order (map (checked_slot_content place declared) gs) in
    let all = and_then-ok (slots_placed declared gs) (λ _. and_then values (arranged (length declared))) bs e in
    let given = and_then-ok values (arranged (length declared)) bs all.1.1 in
    let right : Every (Right (IsTypedBox place)) given.0 =
    in_order-every (λ (s : List ℕ × Judged). IsSound s.1) (Right (IsTypedBox place)) (checked_slot_content place declared) (content-right place declared) gs given.0 sound given.1.0 in
    boxes place 0 (length declared) bs (arranged-from (IsTypedBox place) 0 (length declared) given.0 bs right given.1.1)

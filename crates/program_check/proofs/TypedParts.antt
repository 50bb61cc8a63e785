-- The members of most kinds are typed where their checks give them.
use Rattle.std.proofs.Common.{◌≡◌, ℕ, List, [], ◌∷◌, Bool, true, false, Option, Some, None, Ok, ap, subst, refl, sym, ◌∙◌}
use Rattle.std.specs.Prelude.{not, ⊤}
use Rattle.fx_expr.specs.declared.values.Ty.{Ty}
use Rattle.fx_expr.specs.declared.values.Ty.TheVariants as ty
use Rattle.fx_expr.specs.Exp.{Exp}
use Rattle.fx_expr.specs.Typed.{item_type, IsJoinable}
use Rattle.program_form.specs.declared.kinds.KindMember.{KindMember}
use Rattle.program_form.specs.declared.kinds.MemberForm.{MemberForm}
use Rattle.program_form.specs.declared.kinds.MemberForm.TheVariants as member_is
use Rattle.program_form.specs.Form.{PlainForm}
use Rattle.program_form.specs.Key as written
use Rattle.program_form.specs.Key.{PlainKey}
use Rattle.expr_check.specs.declared.fault.CheckCode.{CheckCode}
use Rattle.expr_check.specs.declared.fault.CheckCode.TheVariants.{WrongType, WrongSort, Uncertain}
use Rattle.expr_check.specs.declared.wants.Want.{Want}
use Rattle.expr_check.specs.declared.wants.Want.TheVariants as want
use Rattle.program_check.specs.declared.places.Amount.{Amount}
use Rattle.program_check.specs.declared.places.Amount.TheVariants.{One, AtMostOne, Any}
use Rattle.program_check.specs.declared.places.Position.{Position}
use Rattle.expr_check.specs.Check.{and_then, given, in_order}
use Rattle.expr_check.specs.Names.{PlainNames}
use Rattle.expr_check.specs.Sight.{Sight, sight_of, IsTypedIn}
use Rattle.expr_check.specs.Wants.{is_list, is_joinable, item_of, meets}
use Rattle.expr_check.specs.Exprs.{TypedExp, fits, typed_form}
use Rattle.expr_check.specs.Handlers.{typed_as, checked_handler}
use Rattle.program_check.specs.Body.{KeyExp, local, global, PlainBody, PlainBodyPart, expression, word, handler, child, children, members_in, bodies_in}
use Rattle.program_check.specs.Place.{PlainPlace, expected, sorts_agree}
use Rattle.program_check.specs.Judged.{Judged, JudgedPart, of_form, of_word, of_handler, of_child, of_children, of_slots, JudgedParts, is_local_key, is_global_key, local_key, global_key, checked_key, optional_key, want_of, allowed, position, child_at, children_at, is_of, amount_of, checked_part, checked_member, first, after, member_checks}
use Rattle.program_check.specs.TypedBody.{Surroundings, surroundings_of, is_certain_body, is_each_body, sort_of_body, gives, FitsIn, IsTypedAs, IsTypedKey, part_of, wanted_of, IsTypedBody, AreTypedMembers, IsTypedPart, AreTypedBodies}
use Rattle.expr_check.proofs.Sound.{ok_is, and_then-ok, given-ok, test-ok}
use Rattle.expr_check.proofs.Whole.{same_ty-is}
use Rattle.expr_check.proofs.Seeing.{typed_form-typed}
use Rattle.expr_check.proofs.HandlerLemmas.{checked_handler-typed}

-- ---- what is to be shown

-- a checked template is typed where it stands, and is what it was judged to be
pub record IsFine (place : PlainPlace) (j : Judged) (b : PlainBody) : Type 0 where
  pub typed : IsTypedBody (surroundings_of place) b
  pub certain : is_certain_body b ≡ j.certain
  pub each : is_each_body b ≡ j.is_each
  pub sort : sort_of_body place.earlier b ≡ j.sort place.earlier

-- so is whatever the check gives, wherever it stands
abbrev pub IsSound : Judged → Type 0
IsSound j = (place : PlainPlace) (b : PlainBody) → j.check place ≡ Ok b → IsFine place j b

abbrev pub AreSound : List Judged → Type 0
AreSound [] = Unit {0}
AreSound (j ∷ js) = IsSound j × AreSound js

abbrev pub Every : {A : Type 0} → (A → Type 0) → List A → Type 0
Every P [] = Unit {0}
Every P (x ∷ xs) = P x × Every P xs

abbrev pub AreSoundSlots : List (List ℕ × Judged) → Type 0
AreSoundSlots ss = Every (λ (s : List ℕ × Judged). IsSound s.1) ss

abbrev pub IsSoundPart : JudgedPart → Type 0
IsSoundPart (of_child j) = IsSound j
IsSoundPart (of_children js) = AreSound js
IsSoundPart (of_slots ss) = AreSoundSlots ss
IsSoundPart p = Unit {0}

abbrev pub IsSoundMember : Option JudgedPart → Type 0
IsSoundMember None = Unit {0}
IsSoundMember (Some p) = IsSoundPart p

abbrev pub AreSoundParts : JudgedParts → Type 0
AreSoundParts [] = Unit {0}
AreSoundParts (p ∷ ps) = IsSoundMember p × AreSoundParts ps

-- ---- steps

pub expected-ok : (b : Bool) (code : CheckCode) (x : ⊤) → expected b code ≡ Ok x → b ≡ true
expected-ok true code x e = refl
expected-ok false code x e = cc

-- an expression that was asked for, and its type
pub typed_as-has : (names : PlainNames) (w : Want) (f : PlainForm) (r : TypedExp) → typed_as names w f ≡ Ok r → IsTypedIn (sight_of names) r.exp r.ty × (meets w r.ty ≡ true)
typed_as-has names w f r e =
    let first = and_then-ok (typed_form names f) (λ e. given (λ _. e) (fits w e.ty)) r e in
    let o : TypedExp = first.0 in
    let test = given-ok (λ _. o) (fits w o.ty) r first.1.1 in
    subst (λ o. IsTypedIn (sight_of names) o.exp o.ty × (meets w o.ty ≡ true)) test.1.1
    (typed_form-typed names f o first.1.0, test-ok (meets w o.ty) test.0 test.1.0)

pub list_item : (t : Ty) → is_list t ≡ true → item_type t ≡ Some (item_of t)
list_item ty.Ints h = refl
list_item ty.Texts h = refl
list_item t h = cc

joinable : (t : Ty) → is_joinable t ≡ true → IsJoinable t
joinable ty.Text h = tt
joinable ty.Ints h = tt
joinable ty.Texts h = tt
joinable t h = cc

has_wanted : (S : Sight) (w : Want) (e : Exp) (t : Ty) → IsTypedIn S e t → meets w t ≡ true → IsTypedAs S w e
has_wanted S (want.Exactly u) e t typed h = subst (IsTypedIn S e) (sym (same_ty-is u t h)) typed
has_wanted S want.Any e t typed h = (t, typed)
has_wanted S want.List e t typed h = (t, (item_of t, list_item t h), typed)
has_wanted S want.Joinable e t typed h = (t, joinable t h, typed)

pub typed_as-wanted : (names : PlainNames) (w : Want) (f : PlainForm) (r : TypedExp) → typed_as names w f ≡ Ok r → IsTypedAs (sight_of names) w r.exp
typed_as-wanted names w f r e = let h = typed_as-has names w f r e in has_wanted (sight_of names) w r.exp r.ty h.0 h.1

-- ---- keys

local-typed : (S : Sight) (x : TypedExp) (r : KeyExp) → IsTypedIn S x.exp x.ty → local_key x ≡ Ok r → IsTypedKey S (Some r)
local-typed S x r typed e =
    let test = given-ok (λ _. local x.exp) (expected (is_local_key x.ty) WrongType) r e in
    subst (λ r. IsTypedKey S (Some r)) test.1.1 (x.ty, expected-ok (is_local_key x.ty) WrongType test.0 test.1.0, typed)

global-is : (t : Ty) → is_global_key t ≡ true → t ≡ ty.Text
global-is ty.Text h = refl
global-is t h = cc

global-typed : (S : Sight) (x : TypedExp) (r : KeyExp) → IsTypedIn S x.exp x.ty → global_key x ≡ Ok r → IsTypedKey S (Some r)
global-typed S x r typed e =
    let test = given-ok (λ _. global x.exp) (expected (is_global_key x.ty) WrongType) r e in
    let text : x.ty ≡ ty.Text = global-is x.ty (expected-ok (is_global_key x.ty) WrongType test.0 test.1.0) in
    subst (λ r. IsTypedKey S (Some r)) test.1.1 (subst (IsTypedIn S x.exp) text typed)

key-typed : (names : PlainNames) (key : PlainKey) (r : KeyExp) → checked_key names key ≡ Ok r → IsTypedKey (sight_of names) (Some r)
key-typed names (written.local f) r e =
    let found = and_then-ok (typed_form names f) local_key r e in
    local-typed (sight_of names) found.0 r (typed_form-typed names f found.0 found.1.0) found.1.1
key-typed names (written.global f) r e =
    let found = and_then-ok (typed_form names f) global_key r e in
    global-typed (sight_of names) found.0 r (typed_form-typed names f found.0 found.1.0) found.1.1

pub optional_key-typed : (names : PlainNames) (key : Option PlainKey) (r : Option KeyExp) → optional_key names key ≡ Ok r → IsTypedKey (sight_of names) r
optional_key-typed names None r e = subst (IsTypedKey (sight_of names)) (ok_is e) tt
optional_key-typed names (Some key) r e =
    let found = given-ok Some (checked_key names key) r e in
    subst (IsTypedKey (sight_of names)) found.1.1 (key-typed names key found.0 found.1.0)

-- ---- children

pub fits-in : (place : PlainPlace) (p : Position) (j : Judged) (b : PlainBody) → IsFine place j b → allowed p.amount j ≡ true
    → sorts_agree p.sort (j.sort place.earlier) ≡ true → FitsIn place.earlier p b
fits-in place p j b fine amount sort = record {
  amount = gives_is p.amount ∙ amount;
  sort = ap (sorts_agree p.sort) fine.sort ∙ sort;
}
  where
    gives_is : (a : Amount) → gives a b ≡ allowed a j
    gives_is One = fine.certain
    gives_is AtMostOne = ap not fine.each
    gives_is Any = refl

pub child_at-fine : (p : Position) (place : PlainPlace) (j : Judged) (b : PlainBody) → IsSound j → child_at p place j ≡ Ok b
    → FitsIn place.earlier p b × IsFine place j b
child_at-fine p place j b sound e =
    let amount = and_then-ok (expected (allowed p.amount j) Uncertain) (λ _. and_then (expected (sorts_agree p.sort (j.sort place.earlier)) WrongSort) (λ _. j.check place)) b e in
    let sort = and_then-ok (expected (sorts_agree p.sort (j.sort place.earlier)) WrongSort) (λ _. j.check place) b amount.1.1 in
    let fine : IsFine place j b = sound place b sort.1.1 in (
      fits-in place p j b fine (expected-ok (allowed p.amount j) Uncertain amount.0 amount.1.0)
          (expected-ok (sorts_agree p.sort (j.sort place.earlier)) WrongSort sort.0 sort.1.0),
      fine,
    )

children_at-typed : (p : Position) (place : PlainPlace) (js : List Judged) (bs : List PlainBody) → AreSound js → children_at p place js ≡ Ok bs
    → AreTypedBodies (surroundings_of place) p (bodies_in bs)
children_at-typed p place [] bs sound e = subst (λ bs. AreTypedBodies (surroundings_of place) p (bodies_in bs)) (ok_is e) tt
children_at-typed p place (j ∷ js) bs sound e =
    let here = and_then-ok (child_at p place j) (λ x. given (λ xs. x ∷ xs) (children_at p place js)) bs e in
    let b : PlainBody = here.0 in
    let later = given-ok (λ xs. b ∷ xs) (children_at p place js) bs here.1.1 in
    let fine = child_at-fine p place j b sound.0 here.1.0 in
    subst (λ bs. AreTypedBodies (surroundings_of place) p (bodies_in bs)) later.1.1
    (fine.0, fine.1.typed, children_at-typed p place js later.0 sound.1 later.1.0)

-- ---- members

pub part-typed : (place : PlainPlace) (required : Bool) (s : MemberForm) (p : JudgedPart) (r : PlainBodyPart) → IsSoundPart p → checked_part place required s p ≡ Ok r
    → IsTypedPart (surroundings_of place) (part_of (surroundings_of place) required s) r
part-typed place required (member_is.Expression meaning) (of_form f) r sound e =
    let found = given-ok (λ (e : TypedExp). expression e.exp) (typed_as place.names (want_of meaning) f) r e in
    subst (IsTypedPart (surroundings_of place) (part_of (surroundings_of place) required (member_is.Expression meaning))) found.1.1
    (typed_as-wanted place.names (want_of meaning) f found.0 found.1.0)
part-typed place required (member_is.Word list) (of_word w) r sound e =
    let found = given-ok (λ _. word w) (expected (is_of list w) WrongType) r e in
    subst (IsTypedPart (surroundings_of place) (part_of (surroundings_of place) required (member_is.Word list))) found.1.1
    (expected-ok (is_of list w) WrongType found.0 found.1.0)
part-typed place required member_is.Handler (of_handler sets) r sound e =
    let found = given-ok handler (checked_handler place.names sets) r e in
    subst (IsTypedPart (surroundings_of place) (part_of (surroundings_of place) required member_is.Handler)) found.1.1
    (checked_handler-typed place.names sets found.0 found.1.0)
part-typed place required (member_is.Child wanted) (of_child j) r sound e =
    let found = given-ok child (child_at (position (amount_of required) wanted) place j) r e in
    let fine = child_at-fine (position (amount_of required) wanted) place j found.0 sound found.1.0 in
    subst (IsTypedPart (surroundings_of place) (part_of (surroundings_of place) required (member_is.Child wanted))) found.1.1 (fine.0, fine.1.typed)
part-typed place required (member_is.Children wanted) (of_children js) r sound e =
    let found = given-ok (λ bs. children (bodies_in bs)) (children_at (position Any wanted) place js) r e in
    subst (IsTypedPart (surroundings_of place) (part_of (surroundings_of place) required (member_is.Children wanted))) found.1.1
    (children_at-typed (position Any wanted) place js found.0 sound found.1.0)
part-typed place required s p r sound e = cc

not-true : (b : Bool) → not b ≡ true → b ≡ false
not-true false h = refl
not-true true h = cc

-- a member, and those after it
abbrev MemberTyped : Surroundings → KindMember → List KindMember → Option PlainBodyPart → List (Option PlainBodyPart) → Type 0
MemberTyped S m ms r rs = AreTypedMembers S (wanted_of S (m ∷ ms)) (members_in (r ∷ rs))

member-typed : (place : PlainPlace) (m : KindMember) (ms : List KindMember) (p : Option JudgedPart) (r : Option PlainBodyPart) (rs : List (Option PlainBodyPart))
    → IsSoundMember p → checked_member place m p ≡ Ok r → AreTypedMembers (surroundings_of place) (wanted_of (surroundings_of place) ms) (members_in rs)
    → MemberTyped (surroundings_of place) m ms r rs
member-typed place m ms None r rs sound e later =
    let test = given-ok (λ _. None) (expected (not m.required) WrongType) r e in
    subst (λ r. MemberTyped (surroundings_of place) m ms r rs) test.1.1
    (not-true m.required (expected-ok (not m.required) WrongType test.0 test.1.0), later)
member-typed place m ms (Some p) r rs sound e later =
    let found = given-ok Some (checked_part place m.required m.form p) r e in
    subst (λ r. MemberTyped (surroundings_of place) m ms r rs) found.1.1
    (part-typed place m.required m.form p found.0 sound found.1.0, later)

first-sound : (ps : JudgedParts) → AreSoundParts ps → IsSoundMember (first ps)
first-sound [] sound = tt
first-sound (p ∷ ps) sound = sound.0

after-sound : (ps : JudgedParts) → AreSoundParts ps → AreSoundParts (after ps)
after-sound [] sound = tt
after-sound (p ∷ ps) sound = sound.1

pub members-typed : (place : PlainPlace) (ms : List KindMember) (ps : JudgedParts) (rs : List (Option PlainBodyPart)) → AreSoundParts ps
    → in_order (member_checks place ms ps) ≡ Ok rs → AreTypedMembers (surroundings_of place) (wanted_of (surroundings_of place) ms) (members_in rs)
members-typed place [] ps rs sound e = subst (λ rs. AreTypedMembers (surroundings_of place) [] (members_in rs)) (ok_is e) tt
members-typed place (m ∷ ms) ps rs sound e =
    let here = and_then-ok (checked_member place m (first ps)) (λ x. given (λ xs. x ∷ xs) (in_order (member_checks place ms (after ps)))) rs e in
    let r : Option PlainBodyPart = here.0 in
    let later = given-ok (λ xs. r ∷ xs) (in_order (member_checks place ms (after ps))) rs here.1.1 in
    subst (λ rs. AreTypedMembers (surroundings_of place) (wanted_of (surroundings_of place) (m ∷ ms)) (members_in rs)) later.1.1
    (member-typed place m ms (first ps) r later.0 (first-sound ps sound) here.1.0
    (members-typed place ms (after ps) later.0 (after-sound ps sound) later.1.0))

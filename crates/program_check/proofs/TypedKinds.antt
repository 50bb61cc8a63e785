-- The members of each kind are typed where its check gives them.
use Rattle.std.proofs.Common.{arith, ◌≡◌, ℕ, zero, suc, ◌+◌, ◌<◌, ◌&&◌, length, List, [], ◌∷◌, ◌++◌, Bool, true, false, if◌then◌else◌, Option, Some, None, option_map, Ok, ap, subst, refl, sym, ◌∙◌, is_none}
use Rattle.std.specs.Prelude.{slice_get, is_some}
use Rattle.std.specs.Str.{bytes_eq}
use Rattle.fx_expr.specs.declared.values.Ty.{Ty}
use Rattle.fx_expr.specs.declared.values.Ty.TheVariants as ty
use Rattle.fx_expr.specs.Exp.{Exp}
use Rattle.program_form.specs.declared.kinds.KindName.{KindName}
use Rattle.program_form.specs.declared.kinds.KindName.TheVariants as kind
use Rattle.program_form.specs.declared.kinds.ChildSort.{ChildSort}
use Rattle.program_form.specs.declared.kinds.ChildSort.TheVariants as stands
use Rattle.program_form.specs.Form.{PlainForm}
use Rattle.expr_check.specs.declared.fault.CheckCode.TheVariants.{MissingName, WrongType}
use Rattle.expr_check.specs.declared.wants.Want.TheVariants as want
use Rattle.program_check.specs.declared.places.Amount.TheVariants.{One, AtMostOne}
use Rattle.expr_check.specs.Check.{and_then, given}
use Rattle.expr_check.specs.Names.{NamedTypes, place_of, types_in}
use Rattle.expr_check.specs.Wants.{item_of}
use Rattle.expr_check.specs.Exprs.{TypedExp, or_missing}
use Rattle.expr_check.specs.Handlers.{typed_as}
use Rattle.program_check.specs.Body.{PlainBody, PlainBodyPart, expression, name, child, props, slots, members_in, bodies_in}
use Rattle.program_check.specs.Place.{Signature, PlainPlace, or_wrong, index_of, index_by, with_signature, component_of, or_early, used_component}
use Rattle.program_check.specs.Judged.{Judged, JudgedPart, of_child, of_slots, JudgedParts, part_at, child_of, name_of, form_in, name_in, child_in, props_in, slots_in, is_certain, certain, sort_of, sort_found, sort_used, sort_in, position, child_at, checked_inherit, checked_slot, checked_else, checked_if, named_members, place_inside, loop_list, loop_child, checked_each, checked_props, checked_slots, checked_use}
use Rattle.expr_check.specs.Sight.{sight}
use Rattle.program_check.specs.TypedBody.{Surroundings, surroundings, surroundings_of, inside, certain_by, certain_members, sort_by, sorts_of_members, sort_of_body, is_certain_body, component_sort, WantedMember, must, may, the_place, an_expression, a_child, the_props, the_slots, AreWanted, IsTypedBody, AreTypedMembers}
use Rattle.expr_check.proofs.Sound.{ok_is, and_then-ok, given-ok, place_of-type}
use Rattle.program_check.proofs.TypedParts.{IsSound, AreSoundSlots, IsSoundMember, AreSoundParts, typed_as-has, typed_as-wanted, list_item, child_at-fine}
use Rattle.program_check.proofs.TypedUse.{or_wrong-found, props-typed, slots-typed}

-- ---- what is to be shown of the members that a check gives

pub record AreFine (k : KindName) (place : PlainPlace) (ps : JudgedParts) (rs : List (Option PlainBodyPart)) : Type 0 where
  pub wants : List WantedMember
  pub wanted : AreWanted (surroundings_of place) k (members_in rs) wants
  pub typed : AreTypedMembers (surroundings_of place) wants (members_in rs)
  pub certain : certain_by k (certain_members (members_in rs)) ≡ certain k ps
  pub sort : sort_by k (sorts_of_members place.earlier (members_in rs)) ≡ sort_in k ps place.earlier

-- ---- steps

or_missing-found : (o : Option (ℕ × Ty)) (p : ℕ × Ty) → or_missing o ≡ Ok p → o ≡ Some p
or_missing-found (Some q) p e = ap Some (ok_is e)
or_missing-found None p e = cc

some_is : {A : Type 0} (x y : A) → Some x ≡ Some y → x ≡ y
some_is x y e = cc

part_at-sound : (ps : JudgedParts) (i : ℕ) → AreSoundParts ps → IsSoundMember (part_at ps i)
part_at-sound [] i sound = tt
part_at-sound (p ∷ ps) zero sound = sound.0
part_at-sound (p ∷ ps) (suc i) sound = part_at-sound ps i sound.1

child-sound : (p : Option JudgedPart) (j : Judged) → IsSoundMember p → child_of p ≡ Some j → IsSound j
child-sound (Some (of_child i)) j sound e = subst IsSound (some_is i j e) sound
child-sound p j sound e = cc

-- a member that is a child
child_in-is : (ps : JudgedParts) (i : ℕ) (j : Judged) → child_in ps i ≡ Ok j → child_of (part_at ps i) ≡ Some j
child_in-is ps i j e = or_wrong-found WrongType (child_of (part_at ps i)) j e

child_in-sound : (ps : JudgedParts) (i : ℕ) (j : Judged) → AreSoundParts ps → child_in ps i ≡ Ok j → IsSound j
child_in-sound ps i j sound e = child-sound (part_at ps i) j (part_at-sound ps i sound) (child_in-is ps i j e)

name_in-is : (ps : JudgedParts) (i : ℕ) (n : List ℕ) → name_in ps i ≡ Ok n → name_of (part_at ps i) ≡ Some n
name_in-is ps i n e = or_wrong-found WrongType (name_of (part_at ps i)) n e

slots_in-sound : (p : Option JudgedPart) (ss : List (List ℕ × Judged)) → IsSoundMember p → slots_in p ≡ Ok ss → AreSoundSlots ss
slots_in-sound (Some (of_slots ts)) ss sound e = subst AreSoundSlots (ok_is e) sound
slots_in-sound None ss sound e = subst AreSoundSlots (ok_is e) tt
slots_in-sound p ss sound e = cc

-- ---- look-ups

index_here : {X : Type 0} (x : X) (xs : List X) (b : Bool) (o : Option ℕ) → ((j : ℕ) → o ≡ Some j → j < length xs)
    → (i : ℕ) → (if b then Some 0 else option_map (λ i. i + 1) o) ≡ Some i → i < length (x ∷ xs)
index_here x xs true o h i e = subst (λ i. i < length (x ∷ xs)) (some_is 0 i e) (omega arith)
index_here x xs false (Some j) h i e = subst (λ i. i < length (x ∷ xs)) (some_is (j + 1) i e) (let below : j < length xs = h j refl in omega arith)
index_here x xs false None h i e = cc

index_by-below : {X : Type 0} (f : X → List ℕ) (xs : List X) (wanted : List ℕ) (i : ℕ) → index_by f xs wanted ≡ Some i → i < length xs
index_by-below f [] wanted i e = cc
index_by-below f (x ∷ xs) wanted i e = index_here x xs (bytes_eq wanted (f x)) (index_by f xs wanted) (index_by-below f xs wanted) i e

abbrev IsThere : List Signature → ℕ × Signature → Type 0
IsThere cs c = slice_get cs c.0 ≡ Some c.1

signature-there : (cs : List Signature) (i : ℕ) (o : Option Signature) → slice_get cs i ≡ o → (c : ℕ × Signature) → option_map (λ c. (i, c)) o ≡ Some c → IsThere cs c
signature-there cs i (Some s) h c e = subst (IsThere cs) (some_is _ c e) h
signature-there cs i None h c e = cc

with_signature-there : (cs : List Signature) (o : Option ℕ) (c : ℕ × Signature) → with_signature cs o ≡ Some c → IsThere cs c
with_signature-there cs (Some i) c e = signature-there cs i (slice_get cs i) refl c e
with_signature-there cs None c e = cc

component_of-there : (cs : List Signature) (wanted : List ℕ) (c : ℕ × Signature) → component_of cs wanted ≡ Some c → IsThere cs c
component_of-there cs wanted c e = with_signature-there cs (index_by (λ c. c.name) cs wanted) c e

or_early-found : (declared : Bool) (o : Option (ℕ × Signature)) (c : ℕ × Signature) → or_early declared o ≡ Ok c → o ≡ Some c
or_early-found declared (Some d) c e = ap Some (ok_is e)
or_early-found true None c e = cc
or_early-found false None c e = cc

abbrev Parted : Type 0
Parted = List (Option PlainBodyPart)

-- ---- `slot`

pub slot-fine : (place : PlainPlace) (ps : JudgedParts) (rs : Parted) → checked_slot place ps ≡ Ok rs → AreFine kind.Slot place ps rs
slot-fine place ps rs e =
    let named = and_then-ok (name_in ps 0) (λ n. given (λ i. Some (name i) ∷ []) (or_wrong MissingName (index_of place.slots n))) rs e in
    let found = given-ok (λ (i : ℕ). Some (name i) ∷ []) (or_wrong MissingName (index_of place.slots named.0)) rs named.1.1 in
    let i : ℕ = found.0 in
    let below : i < length place.slots = index_by-below (λ n. n) place.slots named.0 i (or_wrong-found MissingName (index_of place.slots named.0) i found.1.0) in
    subst (AreFine kind.Slot place ps) found.1.1 (record {
      wants = must (the_place i) ∷ [];
      wanted = (i, below, refl);
      typed = (refl, tt);
      certain = refl;
      sort = refl;
    })

-- ---- `Inherit`

pub inherit-fine : (place : PlainPlace) (ps : JudgedParts) (rs : Parted) → AreSoundParts ps → checked_inherit place ps ≡ Ok rs → AreFine kind.Inherit place ps rs
inherit-fine place ps rs sound e =
    let build = λ (p : ℕ × Ty) (e : TypedExp) (b : PlainBody). Some (name p.0) ∷ Some (expression e.exp) ∷ Some (child b) ∷ [] in
    let from_child = λ (p : ℕ × Ty) (e : TypedExp) (j : Judged). given (build p e) (child_at (position One stands.Any) place j) in
    let from_value = λ (p : ℕ × Ty) (e : TypedExp). and_then (child_in ps 2) (from_child p e) in
    let from_form = λ (p : ℕ × Ty) (f : PlainForm). and_then (typed_as place.names (want.Exactly p.1) f) (from_value p) in
    let from_name = λ (p : ℕ × Ty). and_then (form_in ps 1) (from_form p) in
    let named = and_then-ok (name_in ps 0) (λ n. and_then (or_missing (place_of place.provided n)) from_name) rs e in
    let n : List ℕ = named.0 in
    let found = and_then-ok (or_missing (place_of place.provided n)) from_name rs named.1.1 in
    let p : ℕ × Ty = found.0 in
    let form = and_then-ok (form_in ps 1) (from_form p) rs found.1.1 in
    let value = and_then-ok (typed_as place.names (want.Exactly p.1) form.0) (from_value p) rs form.1.1 in
    let x : TypedExp = value.0 in
    let inner = and_then-ok (child_in ps 2) (from_child p x) rs value.1.1 in
    let j : Judged = inner.0 in
    let whole = given-ok (build p x) (child_at (position One stands.Any) place j) rs inner.1.1 in
    let b : PlainBody = whole.0 in
    let fine = child_at-fine (position One stands.Any) place j b (child_in-sound ps 2 j sound inner.1.0) whole.1.0 in
    subst (AreFine kind.Inherit place ps) {x = build p x b} whole.1.1 (record {
      wants = must (the_place p.0) ∷ must (an_expression (want.Exactly p.1)) ∷ must (a_child (position One stands.Any) (surroundings_of place)) ∷ [];
      wanted = (p.0, p.1, place_of-type place.provided n p (or_missing-found (place_of place.provided n) p found.1.0), refl);
      typed = (refl, (typed_as-wanted place.names (want.Exactly p.1) form.0 x value.1.0, ((fine.0, fine.1.typed), tt)));
      certain = refl;
      sort = fine.1.sort ∙ ap (sort_of place.earlier) (sym (child_in-is ps 2 j inner.1.0));
    })

-- ---- `if`

-- what `else` gives, after a condition and `then`
record ElseFine (place : PlainPlace) (wanted : ChildSort) (p : Option JudgedPart) (r : Option PlainBodyPart) : Type 0 where
  typed : AreTypedMembers (surroundings_of place) (may (a_child (position AtMostOne wanted) (surroundings_of place)) ∷ []) (members_in (r ∷ []))
  certain : (front : Bool) → certain_by kind.If (false ∷ front ∷ certain_members (members_in (r ∷ []))) ≡ (front && is_certain (child_of p))

else-fine : (wanted : ChildSort) (place : PlainPlace) (p : Option JudgedPart) (r : Option PlainBodyPart) → IsSoundMember p
    → (if is_none p then Ok None else and_then (or_wrong WrongType (child_of p)) (λ j. given (λ b. Some (child b)) (child_at (position AtMostOne wanted) place j))) ≡ Ok r
    → ElseFine place wanted p r
else-fine wanted place None r sound e = subst (ElseFine place wanted None) (ok_is e) (record { typed = (refl, tt); certain = λ front. refl })
else-fine wanted place (Some p) r sound e =
    let inner = and_then-ok (or_wrong WrongType (child_of (Some p))) (λ j. given (λ b. Some (child b)) (child_at (position AtMostOne wanted) place j)) r e in
    let j : Judged = inner.0 in
    let is_child : child_of (Some p) ≡ Some j = or_wrong-found WrongType (child_of (Some p)) j inner.1.0 in
    let whole = given-ok (λ (b : PlainBody). Some (child b)) (child_at (position AtMostOne wanted) place j) r inner.1.1 in
    let fine = child_at-fine (position AtMostOne wanted) place j whole.0 (child-sound (Some p) j sound is_child) whole.1.0 in
    subst (ElseFine place wanted (Some p)) whole.1.1 (record {
      typed = ((fine.0, fine.1.typed), tt);
      certain = λ front. ap (λ c. front && c) (fine.1.certain ∙ ap is_certain (sym is_child));
    })

pub if-fine : (place : PlainPlace) (ps : JudgedParts) (rs : Parted) → AreSoundParts ps → checked_if place ps ≡ Ok rs → AreFine kind.If place ps rs
if-fine place ps rs sound e =
    let S : Surroundings = surroundings_of place in
    let build = λ (e : TypedExp) (b : PlainBody) (other : Option PlainBodyPart). Some (expression e.exp) ∷ Some (child b) ∷ other ∷ [] in
    let from_then = λ (e : TypedExp) (j : Judged) (b : PlainBody). given (build e b) (checked_else (j.sort place.earlier) place ps) in
    let from_child = λ (e : TypedExp) (j : Judged). and_then (child_at (position AtMostOne stands.Any) place j) (from_then e j) in
    let from_value = λ (e : TypedExp). and_then (child_in ps 1) (from_child e) in
    let from_form = λ (f : PlainForm). and_then (typed_as place.names (want.Exactly ty.Bool) f) from_value in
    let form = and_then-ok (form_in ps 0) from_form rs e in
    let value = and_then-ok (typed_as place.names (want.Exactly ty.Bool) form.0) from_value rs form.1.1 in
    let x : TypedExp = value.0 in
    let inner = and_then-ok (child_in ps 1) (from_child x) rs value.1.1 in
    let j : Judged = inner.0 in
    let branch = and_then-ok (child_at (position AtMostOne stands.Any) place j) (from_then x j) rs inner.1.1 in
    let b : PlainBody = branch.0 in
    let whole = given-ok (build x b) (checked_else (j.sort place.earlier) place ps) rs branch.1.1 in
    let fine = child_at-fine (position AtMostOne stands.Any) place j b (child_in-sound ps 1 j sound inner.1.0) branch.1.0 in
    let other = else-fine (j.sort place.earlier) place (part_at ps 2) whole.0 (part_at-sound ps 2 sound) whole.1.0 in
    let is_then = sym (child_in-is ps 1 j inner.1.0) in
    subst (AreFine kind.If place ps) {x = build x b whole.0} whole.1.1 (record {
      wants = must (an_expression (want.Exactly ty.Bool)) ∷ must (a_child (position AtMostOne stands.Any) S) ∷ may (a_child (position AtMostOne (sort_of_body place.earlier b)) S) ∷ [];
      wanted = refl;
      typed = (
        typed_as-wanted place.names (want.Exactly ty.Bool) form.0 x value.1.0,
        (
          (fine.0, fine.1.typed),
          subst (λ s. AreTypedMembers S (may (a_child (position AtMostOne s) S) ∷ []) (members_in (whole.0 ∷ []))) (sym fine.1.sort) other.typed,
        ),
      );
      certain = other.certain (is_certain_body b) ∙ ap (λ c. c && is_certain (child_of (part_at ps 2))) (fine.1.certain ∙ ap is_certain is_then);
      sort = fine.1.sort ∙ ap (sort_of place.earlier) is_then;
    })

-- ---- `each`

types_in-more : (vars : NamedTypes) (n : List ℕ) (t : Ty) → types_in (vars ++ (n, t) ∷ []) ≡ types_in vars ++ t ∷ []
types_in-more [] n t = refl
types_in-more (v ∷ vars) n t = ap (λ ts. v.1 ∷ ts) (types_in-more vars n t)

length-types_in : (ds : NamedTypes) → length (types_in ds) ≡ length ds
length-types_in [] = refl
length-types_in (d ∷ ds) = ap suc (length-types_in ds)

-- the place inside a loop whose variable has this name and type
abbrev one_inside : List ℕ → Ty → PlainPlace → PlainPlace
one_inside n t place = place_inside (place.names.vars ++ (n, t) ∷ []) place

surroundings_inside : (n : List ℕ) (t : Ty) (place : PlainPlace) → surroundings_of (one_inside n t place) ≡ inside t (surroundings_of place)
surroundings_inside n t place =
    ap (λ vars. surroundings (sight (record { fields = types_in place.names.fields; props = types_in place.names.props; vars = vars; inherited = types_in place.names.inherited }) place.names.event)
    (types_in place.provided) (length place.slots) place.earlier) (types_in-more place.names.vars n t)

pub each-fine : (place : PlainPlace) (ps : JudgedParts) (rs : Parted) → AreSoundParts ps → checked_each place ps ≡ Ok rs → AreFine kind.Each place ps rs
each-fine place ps rs sound e =
    let S : Surroundings = surroundings_of place in
    let looped : List ℕ → TypedExp → NamedTypes × Exp = λ n x. (place.names.vars ++ (n, item_of x.ty) ∷ [], x.exp) in
    let listed = λ (n : List ℕ) (f : PlainForm). given (looped n) (typed_as place.names want.List f) in
    let list = and_then-ok (loop_list place ps) (loop_child place (child_in ps 2)) rs e in
    let named = and_then-ok (name_in ps 0) (λ n. and_then (form_in ps 1) (listed n)) list.0 list.1.0 in
    let n : List ℕ = named.0 in
    let form = and_then-ok (form_in ps 1) (listed n) list.0 named.1.1 in
    let value = given-ok (looped n) (typed_as place.names want.List form.0) list.0 form.1.1 in
    let x : TypedExp = value.0 in
    let build = named_members (length place.names.vars) x.exp in
    let from_child = λ (j : Judged). given build (child_at (position One stands.Any) (one_inside n (item_of x.ty) place) j) in
    let inner = and_then-ok (child_in ps 2) from_child rs (ap (loop_child place (child_in ps 2)) value.1.1 ∙ list.1.1) in
    let j : Judged = inner.0 in
    let there : PlainPlace = one_inside n (item_of x.ty) place in
    let whole = given-ok build (child_at (position One stands.Any) there j) rs inner.1.1 in
    let b : PlainBody = whole.0 in
    let fine = child_at-fine (position One stands.Any) there j b (child_in-sound ps 2 j sound inner.1.0) whole.1.0 in
    let has = typed_as-has place.names want.List form.0 x value.1.0 in
    subst (AreFine kind.Each place ps) whole.1.1 (record {
      wants = must (the_place (length S.sight.types.vars)) ∷ must (an_expression (want.Exactly x.ty)) ∷ must (a_child (position One stands.Any) (inside (item_of x.ty) S)) ∷ [];
      wanted = (x.ty, item_of x.ty, list_item x.ty has.1, refl);
      typed = (sym (length-types_in place.names.vars), (has.0, ((fine.0, subst (λ S. IsTypedBody S b) (surroundings_inside n (item_of x.ty) place) fine.1.typed), tt)));
      certain = refl;
      sort = fine.1.sort ∙ ap (sort_of place.earlier) (sym (child_in-is ps 2 j inner.1.0));
    })

-- ---- `use`

pub use-fine : (place : PlainPlace) (n : List ℕ) (c : ℕ × Signature) (ps : JudgedParts) (rs : Parted) → AreSoundParts ps
    → name_in ps 0 ≡ Ok n → used_component place n ≡ Ok c → checked_use place c ps ≡ Ok rs → AreFine kind.Use place ps rs
use-fine place n c ps rs sound named used e =
    let build = λ (es : List Exp) (bs : List PlainBody). Some (name c.0) ∷ Some (props es) ∷ Some (slots (bodies_in bs)) ∷ [] in
    let from_slots = λ (es : List Exp) (ss : List (List ℕ × Judged)). given (build es) (checked_slots place c.1.slots ss) in
    let from_props = λ (es : List Exp). and_then (slots_in (part_at ps 2)) (from_slots es) in
    let written = and_then-ok (props_in (part_at ps 1)) (λ gs. and_then (checked_props place.names c.1.props gs) from_props) rs e in
    let values = and_then-ok (checked_props place.names c.1.props written.0) from_props rs written.1.1 in
    let es : List Exp = values.0 in
    let contents = and_then-ok (slots_in (part_at ps 2)) (from_slots es) rs values.1.1 in
    let whole = given-ok (build es) (checked_slots place c.1.slots contents.0) rs contents.1.1 in
    let bs : List PlainBody = whole.0 in
    let found : component_of place.earlier n ≡ Some c = or_early-found (is_some (index_of place.later n)) (component_of place.earlier n) c used in
    let there : slice_get place.earlier c.0 ≡ Some c.1 = component_of-there place.earlier n c found in
    subst (AreFine kind.Use place ps) whole.1.1 (record {
      wants = must (the_place c.0) ∷ must (the_props (types_in c.1.props)) ∷ must (the_slots (length c.1.slots)) ∷ [];
      wanted = (c.0, c.1, there, refl);
      typed = (
        refl,
        (
          props-typed place.names c.1.props written.0 es values.1.0,
          (slots-typed place c.1.slots contents.0 bs (slots_in-sound (part_at ps 2) contents.0 (part_at-sound ps 2 sound) contents.1.0) whole.1.0, tt),
        ),
      );
      certain = refl;
      sort = ap component_sort there ∙ ap sort_found (sym found) ∙ ap (sort_used place.earlier) (sym (name_in-is ps 0 n named));
    })

-- What a typed `if` and a typed `each` give, and then any typed template.
use Rattle.std.proofs.Common.{◌≡◌, ℕ, zero, suc, arith, Bool, true, false, ◌&&◌, cond, List, [], ◌∷◌, ◌++◌, map, length, flat_map, Option, Some, None, slice_get, ap, sym, subst, refl, ◌∙◌}
use Rattle.std.proofs.lemmas.List.{map-append}
use Rattle.fx_expr.specs.declared.values.Value.{Value}
use Rattle.fx_expr.specs.declared.values.Ty.{Ty}
use Rattle.fx_expr.specs.declared.values.Ty.TheVariants as ty
use Rattle.fx_expr.specs.Exp.{Exp}
use Rattle.fx_expr.specs.Typed.{IsTyped, item_type}
use Rattle.fx_expr.specs.Value.{type_of, bool_in}
use Rattle.fx_expr.specs.ValueOf.{value_of}
use Rattle.fx_expr.specs.TypeLaws.{value_of-typed}
use Rattle.program_form.specs.declared.kinds.KindName.{KindName}
use Rattle.program_form.specs.declared.kinds.KindName.TheVariants as kind
use Rattle.program_form.specs.declared.kinds.ChildSort.TheVariants as stands
use Rattle.expr_check.specs.declared.wants.Want.TheVariants as want
use Rattle.program_check.specs.declared.places.Amount.TheVariants.{One, AtMostOne}
use Rattle.program_check.specs.Body.{KeyExp, PlainBody, body, BodyMembers, no_members, left_out, member, PlainBodyPart, expression, word, name, handler, child, children, props, slots, PlainBodies, no_bodies, one_body}
use Rattle.program_check.specs.Judged.{position}
use Rattle.program_check.specs.TypedBody as typed_body
use Rattle.program_check.specs.TypedBody.{Surroundings, an_expression, the_place, a_child, must, may, then_sort, sort_of_body, is_certain_body, is_each_body, IsTypedBody, AreTypedMembers, AreTypedBodies, AreTypedSlots, FitsIn}
use Rattle.program_check.proofs.KnownSorts.{body-known}
use Rattle.widget_model.specs.Plain.{PlainWidget}
use Rattle.widget_model.specs.Typed.{Sort, box, sort_of, AllAre}
use Rattle.template_build.specs.Scene.{Scene, inside}
use Rattle.template_build.specs.Output.{items_in, output_of, outputs_of}
use Rattle.template_build.specs.Program.{widget_sort}
use Rattle.template_build.specs.Suits.{Suits}
use Rattle.template_build.proofs.TypedParts.{suits_inside, item_typed}
use Rattle.template_build.proofs.Inversions.{three_members, three, two_and, IsTypedOr, two_or_three, named, expressed, a_child_is}
use Rattle.template_build.proofs.FineLists.{all-append, typed-append, agree, both_true, not_true}
use Rattle.template_build.proofs.FineTable.{Boxes, AreGood, AreFine, IsFine, FineBody, FineBodies, FineSlots, FinePart, FineMembers, known_in, sorts_as}
use Rattle.template_build.proofs.FineTemplates.{at_members, fine_table, fine_inherit, fine_use, fine_slot}

-- ---- `if`

-- the branch that is taken
chosen : (t certain : Bool) (sort : Sort) (s : Scene) (us vs : List PlainWidget) → AreFine sort certain false s us → AreFine sort certain false s vs
    → AreFine sort certain false s (cond t us vs)
chosen true certain sort s us vs f g = f
chosen false certain sort s us vs f g = g

-- a branch with its sort, where both have to be certain and none is an `each`
as_branch : (sort : Sort) (certain : Bool) (S : Surroundings) (s : Scene) (b : PlainBody) → widget_sort (sort_of_body S.components b) ≡ sort
    → (certain ≡ true → is_certain_body b ≡ true) → is_each_body b ≡ false → IsFine S s b → AreFine sort certain false s (output_of b s)
as_branch sort certain S s b same surely each f = record {
  sorts = subst (λ t. AllAre t (map (sort_of s.declared) (output_of b s))) same f.sorts;
  one = λ h. f.one (surely h);
  few = λ _. f.few each;
  good = f.good;
}

no_branch : (sort : Sort) (certain : Bool) (s : Scene) → certain ≡ false → AreFine sort certain false s []
no_branch sort certain s h = record { sorts = tt; one = λ e. absurd (cc (e, h)); few = λ _. omega arith; good = λ g. tt }

if_else : (key : Option KeyExp) (e : Exp) (b c : PlainBody) (S : Surroundings) (s : Scene) → Suits S s
    → FitsIn S.components (position AtMostOne stands.Any) b → IsFine S s b
    → widget_sort (sort_of_body S.components c) ≡ widget_sort (sort_of_body S.components b) → FitsIn S.components (position AtMostOne (sort_of_body S.components b)) c → IsFine S s c
    → IsFine S s (body kind.If key (two_and (expression e) (child b) (Some (child c))))
unfolding output_of
if_else key e b c S s suits fits f same fits_else g =
    let sort = widget_sort (sort_of_body S.components b) in
    let certain = is_certain_body b && is_certain_body c in
    chosen (bool_in (value_of e s.env)) certain sort s (output_of b s) (output_of c s)
    (as_branch sort certain S s b refl (λ h. (both_true (is_certain_body b) (is_certain_body c) h).0) (not_true (is_each_body b) fits.amount) f)
    (as_branch sort certain S s c same (λ h. (both_true (is_certain_body b) (is_certain_body c) h).1) (not_true (is_each_body c) fits_else.amount) g)

and_false : (a : Bool) → (a && false) ≡ false
and_false true = refl
and_false false = refl

if_alone : (key : Option KeyExp) (e : Exp) (b : PlainBody) (S : Surroundings) (s : Scene) → Suits S s
    → FitsIn S.components (position AtMostOne stands.Any) b → IsFine S s b → IsFine S s (body kind.If key (two_and (expression e) (child b) None))
unfolding output_of
if_alone key e b S s suits fits f =
    let sort = widget_sort (sort_of_body S.components b) in
    let certain = is_certain_body b && false in
    chosen (bool_in (value_of e s.env)) certain sort s (output_of b s) []
    (as_branch sort certain S s b refl (λ h. (both_true (is_certain_body b) false h).0) (not_true (is_each_body b) fits.amount) f)
    (no_branch sort certain s (and_false (is_certain_body b)))

fine_other : (key : Option KeyExp) (e : Exp) (b : PlainBody) (r : Option PlainBodyPart) (S : Surroundings) (s : Scene) → Suits S s → Boxes s
    → FitsIn S.components (position AtMostOne stands.Any) b → IsTypedBody S b → FineBody b
    → IsTypedOr S (a_child (position AtMostOne (sort_of_body S.components b)) S) r
    → at_members S s kind.If key (two_and (expression e) (child b) r)
fine_other key e b None S s suits boxes fits typed fine other = λ _. if_alone key e b S s suits fits (fine S s suits boxes typed)
fine_other key e b (Some r) S s suits boxes fits typed fine other =
    let at = position AtMostOne (sort_of_body S.components b) in
    let c = a_child_is S S at r other in
    let known = body-known b S (known_in S s suits) typed in
    subst (λ r. at_members S s kind.If key (two_and (expression e) (child b) (Some r))) (sym c.same)
    (λ below. if_else key e b c.b S s suits fits (fine S s suits boxes typed)
    (agree (sort_of_body S.components b) (sort_of_body S.components c.b) known (body-known c.b S (known_in S s suits) c.typed) c.fits.sort) c.fits
    (below.1.1.0 S s suits boxes c.typed))

then_is : (S : Surroundings) (e : Exp) (b : PlainBody) (r : Option PlainBodyPart) → then_sort S (two_and (expression e) (child b) r) ≡ sort_of_body S.components b
then_is S e b None = refl
then_is S e b (Some r) = refl

first_fine : (e : Exp) (b : PlainBody) (r : Option PlainBodyPart) → FineMembers (two_and (expression e) (child b) r) → FineBody b
first_fine e b None h = h.1.0
first_fine e b (Some r) h = h.1.0

fine_if : (key : Option KeyExp) (ms : BodyMembers) (S : Surroundings) (s : Scene) → Suits S s → Boxes s → IsTypedBody S (body kind.If key ms) → FineMembers ms
    → IsFine S s (body kind.If key ms)
fine_if key ms S s suits boxes typed =
    let members = subst (λ ws. AreTypedMembers S ws ms) typed.1.1 typed.1.2 in
    let at = position AtMostOne stands.Any in
    let other = a_child (position AtMostOne (then_sort S ms)) S in
    let m = two_or_three S (an_expression (want.Exactly ty.Bool)) (a_child at S) other ms members in
    let e = expressed S (want.Exactly ty.Bool) m.p m.first in
    let c = a_child_is S S at m.q m.second in
    let is_ms : ms ≡ two_and (expression e.0) (child c.b) m.r =
    m.same ∙ ap (λ p. two_and p m.q m.r) e.1 ∙ ap (λ q. two_and (expression e.0) q m.r) c.same in
    let sort : then_sort S ms ≡ sort_of_body S.components c.b = ap (then_sort S) is_ms ∙ then_is S e.0 c.b m.r in
    let third = subst (λ t. IsTypedOr S (a_child (position AtMostOne t) S) m.r) sort m.third in
    subst (at_members S s kind.If key) (sym is_ms)
    (λ fine. fine_other key e.0 c.b m.r S s suits boxes c.fits c.typed (first_fine e.0 c.b m.r fine) third fine)

-- ---- `each`

abbrev AllOf : Ty → List Value → Type 0
AllOf item xs = (i : ℕ) (x : Value) → slice_get xs i ≡ Some x → type_of x ≡ item

repeated : (f : Value → List PlainWidget) (sort : Sort) (s : Scene) (item : Ty) (xs : List Value) → AllOf item xs
    → ((x : Value) → type_of x ≡ item → AllAre sort (map (sort_of s.declared) (f x)) × AreGood s (f x))
    → AllAre sort (map (sort_of s.declared) (flat_map f xs)) × AreGood s (flat_map f xs)
repeated f sort s item [] all fine = (tt, λ g. tt)
repeated f sort s item (x ∷ xs) all fine =
    let here = fine x (all zero x refl) in
    let rest = repeated f sort s item xs (λ i y e. all (suc i) y e) fine in (
      subst (AllAre sort) (sym (map-append (sort_of s.declared) (f x) (flat_map f xs))) (all-append sort (map (sort_of s.declared) (f x)) (map (sort_of s.declared) (flat_map f xs)) here.0 rest.0),
      λ g. typed-append s.declared (f x) (flat_map f xs) (here.1 g) (rest.1 g),
    )

each_at : (key : Option KeyExp) (n : ℕ) (e : Exp) (b : PlainBody) (S : Surroundings) (s : Scene) (t item : Ty) → Suits S s → Boxes s
    → item_type t ≡ Some item → IsTyped S.sight.types e t → IsTypedBody (typed_body.inside item S) b → FineBody b
    → IsFine S s (body kind.Each key (three_members (name n) (expression e) (child b)))
unfolding output_of
each_at key n e b S s t item suits boxes of typed inner fine =
    let has : type_of (value_of e s.env) ≡ t = value_of-typed e s.env t (subst (λ T. IsTyped T e t) (sym suits.names) typed) in
    let items = items_in (value_of e s.env) in
    let r = repeated (λ v. output_of b (inside v s)) (widget_sort (sort_of_body S.components b)) s item items
    (λ i x at. item_typed (value_of e s.env) item i x (ap item_type has ∙ of) at)
    (λ x at. let f = fine (typed_body.inside item S) (inside x s) (suits_inside S s item x suits at) boxes inner in (f.sorts, f.good)) in
    record { sorts = r.0; one = λ h. cc h; few = λ h. absurd (cc h); good = r.1 }

fine_each : (key : Option KeyExp) (ms : BodyMembers) (S : Surroundings) (s : Scene) → Suits S s → Boxes s → IsTypedBody S (body kind.Each key ms) → FineMembers ms
    → IsFine S s (body kind.Each key ms)
fine_each key ms S s suits boxes typed =
    let wanted = typed.1.1 in
    let t = wanted.0 in
    let item = wanted.1 in
    let there = typed_body.inside item S in
    let n = length S.sight.types.vars in
    let members = subst (λ ws. AreTypedMembers S ws ms) wanted.3 typed.1.2 in
    let m = three S (the_place n) (an_expression (want.Exactly t)) (a_child (position One stands.Any) there) ms members in
    let e = expressed S (want.Exactly t) m.q m.second in
    let c = a_child_is S there (position One stands.Any) m.r m.third in
    let is_ms : ms ≡ three_members (name n) (expression e.0) (child c.b) =
    m.same ∙ ap (λ p. three_members p m.q m.r) (named S n m.p m.first) ∙ ap (λ q. three_members (name n) q m.r) e.1 ∙ ap (λ r. three_members (name n) (expression e.0) r) c.same in
    subst (at_members S s kind.Each key) (sym is_ms)
    (λ fine. each_at key n e.0 c.b S s t item suits boxes wanted.2 e.2.0 c.typed fine.1.1.0)

-- ---- any template

by_kind : (k : KindName) (key : Option KeyExp) (ms : BodyMembers) (S : Surroundings) (s : Scene) → Suits S s → Boxes s → IsTypedBody S (body k key ms) → FineMembers ms
    → IsFine S s (body k key ms)
by_kind kind.Inherit key ms S s suits boxes typed fine = fine_inherit key ms S s suits boxes typed fine
by_kind kind.Use key ms S s suits boxes typed fine = fine_use key ms S s suits boxes typed fine
by_kind kind.Slot key ms S s suits boxes typed fine = fine_slot key ms S s suits boxes typed fine
by_kind kind.If key ms S s suits boxes typed fine = fine_if key ms S s suits boxes typed fine
by_kind kind.Each key ms S s suits boxes typed fine = fine_each key ms S s suits boxes typed fine
by_kind k key ms S s suits boxes typed fine = fine_table k key ms S s refl suits boxes typed fine

bodies_none : (s : Scene) → outputs_of no_bodies s ≡ []
unfolding output_of
bodies_none s = refl

bodies_one : (b : PlainBody) (bs : PlainBodies) (s : Scene) → outputs_of (one_body b bs) s ≡ output_of b s ++ outputs_of bs s
unfolding output_of
bodies_one b bs s = refl

joined_sorts : (sort : Sort) (s : Scene) (us vs ws : List PlainWidget) → ws ≡ us ++ vs → AllAre sort (map (sort_of s.declared) us) → AllAre sort (map (sort_of s.declared) vs)
    → AllAre sort (map (sort_of s.declared) ws)
joined_sorts sort s us vs ws e h k =
    subst (λ ws. AllAre sort (map (sort_of s.declared) ws)) (sym e)
    (subst (AllAre sort) (sym (map-append (sort_of s.declared) us vs)) (all-append sort (map (sort_of s.declared) us) (map (sort_of s.declared) vs) h k))

joined_good : (s : Scene) (us vs ws : List PlainWidget) → ws ≡ us ++ vs → AreGood s us → AreGood s vs → AreGood s ws
joined_good s us vs ws e h k = subst (AreGood s) (sym e) (λ g. typed-append s.declared us vs (h g) (k g))

length_append : {A : Type 0} (xs ys : List A) (m : ℕ) → length xs ≡ 1 → length ys ≡ m → length (xs ++ ys) ≡ suc m
length_append [] ys m h k = cc h
length_append (x ∷ []) ys m h k = ap suc k
length_append (x ∷ y ∷ xs) ys m h k = absurd (omega (arith, h))

mutual
  pub fine_body : (b : PlainBody) → FineBody b
  fine_body (body k key ms) S s suits boxes typed = by_kind k key ms S s suits boxes typed (fine_members ms)

  fine_members : (ms : BodyMembers) → FineMembers ms
  fine_members no_members = tt
  fine_members (left_out ms) = fine_members ms
  fine_members (member p ms) = (fine_part p, fine_members ms)

  fine_part : (p : PlainBodyPart) → FinePart p
  fine_part (expression e) = tt
  fine_part (word w) = tt
  fine_part (name i) = tt
  fine_part (handler sets) = tt
  fine_part (child b) = fine_body b
  fine_part (children bs) = fine_bodies bs
  fine_part (props es) = tt
  fine_part (slots bs) = fine_slots bs

  fine_bodies : (bs : PlainBodies) → FineBodies bs
  fine_bodies no_bodies S s at suits boxes known typed =
      (subst (λ ws. AllAre (widget_sort at.sort) (map (sort_of s.declared) ws)) (sym (bodies_none s)) tt, subst (AreGood s) (sym (bodies_none s)) (λ g. tt))
  fine_bodies (one_body b bs) S s at suits boxes known typed =
      let f = fine_body b S s suits boxes typed.1 in
      let rest = fine_bodies bs S s at suits boxes known typed.2 in
      let here = subst (λ t. AllAre t (map (sort_of s.declared) (output_of b s))) (sorts_as S s b at suits known typed.0 typed.1) f.sorts in (
        joined_sorts (widget_sort at.sort) s (output_of b s) (outputs_of bs s) (outputs_of (one_body b bs) s) (bodies_one b bs s) here rest.0,
        joined_good s (output_of b s) (outputs_of bs s) (outputs_of (one_body b bs) s) (bodies_one b bs s) f.good rest.1,
      )

  fine_slots : (bs : PlainBodies) → FineSlots bs
  fine_slots no_bodies S s zero suits boxes typed =
      (ap length (bodies_none s), subst (λ ws. AllAre box (map (sort_of s.declared) ws)) (sym (bodies_none s)) tt, subst (AreGood s) (sym (bodies_none s)) (λ g. tt))
  fine_slots no_bodies S s (suc n) suits boxes typed = absurd typed
  fine_slots (one_body b bs) S s zero suits boxes typed = absurd typed
  fine_slots (one_body b bs) S s (suc n) suits boxes typed =
      let f = fine_body b S s suits boxes typed.1 in
      let rest = fine_slots bs S s n suits boxes typed.2 in
      let here = subst (λ t. AllAre t (map (sort_of s.declared) (output_of b s))) (sorts_as S s b (position One stands.Box) suits tt typed.0 typed.1) f.sorts in
      let joined = bodies_one b bs s in (
        ap length joined ∙ length_append (output_of b s) (outputs_of bs s) n (f.one typed.0.amount) rest.0,
        joined_sorts box s (output_of b s) (outputs_of bs s) (outputs_of (one_body b bs) s) joined here rest.1,
        joined_good s (output_of b s) (outputs_of bs s) (outputs_of (one_body b bs) s) joined f.good rest.2,
      )

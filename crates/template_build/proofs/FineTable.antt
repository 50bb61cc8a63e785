-- What a typed template gives below it is what the table of its kind wants there.
use Rattle.std.proofs.Common.{◌≡◌, ℕ, ◌≤◌, arith, Bool, true, false, ◌&&◌, List, [], ◌∷◌, map, length, ap, sym, subst, refl, ◌∙◌}
use Rattle.program_form.specs.declared.kinds.ChildSort.{ChildSort}
use Rattle.program_form.specs.declared.kinds.ChildSort.TheVariants as stands
use Rattle.program_form.specs.declared.kinds.KindMember.{KindMember}
use Rattle.program_form.specs.declared.kinds.MemberForm.{MemberForm}
use Rattle.program_form.specs.declared.kinds.MemberForm.TheVariants as member_is
use Rattle.program_check.specs.declared.places.Amount.TheVariants.{One, AtMostOne, Any}
use Rattle.program_check.specs.declared.places.Position.{Position}
use Rattle.program_check.specs.Body.{PlainBody, BodyMembers, no_members, left_out, member, PlainBodyPart, expression, word, name, handler, child, children, props, slots, PlainBodies}
use Rattle.program_check.specs.Judged.{position}
use Rattle.program_check.specs.TypedBody.{Surroundings, WantedPart, an_expression, a_word, the_place, a_handler, a_child, some_children, the_props, the_slots, no_part, part_of, wanted_of, FitsIn, sort_of_body, is_certain_body, is_each_body, IsBoxOrSliver, IsTypedBody, AreTypedMembers, AreTypedBodies, AreTypedSlots, IsTypedPart}
use Rattle.program_check.proofs.KnownSorts.{AreKnown, body-known}
use Rattle.widget_model.specs.Plain.{PlainWidget, widgets_of}
use Rattle.widget_model.specs.Typed as typed
use Rattle.widget_model.specs.Typed.{Sort, box, sort_of, AllAre, JustOne, AreTypedWidgets}
use Rattle.template_build.specs.Scene.{Scene}
use Rattle.template_build.specs.Output.{given_below, output_of, outputs_in, outputs_of}
use Rattle.template_build.specs.Program.{widget_sort}
use Rattle.template_build.specs.Suits.{Suits}
use Rattle.template_build.specs.Building.{holds}
use Rattle.template_build.proofs.FineLists.{length_map, just_one, at_most_one, agree, both_true, not_true}

-- the contents given for slots are boxes
abbrev pub Boxes : Scene → Type 0
Boxes s = AllAre box (map (sort_of s.declared) s.given)

-- widgets are typed where the contents given for slots are
abbrev pub AreGood : Scene → List PlainWidget → Type 0
AreGood s ws = AreTypedWidgets s.declared (widgets_of s.given) → AreTypedWidgets s.declared (widgets_of ws)

-- widgets of one sort; one where the template is certain, and at most one where it is no `each`
pub record AreFine (sort : Sort) (certain each : Bool) (s : Scene) (ws : List PlainWidget) : Type 0 where
  pub sorts : AllAre sort (map (sort_of s.declared) ws)
  pub one : certain ≡ true → length ws ≡ 1
  pub few : each ≡ false → length ws ≤ 1
  pub good : AreGood s ws

abbrev pub IsFine : Surroundings → Scene → PlainBody → Type 0
IsFine S s b = AreFine (widget_sort (sort_of_body S.components b)) (is_certain_body b) (is_each_body b) s (output_of b s)

-- ---- in any scene that suits

abbrev pub FineBody : PlainBody → Type 0
FineBody b = (S : Surroundings) (s : Scene) → Suits S s → Boxes s → IsTypedBody S b → IsFine S s b

abbrev pub FineBodies : PlainBodies → Type 0
FineBodies bs = (S : Surroundings) (s : Scene) (at : Position) → Suits S s → Boxes s → IsBoxOrSliver at.sort → AreTypedBodies S at bs
    → AllAre (widget_sort at.sort) (map (sort_of s.declared) (outputs_of bs s)) × AreGood s (outputs_of bs s)

abbrev pub FineSlots : PlainBodies → Type 0
FineSlots bs = (S : Surroundings) (s : Scene) (n : ℕ) → Suits S s → Boxes s → AreTypedSlots S n bs
    → (length (outputs_of bs s) ≡ n) × AllAre box (map (sort_of s.declared) (outputs_of bs s)) × AreGood s (outputs_of bs s)

abbrev pub FinePart : PlainBodyPart → Type 0
FinePart (child b) = FineBody b
FinePart (children bs) = FineBodies bs
FinePart (slots bs) = FineSlots bs
FinePart (expression e) = Unit {0}
FinePart (word w) = Unit {0}
FinePart (name i) = Unit {0}
FinePart (handler sets) = Unit {0}
FinePart (props es) = Unit {0}

abbrev pub FineMembers : BodyMembers → Type 0
FineMembers no_members = Unit {0}
FineMembers (left_out ms) = FineMembers ms
FineMembers (member p ms) = FinePart p × FineMembers ms

pub known_in : (S : Surroundings) (s : Scene) → Suits S s → AreKnown S.components
known_in S s h = λ i c e. (h.components i c e).same.either

-- ---- a child in its position

pub sorts_as : (S : Surroundings) (s : Scene) (b : PlainBody) (at : Position) → Suits S s → IsBoxOrSliver at.sort → FitsIn S.components at b → IsTypedBody S b
    → widget_sort (sort_of_body S.components b) ≡ widget_sort at.sort
sorts_as S s b at suits known fits h = agree at.sort (sort_of_body S.components b) known (body-known b S (known_in S s suits) h) fits.sort

pub one_child : (S : Surroundings) (s : Scene) (b : PlainBody) (want : ChildSort) → Suits S s → IsBoxOrSliver want → FitsIn S.components (position One want) b
    → IsTypedBody S b → IsFine S s b → JustOne (widget_sort want) (map (sort_of s.declared) (output_of b s))
one_child S s b want suits known fits h fine =
    let ws = map (sort_of s.declared) (output_of b s) in
    just_one (widget_sort want) ws (length_map (sort_of s.declared) (output_of b s) ∙ fine.one fits.amount)
    (subst (λ t. AllAre t ws) (sorts_as S s b (position One want) suits known fits h) fine.sorts)

pub few_children : (S : Surroundings) (s : Scene) (b : PlainBody) (want : ChildSort) → Suits S s → IsBoxOrSliver want → FitsIn S.components (position AtMostOne want) b
    → IsTypedBody S b → IsFine S s b → typed.AtMostOne (widget_sort want) (map (sort_of s.declared) (output_of b s))
few_children S s b want suits known fits h fine =
    let ws = map (sort_of s.declared) (output_of b s) in
    let few = fine.few (not_true (is_each_body b) fits.amount) in
    at_most_one (widget_sort want) ws (omega (arith, few, length_map (sort_of s.declared) (output_of b s)))
    (subst (λ t. AllAre t ws) (sorts_as S s b (position AtMostOne want) suits known fits h) fine.sorts)

-- ---- what the table wants below a widget

abbrev pub FormFits : Bool → MemberForm → List Sort → Type 0 → Type 0
FormFits true (member_is.Child want) sorts rest = JustOne (widget_sort want) sorts
FormFits false (member_is.Child want) sorts rest = typed.AtMostOne (widget_sort want) sorts
FormFits required (member_is.Children want) sorts rest = AllAre (widget_sort want) sorts
FormFits required (member_is.Expression meaning) sorts rest = rest
FormFits required (member_is.Word list) sorts rest = rest
FormFits required member_is.Name sorts rest = rest
FormFits required member_is.Handler sorts rest = rest
FormFits required member_is.Props sorts rest = rest
FormFits required member_is.Slots sorts rest = rest

abbrev pub BelowFits : List KindMember → List Sort → Type 0
BelowFits [] sorts = sorts ≡ []
BelowFits (m ∷ ms) sorts = FormFits m.required m.form sorts (BelowFits ms sorts)

-- children stand last, and are boxes or slivers
abbrev is_known : ChildSort → Bool
is_known stands.Box = true
is_known stands.Sliver = true
is_known stands.Any = false

abbrev is_last : List KindMember → Bool
is_last [] = true
is_last (m ∷ ms) = false

abbrev form_tidy : MemberForm → List KindMember → Bool
form_tidy (member_is.Child want) ms = is_known want && is_last ms
form_tidy (member_is.Children want) ms = is_known want && is_last ms
form_tidy (member_is.Expression meaning) ms = true
form_tidy (member_is.Word list) ms = true
form_tidy member_is.Name ms = true
form_tidy member_is.Handler ms = true
form_tidy member_is.Props ms = true
form_tidy member_is.Slots ms = true

abbrev pub is_tidy : List KindMember → Bool
is_tidy [] = true
is_tidy (m ∷ ms) = form_tidy m.form ms && is_tidy ms

known_sort : (want : ChildSort) → is_known want ≡ true → IsBoxOrSliver want
known_sort stands.Box h = tt
known_sort stands.Sliver h = tt
known_sort stands.Any h = cc h

nothing_left : (ms : List KindMember) (sorts : List Sort) → is_last ms ≡ true → BelowFits ms sorts → sorts ≡ []
nothing_left [] sorts last h = h
nothing_left (m ∷ ms) sorts last h = cc last

-- a member that is left out
left_fits : (required : Bool) (f : MemberForm) (ms : List KindMember) (sorts : List Sort) → form_tidy f ms ≡ true → required ≡ false → BelowFits ms sorts
    → FormFits required f sorts (BelowFits ms sorts)
left_fits true (member_is.Child want) ms sorts tidy out h = cc out
left_fits false (member_is.Child want) ms sorts tidy out h =
    let e = nothing_left ms sorts (both_true (is_known want) (is_last ms) tidy).1 h in subst (typed.AtMostOne (widget_sort want)) (sym e) tt
left_fits required (member_is.Children want) ms sorts tidy out h =
    let e = nothing_left ms sorts (both_true (is_known want) (is_last ms) tidy).1 h in subst (AllAre (widget_sort want)) (sym e) tt
left_fits required (member_is.Expression meaning) ms sorts tidy out h = h
left_fits required (member_is.Word list) ms sorts tidy out h = h
left_fits required member_is.Name ms sorts tidy out h = h
left_fits required member_is.Handler ms sorts tidy out h = h
left_fits required member_is.Props ms sorts tidy out h = h
left_fits required member_is.Slots ms sorts tidy out h = h

-- ---- what the members of a template give below it

abbrev Below : BodyMembers → Scene → List PlainWidget
Below ms s = given_below (outputs_in ms) s

abbrev pub Fits : List KindMember → BodyMembers → Scene → Type 0
Fits mems ms s = BelowFits mems (map (sort_of s.declared) (Below ms s)) × AreGood s (Below ms s)

-- a member that holds no templates gives nothing
skipped : (p : PlainBodyPart) (ms : BodyMembers) (s : Scene) → holds p ≡ false → Below (member p ms) s ≡ Below ms s
unfolding output_of
skipped (expression e) ms s h = refl
skipped (word w) ms s h = refl
skipped (name i) ms s h = refl
skipped (handler sets) ms s h = refl
skipped (child b) ms s h = cc h
skipped (children bs) ms s h = cc h
skipped (props es) ms s h = refl
skipped (slots bs) ms s h = cc h

below-child : (b : PlainBody) (ms : BodyMembers) (s : Scene) → Below (member (child b) ms) s ≡ output_of b s
unfolding output_of
below-child b ms s = refl

below-children : (bs : PlainBodies) (ms : BodyMembers) (s : Scene) → Below (member (children bs) ms) s ≡ outputs_of bs s
unfolding output_of
below-children bs ms s = refl

below-out : (ms : BodyMembers) (s : Scene) → Below (left_out ms) s ≡ Below ms s
unfolding output_of
below-out ms s = refl

below-none : (s : Scene) → Below no_members s ≡ []
unfolding output_of
below-none s = refl

-- what is wanted is no template
abbrev is_quiet : WantedPart → Bool
is_quiet (an_expression w) = true
is_quiet (a_word list) = true
is_quiet (the_place i) = true
is_quiet a_handler = true
is_quiet (a_child at there) = false
is_quiet (some_children at) = false
is_quiet (the_props ts) = true
is_quiet (the_slots n) = false
is_quiet no_part = true

quiet_child : (S : Surroundings) (w : WantedPart) (b : PlainBody) → is_quiet w ≡ true → IsTypedPart S w (child b) → holds (child b) ≡ false
quiet_child S (a_child at there) b quiet h = cc quiet
quiet_child S (some_children at) b quiet h = cc quiet
quiet_child S (the_slots n) b quiet h = cc quiet
quiet_child S (an_expression w) b quiet h = absurd h
quiet_child S (a_word list) b quiet h = absurd h
quiet_child S (the_place i) b quiet h = absurd h
quiet_child S a_handler b quiet h = absurd h
quiet_child S (the_props ts) b quiet h = absurd h
quiet_child S no_part b quiet h = absurd h

quiet_children : (S : Surroundings) (w : WantedPart) (bs : PlainBodies) → is_quiet w ≡ true → IsTypedPart S w (children bs) → holds (children bs) ≡ false
quiet_children S (a_child at there) bs quiet h = cc quiet
quiet_children S (some_children at) bs quiet h = cc quiet
quiet_children S (the_slots n) bs quiet h = cc quiet
quiet_children S (an_expression w) bs quiet h = absurd h
quiet_children S (a_word list) bs quiet h = absurd h
quiet_children S (the_place i) bs quiet h = absurd h
quiet_children S a_handler bs quiet h = absurd h
quiet_children S (the_props ts) bs quiet h = absurd h
quiet_children S no_part bs quiet h = absurd h

quiet_slots : (S : Surroundings) (w : WantedPart) (bs : PlainBodies) → is_quiet w ≡ true → IsTypedPart S w (slots bs) → holds (slots bs) ≡ false
quiet_slots S (a_child at there) bs quiet h = cc quiet
quiet_slots S (some_children at) bs quiet h = cc quiet
quiet_slots S (the_slots n) bs quiet h = cc quiet
quiet_slots S (an_expression w) bs quiet h = absurd h
quiet_slots S (a_word list) bs quiet h = absurd h
quiet_slots S (the_place i) bs quiet h = absurd h
quiet_slots S a_handler bs quiet h = absurd h
quiet_slots S (the_props ts) bs quiet h = absurd h
quiet_slots S no_part bs quiet h = absurd h

quiet_part : (S : Surroundings) (w : WantedPart) (p : PlainBodyPart) → is_quiet w ≡ true → IsTypedPart S w p → holds p ≡ false
quiet_part S w (expression e) quiet h = refl
quiet_part S w (word v) quiet h = refl
quiet_part S w (name i) quiet h = refl
quiet_part S w (handler sets) quiet h = refl
quiet_part S w (child b) quiet h = quiet_child S w b quiet h
quiet_part S w (children bs) quiet h = quiet_children S w bs quiet h
quiet_part S w (props es) quiet h = refl
quiet_part S w (slots bs) quiet h = quiet_slots S w bs quiet h

-- a child of the table, and children
table_child : (S : Surroundings) (s : Scene) (required : Bool) (want : ChildSort) (p : PlainBodyPart) (ms : BodyMembers) (rest : Type 0) → Suits S s → Boxes s
    → is_known want ≡ true → IsTypedPart S (part_of S required (member_is.Child want)) p → FinePart p
    → FormFits required (member_is.Child want) (map (sort_of s.declared) (Below (member p ms) s)) rest × AreGood s (Below (member p ms) s)
table_child S s true want (child b) ms rest suits boxes known h fine =
    let f = fine S s suits boxes h.1 in
    let fits = one_child S s b want suits (known_sort want known) h.0 h.1 f in
    (subst (λ ws. JustOne (widget_sort want) (map (sort_of s.declared) ws)) (sym (below-child b ms s)) fits, subst (AreGood s) (sym (below-child b ms s)) f.good)
table_child S s false want (child b) ms rest suits boxes known h fine =
    let f = fine S s suits boxes h.1 in
    let fits = few_children S s b want suits (known_sort want known) h.0 h.1 f in
    (subst (λ ws. typed.AtMostOne (widget_sort want) (map (sort_of s.declared) ws)) (sym (below-child b ms s)) fits, subst (AreGood s) (sym (below-child b ms s)) f.good)
table_child S s required want (expression e) ms rest suits boxes known h fine = absurd h
table_child S s required want (word v) ms rest suits boxes known h fine = absurd h
table_child S s required want (name i) ms rest suits boxes known h fine = absurd h
table_child S s required want (handler sets) ms rest suits boxes known h fine = absurd h
table_child S s required want (children bs) ms rest suits boxes known h fine = absurd h
table_child S s required want (props es) ms rest suits boxes known h fine = absurd h
table_child S s required want (slots bs) ms rest suits boxes known h fine = absurd h

table_children : (S : Surroundings) (s : Scene) (required : Bool) (want : ChildSort) (p : PlainBodyPart) (ms : BodyMembers) → Suits S s → Boxes s
    → is_known want ≡ true → IsTypedPart S (part_of S required (member_is.Children want)) p → FinePart p
    → AllAre (widget_sort want) (map (sort_of s.declared) (Below (member p ms) s)) × AreGood s (Below (member p ms) s)
table_children S s required want (children bs) ms suits boxes known h fine =
    let f = fine S s (position Any want) suits boxes (known_sort want known) h in
    (subst (λ ws. AllAre (widget_sort want) (map (sort_of s.declared) ws)) (sym (below-children bs ms s)) f.0, subst (AreGood s) (sym (below-children bs ms s)) f.1)
table_children S s required want (expression e) ms suits boxes known h fine = absurd h
table_children S s required want (word v) ms suits boxes known h fine = absurd h
table_children S s required want (name i) ms suits boxes known h fine = absurd h
table_children S s required want (handler sets) ms suits boxes known h fine = absurd h
table_children S s required want (child b) ms suits boxes known h fine = absurd h
table_children S s required want (props es) ms suits boxes known h fine = absurd h
table_children S s required want (slots bs) ms suits boxes known h fine = absurd h

-- a member that isn't a template, before others
quiet_fits : (S : Surroundings) (s : Scene) (w : WantedPart) (mems : List KindMember) (p : PlainBodyPart) (ms : BodyMembers) → is_quiet w ≡ true → IsTypedPart S w p
    → Fits mems ms s → Fits mems (member p ms) s
quiet_fits S s w mems p ms quiet h rest =
    let e = skipped p ms s (quiet_part S w p quiet h) in
    (subst (λ ws. BelowFits mems (map (sort_of s.declared) ws)) (sym e) rest.0, subst (AreGood s) (sym e) rest.1)

given_fits : (S : Surroundings) (s : Scene) (required : Bool) (f : MemberForm) (mems : List KindMember) (p : PlainBodyPart) (ms : BodyMembers) → Suits S s → Boxes s
    → form_tidy f mems ≡ true → IsTypedPart S (part_of S required f) p → FinePart p → Fits mems ms s
    → FormFits required f (map (sort_of s.declared) (Below (member p ms) s)) (BelowFits mems (map (sort_of s.declared) (Below (member p ms) s))) × AreGood s (Below (member p ms) s)
given_fits S s required (member_is.Child want) mems p ms suits boxes tidy h fine rest =
    table_child S s required want p ms _ suits boxes (both_true (is_known want) (is_last mems) tidy).0 h fine
given_fits S s required (member_is.Children want) mems p ms suits boxes tidy h fine rest =
    table_children S s required want p ms suits boxes (both_true (is_known want) (is_last mems) tidy).0 h fine
given_fits S s required (member_is.Expression meaning) mems p ms suits boxes tidy h fine rest =
    quiet_fits S s (part_of S required (member_is.Expression meaning)) mems p ms refl h rest
given_fits S s required (member_is.Word list) mems p ms suits boxes tidy h fine rest = quiet_fits S s (a_word list) mems p ms refl h rest
given_fits S s required member_is.Name mems p ms suits boxes tidy h fine rest = quiet_fits S s no_part mems p ms refl h rest
given_fits S s required member_is.Handler mems p ms suits boxes tidy h fine rest = quiet_fits S s a_handler mems p ms refl h rest
given_fits S s required member_is.Props mems p ms suits boxes tidy h fine rest = quiet_fits S s no_part mems p ms refl h rest
given_fits S s required member_is.Slots mems p ms suits boxes tidy h fine rest = quiet_fits S s no_part mems p ms refl h rest

pub below_fits : (mems : List KindMember) (ms : BodyMembers) (S : Surroundings) (s : Scene) → is_tidy mems ≡ true → Suits S s → Boxes s
    → AreTypedMembers S (wanted_of S mems) ms → FineMembers ms → Fits mems ms s
below_fits [] no_members S s tidy suits boxes h fine =
    (ap (map (sort_of s.declared)) (below-none s), subst (AreGood s) (sym (below-none s)) (λ g. tt))
below_fits [] (left_out ms) S s tidy suits boxes h fine = absurd h
below_fits [] (member p ms) S s tidy suits boxes h fine = absurd h
below_fits (m ∷ mems) no_members S s tidy suits boxes h fine = absurd h
below_fits (m ∷ mems) (left_out ms) S s tidy suits boxes h fine =
    let t = both_true (form_tidy m.form mems) (is_tidy mems) tidy in
    let rest = below_fits mems ms S s t.1 suits boxes h.1 fine in
    let e = below-out ms s in (
      subst (λ ws. FormFits m.required m.form (map (sort_of s.declared) ws) (BelowFits mems (map (sort_of s.declared) ws))) (sym e)
          (left_fits m.required m.form mems (map (sort_of s.declared) (Below ms s)) t.0 h.0 rest.0),
      subst (AreGood s) (sym e) rest.1,
    )
below_fits (m ∷ mems) (member p ms) S s tidy suits boxes h fine =
    let t = both_true (form_tidy m.form mems) (is_tidy mems) tidy in
    given_fits S s m.required m.form mems p ms suits boxes t.0 h.0 fine.0 (below_fits mems ms S s t.1 suits boxes h.1 fine.1)

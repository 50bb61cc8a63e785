-- The templates that a typed template holds are typed where they stand, in scenes that suit that place.
use Rattle.std.proofs.Common.{◌≡◌, ℕ, zero, suc, ℤ, pos, Bool, true, false, List, [], ◌∷◌, map, length, Option, Some, None, option_map, unwrap_or, slice_get, ap, sym, subst, refl, ◌∙◌}
use Rattle.std.proofs.lemmas.List.{map-append}
use Rattle.fx_expr.specs.declared.values.Value.{Value}
use Rattle.fx_expr.specs.declared.values.Value.TheVariants as value
use Rattle.fx_expr.specs.declared.values.Ty.{Ty}
use Rattle.fx_expr.specs.declared.values.Ty.TheVariants as ty
use Rattle.fx_expr.specs.Scope.{Env, Types, types_in}
use Rattle.fx_expr.specs.Typed.{IsTyped, item_type}
use Rattle.fx_expr.specs.Value.{type_of}
use Rattle.fx_expr.specs.ValueOf.{value_of}
use Rattle.fx_expr.specs.TypeLaws.{value_of-typed}
use Rattle.program_form.specs.declared.kinds.KindName.{KindName}
use Rattle.program_form.specs.declared.kinds.KindName.TheVariants as kind
use Rattle.program_form.specs.declared.kinds.KindMember.{KindMember}
use Rattle.program_form.specs.declared.kinds.MemberForm.{MemberForm}
use Rattle.program_form.specs.declared.kinds.MemberForm.TheVariants as member_is
use Rattle.program_form.specs.Kinds.{members_of}
use Rattle.expr_check.specs.declared.wants.Want.TheVariants as want
use Rattle.program_check.specs.declared.checked.Body.{Body}
use Rattle.program_check.specs.declared.places.Amount.TheVariants.{One}
use Rattle.program_check.specs.declared.places.Position.{Position}
use Rattle.program_form.specs.declared.kinds.ChildSort.TheVariants as stands
use Rattle.program_check.specs.Judged.{position}
use Rattle.program_check.specs.Body.{KeyExp, PlainBody, body, BodyMembers, no_members, left_out, member, PlainBodyPart, expression, word, name, handler, child, children, props, slots, PlainBodies, no_bodies, one_body, bodies_in, members_in_body, part_at}
use Rattle.program_check.specs.BodyView.{plain_body}
use Rattle.program_check.specs.TypedBody as typed_body
use Rattle.program_check.specs.TypedBody.{Surroundings, types_inside, WantedPart, an_expression, a_word, the_place, a_handler, a_child, some_children, the_props, the_slots, no_part, WantedMember, must, part_of, wanted_by, wanted_of, IsTypedBody, AreTypedMembers, AreTypedBodies, AreTypedSlots, IsTypedPart, AreWanted}
use Rattle.template_build.specs.declared.roles.TemplateRole.{TemplateRole}
use Rattle.template_build.specs.declared.roles.TemplateRole.TheVariants as gives
use Rattle.template_build.specs.Scene.{Scene, env_inside, inside}
use Rattle.template_build.specs.TemplateRole.{template_role_of}
use Rattle.template_build.specs.Members.{expression_in, value_or_zero}
use Rattle.template_build.specs.Output.{items_in}
use Rattle.template_build.specs.Suits.{Suits, IsBuiltIn}
use Rattle.template_build.specs.Building.{holder_in, makes_widget, AreTypedTemplates, AreTypedWithin, IsPartBuiltIn, AreAllBuiltIn}
use Rattle.template_build.proofs.TypedMembers.{member_typed, kind_in, key_of_body}
use Rattle.template_build.proofs.Bodies.{kind-out}

some_is : {A : Type 0} (x y : A) → Some x ≡ Some y → x ≡ y
some_is x y e = cc

-- ---- what is wanted of a child stands in the same surroundings, but for the body of a loop

abbrev StandsHere : Surroundings → WantedPart → Type 0
StandsHere S (a_child p there) = there ≡ S
StandsHere S (an_expression w) = Unit {0}
StandsHere S (a_word list) = Unit {0}
StandsHere S (the_place i) = Unit {0}
StandsHere S a_handler = Unit {0}
StandsHere S (some_children p) = Unit {0}
StandsHere S (the_props ts) = Unit {0}
StandsHere S (the_slots n) = Unit {0}
StandsHere S no_part = Unit {0}

abbrev AllStandHere : Surroundings → List WantedMember → Type 0
AllStandHere S [] = Unit {0}
AllStandHere S (w ∷ ws) = StandsHere S w.part × AllStandHere S ws

part_here : (S : Surroundings) (required : Bool) (f : MemberForm) → StandsHere S (part_of S required f)
part_here S required (member_is.Expression meaning) = tt
part_here S required (member_is.Word list) = tt
part_here S required member_is.Name = tt
part_here S required member_is.Handler = tt
part_here S required (member_is.Child sort) = refl
part_here S required (member_is.Children sort) = tt
part_here S required member_is.Props = tt
part_here S required member_is.Slots = tt

table_here : (S : Surroundings) (ms : List KindMember) → AllStandHere S (wanted_of S ms)
table_here S [] = tt
table_here S (m ∷ ms) = (part_here S m.required m.form, table_here S ms)

abbrev pub repeats : TemplateRole → Bool
repeats gives.Loop = true
repeats gives.Widget = false
repeats gives.Component = false
repeats gives.Content = false
repeats gives.Choice = false

kind_here : (S : Surroundings) (k : KindName) (ms : BodyMembers) (ws : List WantedMember) → repeats (template_role_of k) ≡ false → AreWanted S k ms ws → AllStandHere S ws
kind_here S kind.Inherit ms ws h wanted = subst (AllStandHere S) (sym wanted.3) (tt, (tt, (refl, tt)))
kind_here S kind.Use ms ws h wanted = subst (AllStandHere S) (sym wanted.3) (tt, (tt, (tt, tt)))
kind_here S kind.Slot ms ws h wanted = subst (AllStandHere S) (sym wanted.2) (tt, tt)
kind_here S kind.If ms ws h wanted = subst (AllStandHere S) (sym wanted) (tt, (refl, (refl, tt)))
kind_here S kind.Each ms ws h wanted = cc h
kind_here S k ms ws h wanted = subst (AllStandHere S) (sym wanted) (table_here S (members_of k))

-- ---- the templates of one member

bodies_typed : (S : Surroundings) (p : Position) (bs : PlainBodies) → AreTypedBodies S p bs → AreTypedTemplates S bs
bodies_typed S p no_bodies h = tt
bodies_typed S p (one_body b bs) h = (h.1, bodies_typed S p bs h.2)

slots_typed : (S : Surroundings) (n : ℕ) (bs : PlainBodies) → AreTypedSlots S n bs → AreTypedTemplates S bs
slots_typed S n no_bodies h = tt
slots_typed S zero (one_body b bs) h = absurd h
slots_typed S (suc n) (one_body b bs) h = (h.1, slots_typed S n bs h.2)

child_within : (S there : Surroundings) (w : WantedPart) (b : PlainBody) → StandsHere there w → IsTypedPart S w (child b) → IsTypedBody there b
child_within S there (a_child p stands) b here h = subst (λ S. IsTypedBody S b) here h.1
child_within S there (an_expression w) b here h = absurd h
child_within S there (a_word list) b here h = absurd h
child_within S there (the_place i) b here h = absurd h
child_within S there a_handler b here h = absurd h
child_within S there (some_children p) b here h = absurd h
child_within S there (the_props ts) b here h = absurd h
child_within S there (the_slots n) b here h = absurd h
child_within S there no_part b here h = absurd h

children_within : (S : Surroundings) (w : WantedPart) (bs : PlainBodies) → IsTypedPart S w (children bs) → AreTypedTemplates S bs
children_within S (some_children p) bs h = bodies_typed S p bs h
children_within S (a_child p stands) bs h = absurd h
children_within S (an_expression w) bs h = absurd h
children_within S (a_word list) bs h = absurd h
children_within S (the_place i) bs h = absurd h
children_within S a_handler bs h = absurd h
children_within S (the_props ts) bs h = absurd h
children_within S (the_slots n) bs h = absurd h
children_within S no_part bs h = absurd h

slots_within : (S : Surroundings) (w : WantedPart) (bs : PlainBodies) → IsTypedPart S w (slots bs) → AreTypedTemplates S bs
slots_within S (the_slots n) bs h = slots_typed S n bs h
slots_within S (some_children p) bs h = absurd h
slots_within S (a_child p stands) bs h = absurd h
slots_within S (an_expression w) bs h = absurd h
slots_within S (a_word list) bs h = absurd h
slots_within S (the_place i) bs h = absurd h
slots_within S a_handler bs h = absurd h
slots_within S (the_props ts) bs h = absurd h
slots_within S no_part bs h = absurd h

within : (S : Surroundings) (w : WantedPart) (p : PlainBodyPart) → StandsHere S w → IsTypedPart S w p → AreTypedWithin S (Some p)
within S w (expression e) here h = tt
within S w (word v) here h = tt
within S w (name i) here h = tt
within S w (handler sets) here h = tt
within S w (child b) here h = child_within S S w b here h
within S w (children bs) here h = children_within S w bs h
within S w (props es) here h = tt
within S w (slots bs) here h = slots_within S w bs h

at_place : (S : Surroundings) (ws : List WantedMember) (ms : BodyMembers) (i : ℕ) → AllStandHere S ws → AreTypedMembers S ws ms → AreTypedWithin S (part_at ms i)
at_place S [] no_members i here h = tt
at_place S [] (left_out ms) i here h = absurd h
at_place S [] (member p ms) i here h = absurd h
at_place S (w ∷ ws) no_members i here h = absurd h
at_place S (w ∷ ws) (left_out ms) zero here h = tt
at_place S (w ∷ ws) (left_out ms) (suc i) here h = at_place S ws ms i here.1 h.1
at_place S (w ∷ ws) (member p ms) zero here h = within S w.part p here.0 h.0
at_place S (w ∷ ws) (member p ms) (suc i) here h = at_place S ws ms i here.1 h.1

held : (S : Surroundings) (ws : List WantedMember) (ms : BodyMembers) → AllStandHere S ws → AreTypedMembers S ws ms → AreTypedWithin S (holder_in ms)
held S [] no_members here h = tt
held S [] (left_out ms) here h = absurd h
held S [] (member p ms) here h = absurd h
held S (w ∷ ws) no_members here h = absurd h
held S (w ∷ ws) (left_out ms) here h = held S ws ms here.1 h.1
held S (w ∷ ws) (member (expression e) ms) here h = held S ws ms here.1 h.1
held S (w ∷ ws) (member (word v) ms) here h = held S ws ms here.1 h.1
held S (w ∷ ws) (member (name i) ms) here h = held S ws ms here.1 h.1
held S (w ∷ ws) (member (handler sets) ms) here h = held S ws ms here.1 h.1
held S (w ∷ ws) (member (child b) ms) here h = within S w.part (child b) here.0 h.0
held S (w ∷ ws) (member (children bs) ms) here h = within S w.part (children bs) here.0 h.0
held S (w ∷ ws) (member (props es) ms) here h = held S ws ms here.1 h.1
held S (w ∷ ws) (member (slots bs) ms) here h = within S w.part (slots bs) here.0 h.0

-- ---- in a template that is built

pub part_built : (s : Scene) (k : KindName) (key : Option KeyExp) (ms : BodyMembers) (i : ℕ) → repeats (template_role_of k) ≡ false
    → IsBuiltIn s (body k key ms) → IsPartBuiltIn s (part_at ms i)
part_built s k key ms i once h = record {
  there = h.there;
  suits = h.suits;
  typed = at_place h.there h.typed.1.0 ms i (kind_here h.there k ms h.typed.1.0 once h.typed.1.1) h.typed.1.2;
}

pub holder_built : (s : Scene) (k : KindName) (key : Option KeyExp) (ms : BodyMembers) → repeats (template_role_of k) ≡ false
    → IsBuiltIn s (body k key ms) → IsPartBuiltIn s (holder_in ms)
holder_built s k key ms once h = record {
  there = h.there;
  suits = h.suits;
  typed = held h.there h.typed.1.0 ms (kind_here h.there k ms h.typed.1.0 once h.typed.1.1) h.typed.1.2;
}

-- ---- a loop's body stands among one more variable

is_loop : (k : KindName) → template_role_of k ≡ gives.Loop → k ≡ kind.Each
is_loop kind.Each h = refl
is_loop k h = cc h

an_int : (ns : List ℤ) (i : ℕ) (x : Value) → slice_get (map value.Int ns) i ≡ Some x → type_of x ≡ ty.Int
an_int [] i x h = cc h
an_int (n ∷ ns) zero x h = ap type_of (sym (some_is (value.Int n) x h))
an_int (n ∷ ns) (suc i) x h = an_int ns i x h

a_text : (ts : List (List ℕ)) (i : ℕ) (x : Value) → slice_get (map value.Text ts) i ≡ Some x → type_of x ≡ ty.Text
a_text [] i x h = cc h
a_text (t ∷ ts) zero x h = ap type_of (sym (some_is (value.Text t) x h))
a_text (t ∷ ts) (suc i) x h = a_text ts i x h

-- an item of a list has the type of the list's items
pub item_typed : (v : Value) (item : Ty) (i : ℕ) (x : Value) → item_type (type_of v) ≡ Some item → slice_get (items_in v) i ≡ Some x → type_of x ≡ item
item_typed (value.Ints ns) item i x of there = an_int ns i x there ∙ some_is ty.Int item of
item_typed (value.Texts ts) item i x of there = a_text ts i x there ∙ some_is ty.Text item of
item_typed (value.Int n) item i x of there = cc there
item_typed (value.Bool b) item i x of there = cc there
item_typed (value.Text t) item i x of there = cc there

-- a scene inside a loop suits the place inside it
abbrev types_with : Env → List Ty → Types
types_with e ts = record { fields = map type_of e.fields; props = map type_of e.props; vars = ts; inherited = map type_of e.inherited }

names_inside : (e : Env) (v : Value) (item : Ty) (T : Types) → types_in e ≡ T → type_of v ≡ item → types_in (env_inside v e) ≡ types_inside item T
names_inside e v item T same typed =
    let step : types_in (env_inside v e) ≡ types_inside (type_of v) (types_in e) =
    ap (types_with e) (map-append type_of e.vars (v ∷ [])) in
    step ∙ ap (types_inside (type_of v)) same ∙ ap (λ t. types_inside t T) typed

pub suits_inside : (S : Surroundings) (s : Scene) (item : Ty) (v : Value) → Suits S s → type_of v ≡ item → Suits (typed_body.inside item S) (inside v s)
suits_inside S s item v h typed = record {
  names = names_inside s.env v item S.sight.types h.names typed;
  filled = h.filled;
  provided = h.provided;
  components = h.components;
}

-- a member that is given where this is wanted
member_at : (S : Surroundings) (ws : List WantedMember) (ms : BodyMembers) (i : ℕ) (w : WantedMember) (p : PlainBodyPart)
    → AreTypedMembers S ws ms → slice_get ws i ≡ Some w → part_at ms i ≡ Some p → IsTypedPart S w.part p
member_at S ws ms i w p typed wanted there =
    let f = member_typed S ws ms i p typed there in
    subst (λ (w : WantedMember). IsTypedPart S w.part p) (some_is f.0 w (sym f.1 ∙ wanted)) f.2

loop_item : (S : Surroundings) (s : Scene) (t item : Ty) (p : Option PlainBodyPart) (i : ℕ) (x : Value) → types_in s.env ≡ S.sight.types
    → item_type t ≡ Some item → ((q : PlainBodyPart) → p ≡ Some q → IsTypedPart S (an_expression (want.Exactly t)) q)
    → slice_get (items_in (unwrap_or (option_map (λ e. value_of e s.env) (expression_in p)) (value.Int (pos 0)))) i ≡ Some x
    → type_of x ≡ item
loop_item S s t item (Some (expression e)) i x same of typed there =
    item_typed (value_of e s.env) item i x
    (ap item_type (value_of-typed e s.env t (subst (λ T. IsTyped T e t) (sym same) (typed (expression e) refl).0)) ∙ of) there
loop_item S s t item None i x same of typed there = cc there
loop_item S s t item (Some (word w)) i x same of typed there = cc there
loop_item S s t item (Some (name n)) i x same of typed there = cc there
loop_item S s t item (Some (handler sets)) i x same of typed there = cc there
loop_item S s t item (Some (child b)) i x same of typed there = cc there
loop_item S s t item (Some (children bs)) i x same of typed there = cc there
loop_item S s t item (Some (props es)) i x same of typed there = cc there
loop_item S s t item (Some (slots bs)) i x same of typed there = cc there

loop_body : (S there : Surroundings) (at : Position) (p : Option PlainBodyPart)
    → ((q : PlainBodyPart) → p ≡ Some q → IsTypedPart S (a_child at there) q) → AreTypedWithin there p
loop_body S there at None typed = tt
loop_body S there at (Some (expression e)) typed = tt
loop_body S there at (Some (word w)) typed = tt
loop_body S there at (Some (name i)) typed = tt
loop_body S there at (Some (handler sets)) typed = tt
loop_body S there at (Some (child b)) typed = (typed (child b) refl).1
loop_body S there at (Some (children bs)) typed = absurd (typed (children bs) refl)
loop_body S there at (Some (props es)) typed = tt
loop_body S there at (Some (slots bs)) typed = absurd (typed (slots bs) refl)

abbrev loop_wants : Surroundings → Ty → Ty → List WantedMember
loop_wants S t item =
    must (the_place (length S.sight.types.vars)) ∷ must (an_expression (want.Exactly t))
    ∷ must (a_child (position One stands.Any) (typed_body.inside item S)) ∷ []

pub loop_built : (s : Scene) (k : KindName) (key : Option KeyExp) (ms : BodyMembers) (i : ℕ) (x : Value) → template_role_of k ≡ gives.Loop
    → IsBuiltIn s (body k key ms) → slice_get (items_in (value_or_zero ms 1 s)) i ≡ Some x → IsPartBuiltIn (inside x s) (part_at ms 2)
loop_built s k key ms i x loop h there =
    let S = h.there in
    let wanted = subst (λ k. AreWanted S k ms h.typed.1.0) (is_loop k loop) h.typed.1.1 in
    let t = wanted.0 in
    let item = wanted.1 in
    let typed = subst (λ ws. AreTypedMembers S ws ms) wanted.3 h.typed.1.2 in
    let ws = loop_wants S t item in
    let of = loop_item S s t item (part_at ms 1) i x h.suits.names wanted.2
    (λ q e. member_at S ws ms 1 (must (an_expression (want.Exactly t))) q typed refl e) there in
    record {
      there = typed_body.inside item S;
      suits = suits_inside S s item x h.suits of;
      typed = loop_body S (typed_body.inside item S) (position One stands.Any) (part_at ms 2)
          (λ q e. member_at S ws ms 2 (must (a_child (position One stands.Any) (typed_body.inside item S))) q typed refl e);
    }

-- ---- the same of templates of the program

makes_once : (r : TemplateRole) → makes_widget r ≡ true → repeats r ≡ false
makes_once gives.Widget h = refl
makes_once gives.Component h = refl
makes_once gives.Choice h = refl
makes_once gives.Content h = refl
makes_once gives.Loop h = cc h

out : (s : Scene) (b : PlainBody) → IsBuiltIn s b → IsBuiltIn s (body (kind_in b) (key_of_body b) (members_in_body b))
out s (body k key ms) h = h

pub holder_built_in : (s : Scene) (b : Body) → makes_widget (template_role_of b.w) ≡ true → IsBuiltIn s (plain_body b)
    → IsPartBuiltIn s (holder_in (members_in_body (plain_body b)))
holder_built_in s b makes h =
    let p = plain_body b in
    holder_built s (kind_in p) (key_of_body p) (members_in_body p) (ap (λ k. repeats (template_role_of k)) (kind-out b) ∙ makes_once (template_role_of b.w) makes) (out s p h)

pub loop_built_in : (s : Scene) (b : Body) (i : ℕ) (x : Value) → template_role_of b.w ≡ gives.Loop → IsBuiltIn s (plain_body b)
    → slice_get (items_in (value_or_zero (members_in_body (plain_body b)) 1 s)) i ≡ Some x
    → IsPartBuiltIn (inside x s) (part_at (members_in_body (plain_body b)) 2)
loop_built_in s b i x loop h there =
    let p = plain_body b in
    loop_built s (kind_in p) (key_of_body p) (members_in_body p) i x (ap template_role_of (kind-out b) ∙ loop) (out s p h) there

-- ---- one of the templates of a part

one_typed : (S : Surroundings) (bs : List Body) (i : ℕ) (b : Body) → AreTypedTemplates S (bodies_in (map plain_body bs)) → slice_get bs i ≡ Some b
    → IsTypedBody S (plain_body b)
one_typed S [] i b h there = cc there
one_typed S (c ∷ bs) zero b h there = subst (λ b. IsTypedBody S (plain_body b)) (some_is c b there) h.0
one_typed S (c ∷ bs) (suc i) b h there = one_typed S bs i b h.1 there

pub one_built : (s : Scene) (bs : List Body) (i : ℕ) (b : Body) → AreAllBuiltIn s (bodies_in (map plain_body bs)) → slice_get bs i ≡ Some b
    → IsBuiltIn s (plain_body b)
one_built s bs i b h there = record { there = h.there; suits = h.suits; typed = one_typed h.there bs i b h.typed there }

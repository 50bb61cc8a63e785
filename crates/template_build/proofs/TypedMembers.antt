-- What is typed in a typed template: its expressions, the sets of its handlers, its props and its key.
use Rattle.std.proofs.Common.{◌≡◌, ℕ, zero, suc, Bool, true, false, List, [], ◌∷◌, Option, Some, None, slice_get, ap, sym, subst, refl, ◌∙◌}
use Rattle.fx_expr.specs.declared.values.Ty.{Ty}
use Rattle.fx_expr.specs.declared.values.Ty.TheVariants as ty
use Rattle.fx_expr.specs.Exp.{Exp}
use Rattle.fx_expr.specs.Scope.{Types, types_in}
use Rattle.fx_expr.specs.Typed.{IsTyped, HasType}
use Rattle.program_form.specs.declared.kinds.KindName.{KindName}
use Rattle.program_form.specs.declared.kinds.KindName.TheVariants as kind
use Rattle.program_form.specs.declared.kinds.KindMember.{KindMember}
use Rattle.program_form.specs.declared.kinds.MemberForm.{MemberForm}
use Rattle.program_form.specs.declared.kinds.MemberForm.TheVariants as member_is
use Rattle.program_form.specs.Kinds.{members_of}
use Rattle.expr_check.specs.declared.wants.Want.{Want}
use Rattle.expr_check.specs.declared.wants.Want.TheVariants as want
use Rattle.expr_check.specs.Sight.{Sight}
use Rattle.expr_check.specs.Handlers.{AreTypedSets}
use Rattle.program_check.specs.Body.{KeyExp, PlainBody, body, BodyMembers, no_members, left_out, member, PlainBodyPart, expression, word, name, handler, child, children, props, slots, members_in_body, part_at}
use Rattle.program_check.specs.Judged.{want_of}
use Rattle.program_check.specs.TypedBody.{Surroundings, WantedPart, an_expression, a_word, the_place, a_handler, a_child, some_children, the_props, the_slots, no_part, WantedMember, part_of, wanted_by, wanted_of, IsTypedAs, AreTypedInOrder, IsWantedExpression, AreWantedSets, AreWantedProps, IsTypedBody, AreTypedMembers, IsTypedPart, AreWanted}
use Rattle.template_build.specs.Scene.{Scene}
use Rattle.template_build.specs.Members.{expression_in, expression_at, sets_in, props_in}
use Rattle.template_build.specs.Suits.{IsBuiltIn}
use Rattle.template_build.specs.Wanted.{is_type, wants_type, form_wants, member_wants, is_wanted, HaveTypes}

some_is : {A : Type 0} (x y : A) → Some x ≡ Some y → x ≡ y
some_is x y e = cc

-- ---- a member that is given is what is wanted there

abbrev pub IsFor : Surroundings → List WantedMember → ℕ → PlainBodyPart → Type 0
IsFor S ws i p = (w : WantedMember) × (slice_get ws i ≡ Some w) × IsTypedPart S w.part p

pub member_typed : (S : Surroundings) (ws : List WantedMember) (ms : BodyMembers) (i : ℕ) (p : PlainBodyPart)
    → AreTypedMembers S ws ms → part_at ms i ≡ Some p → IsFor S ws i p
member_typed S [] no_members i p h e = cc e
member_typed S [] (left_out ms) i p h e = absurd h
member_typed S [] (member q ms) i p h e = absurd h
member_typed S (w ∷ ws) no_members i p h e = absurd h
member_typed S (w ∷ ws) (left_out ms) zero p h e = cc e
member_typed S (w ∷ ws) (left_out ms) (suc i) p h e = member_typed S ws ms i p h.1 e
member_typed S (w ∷ ws) (member q ms) zero p h e = (w, refl, subst (IsTypedPart S w.part) (some_is q p e) h.0)
member_typed S (w ∷ ws) (member q ms) (suc i) p h e = member_typed S ws ms i p h.1 e

pub part_typed : (S : Surroundings) (k : KindName) (key : Option KeyExp) (ms : BodyMembers) (i : ℕ) (p : PlainBodyPart)
    → IsTypedBody S (body k key ms) → part_at ms i ≡ Some p → (w : WantedPart) × IsTypedPart S w p
part_typed S k key ms i p h e = let m = member_typed S h.1.0 ms i p h.1.2 e in (m.0.part, m.2)

-- ---- expressions

wanted_expression : (S : Sight) (w : WantedPart) (e : Exp) → IsWantedExpression S w e → HasType S.types e
wanted_expression S (an_expression (want.Exactly t)) e h = (t, h.0)
wanted_expression S (an_expression want.Any) e h = (h.0, h.1.0)
wanted_expression S (an_expression want.List) e h = (h.0, h.2.0)
wanted_expression S (an_expression want.Joinable) e h = (h.0, h.2.0)
wanted_expression S (a_word list) e h = absurd h
wanted_expression S (the_place i) e h = absurd h
wanted_expression S a_handler e h = absurd h
wanted_expression S (a_child p there) e h = absurd h
wanted_expression S (some_children p) e h = absurd h
wanted_expression S (the_props ts) e h = absurd h
wanted_expression S (the_slots n) e h = absurd h
wanted_expression S no_part e h = absurd h

is_expression : (p : Option PlainBodyPart) (e : Exp) → expression_in p ≡ Some e → p ≡ Some (expression e)
is_expression None e h = cc h
is_expression (Some (expression f)) e h = ap (λ f. Some (expression f)) (some_is f e h)
is_expression (Some (word w)) e h = cc h
is_expression (Some (name i)) e h = cc h
is_expression (Some (handler sets)) e h = cc h
is_expression (Some (child b)) e h = cc h
is_expression (Some (children bs)) e h = cc h
is_expression (Some (props es)) e h = cc h
is_expression (Some (slots bs)) e h = cc h

is_type-same : (t u : Ty) → is_type t u ≡ true → t ≡ u
is_type-same ty.Int ty.Int h = refl
is_type-same ty.Bool ty.Bool h = refl
is_type-same ty.Text ty.Text h = refl
is_type-same ty.Ints ty.Ints h = refl
is_type-same ty.Texts ty.Texts h = refl
is_type-same t u h = cc h

wanted_exactly : (S : Sight) (w : Want) (t : Ty) (e : Exp) → wants_type t w ≡ true → IsTypedAs S w e → IsTyped S.types e t
wanted_exactly S (want.Exactly u) t e h typed = subst (IsTyped S.types e) (sym (is_type-same t u h)) typed.0
wanted_exactly S want.Any t e h typed = cc h
wanted_exactly S want.List t e h typed = cc h
wanted_exactly S want.Joinable t e h typed = cc h

wanted_form : (S : Surroundings) (required : Bool) (f : MemberForm) (t : Ty) (e : Exp)
    → form_wants t f ≡ true → IsWantedExpression S.sight (part_of S required f) e → IsTyped S.sight.types e t
wanted_form S required (member_is.Expression meaning) t e h typed = wanted_exactly S.sight (want_of meaning) t e h typed
wanted_form S required (member_is.Word list) t e h typed = cc h
wanted_form S required member_is.Name t e h typed = cc h
wanted_form S required member_is.Handler t e h typed = cc h
wanted_form S required (member_is.Child sort) t e h typed = cc h
wanted_form S required (member_is.Children sort) t e h typed = cc h
wanted_form S required member_is.Props t e h typed = cc h
wanted_form S required member_is.Slots t e h typed = cc h

-- the member of the table at a place
of_table : (S : Surroundings) (ms : List KindMember) (i : ℕ) (w : WantedMember) → slice_get (wanted_of S ms) i ≡ Some w
    → (m : KindMember) × (slice_get ms i ≡ Some m) × (w ≡ wanted_by S m)
of_table S [] i w h = cc h
of_table S (m ∷ ms) zero w h = (m, refl, sym (some_is (wanted_by S m) w h))
of_table S (m ∷ ms) (suc i) w h = of_table S ms i w h

by_table : (S : Surroundings) (k : KindName) (ws : List WantedMember) (ms : BodyMembers) (i : ℕ) (t : Ty) (e : Exp)
    → ws ≡ wanted_of S (members_of k) → AreTypedMembers S ws ms → part_at ms i ≡ Some (expression e) → is_wanted k i t ≡ true
    → IsTyped S.sight.types e t
by_table S k ws ms i t e same typed there wanted =
    let f = member_typed S ws ms i (expression e) typed there in
    let row = of_table S (members_of k) i f.0 (ap (λ ws. slice_get ws i) (sym same) ∙ f.1) in
    let m = row.0 in
    wanted_form S m.required m.form t e (ap (member_wants t) (sym row.1) ∙ wanted)
    (subst (λ (w : WantedMember). IsWantedExpression S.sight w.part e) row.2 f.2)

no_type_in_inherit : (i : ℕ) (t : Ty) → is_wanted kind.Inherit i t ≡ false
unfolding members_of
no_type_in_inherit zero t = refl
no_type_in_inherit (suc zero) t = refl
no_type_in_inherit (suc (suc zero)) t = refl
no_type_in_inherit (suc (suc (suc i))) t = refl

no_type_in_use : (i : ℕ) (t : Ty) → is_wanted kind.Use i t ≡ false
unfolding members_of
no_type_in_use zero t = refl
no_type_in_use (suc zero) t = refl
no_type_in_use (suc (suc zero)) t = refl
no_type_in_use (suc (suc (suc i))) t = refl

no_type_in_slot : (i : ℕ) (t : Ty) → is_wanted kind.Slot i t ≡ false
unfolding members_of
no_type_in_slot zero t = refl
no_type_in_slot (suc i) t = refl

no_type_in_each : (i : ℕ) (t : Ty) → is_wanted kind.Each i t ≡ false
unfolding members_of
no_type_in_each zero t = refl
no_type_in_each (suc zero) t = refl
no_type_in_each (suc (suc zero)) t = refl
no_type_in_each (suc (suc (suc i))) t = refl

flag_in_if : (i : ℕ) (t : Ty) → is_wanted kind.If i t ≡ true → (i ≡ zero) × (t ≡ ty.Bool)
unfolding members_of
flag_in_if zero t h = (refl, is_type-same t ty.Bool h)
flag_in_if (suc zero) t h = cc h
flag_in_if (suc (suc zero)) t h = cc h
flag_in_if (suc (suc (suc i))) t h = cc h

-- the condition of an `if` is a truth value
by_choice : (S : Surroundings) (w : WantedPart) (ws : List WantedMember) (ms : BodyMembers) (i : ℕ) (t : Ty) (e : Exp)
    → AreTypedMembers S (record { required = true; part = an_expression (want.Exactly ty.Bool) } ∷ ws) ms → part_at ms i ≡ Some (expression e)
    → i ≡ zero → t ≡ ty.Bool → IsTyped S.sight.types e t
by_choice S w ws ms i t e typed there at_zero flag =
    let f = member_typed S (record { required = true; part = an_expression (want.Exactly ty.Bool) } ∷ ws) ms zero (expression e) typed (ap (part_at ms) (sym at_zero) ∙ there) in
    let typed = subst (λ (w : WantedMember). IsWantedExpression S.sight w.part e) (sym (some_is (record { required = true; part = an_expression (want.Exactly ty.Bool) }) f.0 f.1)) f.2 in
    subst (IsTyped S.sight.types e) (sym flag) typed.0

by_kind : (S : Surroundings) (k : KindName) (ws : List WantedMember) (ms : BodyMembers) (i : ℕ) (t : Ty) (e : Exp)
    → AreWanted S k ms ws → AreTypedMembers S ws ms → part_at ms i ≡ Some (expression e) → is_wanted k i t ≡ true
    → IsTyped S.sight.types e t
by_kind S kind.Inherit ws ms i t e wanted typed there h = cc (h, no_type_in_inherit i t)
by_kind S kind.Use ws ms i t e wanted typed there h = cc (h, no_type_in_use i t)
by_kind S kind.Slot ws ms i t e wanted typed there h = cc (h, no_type_in_slot i t)
by_kind S kind.Each ws ms i t e wanted typed there h = cc (h, no_type_in_each i t)
by_kind S kind.If ws ms i t e wanted typed there h =
    let f = flag_in_if i t h in
    by_choice S no_part _ ms i t e (subst (λ ws. AreTypedMembers S ws ms) wanted typed) there f.0 f.1
by_kind S k ws ms i t e wanted typed there h = by_table S k ws ms i t e wanted typed there h

-- ---- what a template that is built has, over the values in its scene

abbrev pub kind_in : PlainBody → KindName
kind_in (body k key ms) = k

abbrev pub key_of_body : PlainBody → Option KeyExp
key_of_body (body k key ms) = key

pub has_type_at : (s : Scene) (b : PlainBody) (i : ℕ) (e : Exp) → IsBuiltIn s b → expression_at (members_in_body b) i ≡ Some e
    → HasType (types_in s.env) e
has_type_at s (body k key ms) i e h there =
    let p = part_typed h.there k key ms i (expression e) h.typed (is_expression (part_at ms i) e there) in
    subst (λ T. HasType T e) (sym h.suits.names) (wanted_expression h.there.sight p.0 e p.1)

pub is_typed_at : (s : Scene) (b : PlainBody) (i : ℕ) (t : Ty) (e : Exp) → IsBuiltIn s b → expression_at (members_in_body b) i ≡ Some e
    → is_wanted (kind_in b) i t ≡ true → IsTyped (types_in s.env) e t
is_typed_at s (body k key ms) i t e h there wanted =
    subst (λ T. IsTyped T e t) (sym h.suits.names)
    (by_kind h.there k h.typed.1.0 ms i t e h.typed.1.1 h.typed.1.2 (is_expression (part_at ms i) e there) wanted)

-- ---- sets, props and keys

wanted_sets : (T : Types) (w : WantedPart) (sets : List (ℕ × Exp)) → AreWantedSets T w sets → AreTypedSets T sets
wanted_sets T a_handler sets h = h
wanted_sets T (an_expression w) sets h = absurd h
wanted_sets T (a_word list) sets h = absurd h
wanted_sets T (the_place i) sets h = absurd h
wanted_sets T (a_child p there) sets h = absurd h
wanted_sets T (some_children p) sets h = absurd h
wanted_sets T (the_props ts) sets h = absurd h
wanted_sets T (the_slots n) sets h = absurd h
wanted_sets T no_part sets h = absurd h

is_handler : (p : Option PlainBodyPart) (sets : List (ℕ × Exp)) → sets_in p ≡ Some sets → p ≡ Some (handler sets)
is_handler None sets h = cc h
is_handler (Some (handler others)) sets h = ap (λ sets. Some (handler sets)) (some_is others sets h)
is_handler (Some (expression e)) sets h = cc h
is_handler (Some (word w)) sets h = cc h
is_handler (Some (name i)) sets h = cc h
is_handler (Some (child b)) sets h = cc h
is_handler (Some (children bs)) sets h = cc h
is_handler (Some (props es)) sets h = cc h
is_handler (Some (slots bs)) sets h = cc h

pub sets_typed_at : (s : Scene) (b : PlainBody) (i : ℕ) (sets : List (ℕ × Exp)) → IsBuiltIn s b
    → sets_in (part_at (members_in_body b) i) ≡ Some sets → AreTypedSets (types_in s.env) sets
sets_typed_at s (body k key ms) i sets h there =
    let p = part_typed h.there k key ms i (handler sets) h.typed (is_handler (part_at ms i) sets there) in
    subst (λ T. AreTypedSets T sets) (sym h.suits.names) (wanted_sets h.there.sight.types p.0 sets p.1)

in_order : (S : Sight) (ts : List Ty) (es : List Exp) → AreTypedInOrder S ts es → HaveTypes S.types es
in_order S [] [] h = tt
in_order S [] (e ∷ es) h = absurd h
in_order S (t ∷ ts) [] h = absurd h
in_order S (t ∷ ts) (e ∷ es) h = ((t, h.0.0), in_order S ts es h.1)

wanted_props : (S : Sight) (w : WantedPart) (es : List Exp) → AreWantedProps S w es → HaveTypes S.types es
wanted_props S (the_props ts) es h = in_order S ts es h
wanted_props S a_handler es h = absurd h
wanted_props S (an_expression w) es h = absurd h
wanted_props S (a_word list) es h = absurd h
wanted_props S (the_place i) es h = absurd h
wanted_props S (a_child p there) es h = absurd h
wanted_props S (some_children p) es h = absurd h
wanted_props S (the_slots n) es h = absurd h
wanted_props S no_part es h = absurd h

props_in_part : (S : Surroundings) (k : KindName) (key : Option KeyExp) (ms : BodyMembers) (i : ℕ) (p : Option PlainBodyPart)
    → IsTypedBody S (body k key ms) → part_at ms i ≡ p → HaveTypes S.sight.types (props_in p)
props_in_part S k key ms i (Some (props es)) typed there =
    let p = part_typed S k key ms i (props es) typed there in wanted_props S.sight p.0 es p.1
props_in_part S k key ms i None typed there = tt
props_in_part S k key ms i (Some (expression e)) typed there = tt
props_in_part S k key ms i (Some (word w)) typed there = tt
props_in_part S k key ms i (Some (name n)) typed there = tt
props_in_part S k key ms i (Some (handler sets)) typed there = tt
props_in_part S k key ms i (Some (child b)) typed there = tt
props_in_part S k key ms i (Some (children bs)) typed there = tt
props_in_part S k key ms i (Some (slots bs)) typed there = tt

pub props_typed_at : (s : Scene) (b : PlainBody) (i : ℕ) → IsBuiltIn s b → HaveTypes (types_in s.env) (props_in (part_at (members_in_body b) i))
props_typed_at s (body k key ms) i h =
    subst (λ T. HaveTypes T (props_in (part_at ms i))) (sym h.suits.names) (props_in_part h.there k key ms i (part_at ms i) h.typed refl)

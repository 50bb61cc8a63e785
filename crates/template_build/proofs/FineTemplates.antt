-- What a typed template gives in a scene that suits it: as many widgets as it is certain to give, of its sort, and typed.
use Rattle.std.proofs.Common.{◌≡◌, ℕ, ◌<◌, arith, Bool, true, false, List, [], ◌∷◌, map, length, Option, Some, slice_get, ap, sym, subst, refl, ◌∙◌}
use Rattle.fx_expr.specs.declared.values.Ty.{Ty}
use Rattle.fx_expr.specs.Exp.{Exp}
use Rattle.fx_expr.specs.Scope.{types_in}
use Rattle.fx_expr.specs.Typed.{IsTyped}
use Rattle.fx_expr.specs.Value.{type_of}
use Rattle.fx_expr.specs.ValueOf.{value_of}
use Rattle.fx_expr.specs.TypeLaws.{value_of-typed}
use Rattle.program_form.specs.declared.kinds.KindName.{KindName}
use Rattle.program_form.specs.declared.kinds.KindName.TheVariants as kind
use Rattle.program_form.specs.declared.kinds.ChildSort.TheVariants as stands
use Rattle.program_form.specs.Kinds.{members_of}
use Rattle.expr_check.specs.declared.wants.Want.TheVariants as want
use Rattle.expr_check.specs.Names as names
use Rattle.program_check.specs.declared.places.Amount.TheVariants.{One}
use Rattle.program_check.specs.Body.{KeyExp, PlainBody, body, BodyMembers, no_members, member, expression, name, child, props, slots, PlainBodies}
use Rattle.program_check.specs.Place.{Signature}
use Rattle.program_check.specs.Judged.{position}
use Rattle.program_check.specs.TypedBody.{Surroundings, an_expression, the_place, a_child, the_props, the_slots, WantedMember, wanted_of, AreTypedInOrder, sort_of_body, component_sort, is_certain_body, is_each_body, IsTypedBody, AreTypedMembers, AreTypedSlots, AreWanted, FitsIn}
use Rattle.widget_model.specs.Plain.{PlainWidget, no_widgets, widgets_of}
use Rattle.widget_model.specs.Typed.{Sort, box, Declarations, body_of, sort_of, sorts_of, AllAre, FitSlots, FitChildren, IsTypedWidget, AreTypedWidgets}
use Rattle.template_build.specs.Scene.{Scene, declaration_in}
use Rattle.template_build.specs.Looks.{look_by}
use Rattle.template_build.specs.Output.{are_any, given_below, some_or_none, widget_over, component_over, output_of, outputs_in, outputs_of}
use Rattle.template_build.specs.Program.{widget_sort}
use Rattle.template_build.specs.Suits.{Suits, IsDeclared}
use Rattle.template_build.proofs.Ranges.{members_fit}
use Rattle.template_build.proofs.Inversions.{three_members, three, one_name, named, expressed, a_child_is, propped, slotted}
use Rattle.template_build.proofs.FineLists.{sorts-list, length_map, first_of, all_at, typed_at, there}
use Rattle.template_build.proofs.FineTable.{Boxes, AreFine, IsFine, FineSlots, FineMembers, BelowFits, is_tidy, below_fits}

-- a widget alone
lone : (sort : Sort) (certain each : Bool) (s : Scene) (w : PlainWidget) → sort_of s.declared w ≡ sort
    → (AreTypedWidgets s.declared (widgets_of s.given) → IsTypedWidget s.declared w) → AreFine sort certain each s (w ∷ [])
lone sort certain each s w same typed = record { sorts = (same, tt); one = λ _. refl; few = λ _. omega arith; good = λ g. (typed g, tt) }

-- ---- the kinds of the table

abbrev pub is_table : KindName → Bool
is_table kind.Inherit = false
is_table kind.Use = false
is_table kind.Slot = false
is_table kind.If = false
is_table kind.Each = false
is_table k = true

table_tidy : (k : KindName) → is_table k ≡ true → is_tidy (members_of k) ≡ true
unfolding members_of
table_tidy kind.Inherit h = cc h
table_tidy kind.Use h = cc h
table_tidy kind.Slot h = cc h
table_tidy kind.If h = cc h
table_tidy kind.Each h = cc h
table_tidy k h = refl

table_output : (k : KindName) (key : Option KeyExp) (ms : BodyMembers) (s : Scene) → is_table k ≡ true
    → output_of (body k key ms) s ≡ widget_over k key ms s (given_below (outputs_in ms) s) ∷ []
unfolding output_of
table_output kind.Inherit key ms s h = cc h
table_output kind.Use key ms s h = cc h
table_output kind.Slot key ms s h = cc h
table_output kind.If key ms s h = cc h
table_output kind.Each key ms s h = cc h
table_output k key ms s h = refl

table_sort : (k : KindName) (key : Option KeyExp) (ms : BodyMembers) (s : Scene) (cs : List Signature) (ws : List PlainWidget) → is_table k ≡ true
    → sort_of s.declared (widget_over k key ms s ws) ≡ widget_sort (sort_of_body cs (body k key ms))
table_sort kind.Inherit key ms s cs ws h = cc h
table_sort kind.Use key ms s cs ws h = cc h
table_sort kind.Slot key ms s cs ws h = cc h
table_sort kind.If key ms s cs ws h = cc h
table_sort kind.Each key ms s cs ws h = cc h
table_sort k key ms s cs ws h = refl

table_children : (k : KindName) (ms : BodyMembers) (s : Scene) (below : Bool) (sorts : List Sort) → is_table k ≡ true
    → BelowFits (members_of k) sorts → FitChildren (look_by k ms s below) sorts
unfolding members_of
table_children kind.Inherit ms s below sorts h fits = cc h
table_children kind.Use ms s below sorts h fits = cc h
table_children kind.Slot ms s below sorts h fits = cc h
table_children kind.If ms s below sorts h fits = cc h
table_children kind.Each ms s below sorts h fits = cc h
table_children k ms s below sorts h fits = fits

table_slots : (k : KindName) (p : Declarations) (ms : BodyMembers) (s : Scene) (below : Bool) (sorts : List Sort) → is_table k ≡ true
    → FitSlots p (look_by k ms s below) sorts
table_slots kind.Inherit p ms s below sorts h = cc h
table_slots kind.Use p ms s below sorts h = cc h
table_slots kind.Slot p ms s below sorts h = cc h
table_slots kind.If p ms s below sorts h = cc h
table_slots kind.Each p ms s below sorts h = cc h
table_slots k p ms s below sorts h = tt

table_wanted : (S : Surroundings) (k : KindName) (ms : BodyMembers) (ws : List WantedMember) → is_table k ≡ true → AreWanted S k ms ws → ws ≡ wanted_of S (members_of k)
table_wanted S kind.Inherit ms ws h wanted = cc h
table_wanted S kind.Use ms ws h wanted = cc h
table_wanted S kind.Slot ms ws h wanted = cc h
table_wanted S kind.If ms ws h wanted = cc h
table_wanted S kind.Each ms ws h wanted = cc h
table_wanted S k ms ws h wanted = wanted

no_inherit : (k : KindName) → is_table k ≡ true → k ≡ kind.Inherit → false ≡ true
no_inherit k h e = ap is_table (sym e) ∙ h

pub fine_table : (k : KindName) (key : Option KeyExp) (ms : BodyMembers) (S : Surroundings) (s : Scene) → is_table k ≡ true → Suits S s → Boxes s
    → IsTypedBody S (body k key ms) → FineMembers ms → IsFine S s (body k key ms)
fine_table k key ms S s table suits boxes typed fine =
    let wanted = table_wanted S k ms typed.1.0 table typed.1.1 in
    let members = subst (λ ws. AreTypedMembers S ws ms) wanted typed.1.2 in
    let fits = below_fits (members_of k) ms S s (table_tidy k table) suits boxes members fine in
    let ws = given_below (outputs_in ms) s in
    let below = are_any ws in
    let b = body k key ms in
    subst (AreFine (widget_sort (sort_of_body S.components b)) (is_certain_body b) (is_each_body b) s) (sym (table_output k key ms s table))
    (lone (widget_sort (sort_of_body S.components b)) (is_certain_body b) (is_each_body b) s (widget_over k key ms s ws) (table_sort k key ms s S.components ws table)
    (λ g. record {
      members = members_fit k s.declared ms s below (λ e. absurd (cc (no_inherit k table e)));
      filled = table_slots k s.declared ms s below (sorts_of s.declared no_widgets) table;
      held = table_children k ms s below (sorts_of s.declared (widgets_of ws)) table (subst (BelowFits (members_of k)) (sym (sorts-list s.declared ws)) fits.0);
      in_slots = tt;
      below = fits.1 g;
    }))

-- ---- `Inherit`

inherit_at : (key : Option KeyExp) (i : ℕ) (e : Exp) (b : PlainBody) (S : Surroundings) (s : Scene) (t : Ty) → Suits S s → Boxes s
    → slice_get S.provided i ≡ Some t → IsTyped S.sight.types e t → FitsIn S.components (position One stands.Any) b → IsFine S s b
    → IsFine S s (body kind.Inherit key (three_members (name i) (expression e) (child b)))
unfolding output_of
inherit_at key i e b S s t suits boxes found typed fits fine =
    let ms = three_members (name i) (expression e) (child b) in
    let ws = output_of b s in
    let sort = widget_sort (sort_of_body S.components b) in
    let has : type_of (value_of e s.env) ≡ t = value_of-typed e s.env t (subst (λ T. IsTyped T e t) (sym suits.names) typed) in
    let one : length ws ≡ 1 = fine.one fits.amount in
    lone sort true false s (widget_over kind.Inherit key ms s ws) (first_of s.declared sort ws one fine.sorts)
    (λ g. record {
      members = ap (λ ts. slice_get ts i) suits.provided ∙ found ∙ ap Some (sym has);
      filled = tt;
      held = ap length (sorts-list s.declared ws) ∙ length_map (sort_of s.declared) ws ∙ one;
      in_slots = tt;
      below = fine.good g;
    })

abbrev pub at_members : Surroundings → Scene → KindName → Option KeyExp → BodyMembers → Type 0
at_members S s k key ms = FineMembers ms → IsFine S s (body k key ms)

pub fine_inherit : (key : Option KeyExp) (ms : BodyMembers) (S : Surroundings) (s : Scene) → Suits S s → Boxes s → IsTypedBody S (body kind.Inherit key ms) → FineMembers ms
    → IsFine S s (body kind.Inherit key ms)
fine_inherit key ms S s suits boxes typed =
    let wanted = typed.1.1 in
    let i = wanted.0 in
    let t = wanted.1 in
    let members = subst (λ ws. AreTypedMembers S ws ms) wanted.3 typed.1.2 in
    let m = three S (the_place i) (an_expression (want.Exactly t)) (a_child (position One stands.Any) S) ms members in
    let e = expressed S (want.Exactly t) m.q m.second in
    let c = a_child_is S S (position One stands.Any) m.r m.third in
    let is_ms : ms ≡ three_members (name i) (expression e.0) (child c.b) =
    m.same ∙ ap (λ p. three_members p m.q m.r) (named S i m.p m.first) ∙ ap (λ q. three_members (name i) q m.r) e.1 ∙ ap (λ r. three_members (name i) (expression e.0) r) c.same in
    subst (at_members S s kind.Inherit key) (sym is_ms)
    (λ fine. inherit_at key i e.0 c.b S s t suits boxes wanted.2 e.2.0 c.fits (fine.1.1.0 S s suits boxes c.typed))

-- ---- `use`

props_typed : (S : Surroundings) (s : Scene) (ts : List Ty) (es : List Exp) → types_in s.env ≡ S.sight.types → AreTypedInOrder S.sight ts es
    → map type_of (map (λ e. value_of e s.env) es) ≡ ts
props_typed S s [] [] same h = refl
props_typed S s [] (e ∷ es) same h = absurd h
props_typed S s (t ∷ ts) [] same h = absurd h
props_typed S s (t ∷ ts) (e ∷ es) same h =
    ap (λ u. u ∷ map type_of (map (λ e. value_of e s.env) es)) (value_of-typed e s.env t (subst (λ T. IsTyped T e t) (sym same) h.0.0))
    ∙ ap (λ us. t ∷ us) (props_typed S s ts es same h.1)

use_at : (key : Option KeyExp) (i : ℕ) (es : List Exp) (bs : PlainBodies) (S : Surroundings) (s : Scene) (c : Signature) → Suits S s → Boxes s
    → slice_get S.components i ≡ Some c → AreTypedInOrder S.sight (names.types_in c.props) es → AreTypedSlots S (length c.slots) bs → FineSlots bs
    → IsFine S s (body kind.Use key (three_members (name i) (props es) (slots bs)))
unfolding output_of
use_at key i es bs S s c suits boxes found typed filled fine =
    let ms = three_members (name i) (props es) (slots bs) in
    let ws = outputs_of bs s in
    let d : IsDeclared s.declared.components i c = suits.components i c found in
    let f = fine S s (length c.slots) suits boxes filled in
    let sorts = sorts-list s.declared ws in
    lone (widget_sort (sort_of_body S.components (body kind.Use key ms))) true false s (component_over kind.Use key ms s ws)
    (ap body_of d.found ∙ d.same.sort ∙ sym (ap (λ c. widget_sort (component_sort c)) found))
    (λ g. record {
      members = tt;
      filled = record {
        component = d.component;
        named = d.found;
        declared = ap declaration_in d.found;
        typed = props_typed S s (names.types_in c.props) es suits.names typed ∙ sym d.same.props;
        filled = ap length sorts ∙ length_map (sort_of s.declared) ws ∙ f.0 ∙ sym d.same.slots;
        boxes = subst (AllAre box) (sym sorts) f.1;
      };
      held = refl;
      in_slots = f.2 g;
      below = tt;
    })

pub fine_use : (key : Option KeyExp) (ms : BodyMembers) (S : Surroundings) (s : Scene) → Suits S s → Boxes s → IsTypedBody S (body kind.Use key ms) → FineMembers ms
    → IsFine S s (body kind.Use key ms)
fine_use key ms S s suits boxes typed =
    let wanted = typed.1.1 in
    let i = wanted.0 in
    let c : Signature = wanted.1 in
    let members = subst (λ ws. AreTypedMembers S ws ms) wanted.3 typed.1.2 in
    let m = three S (the_place i) (the_props (names.types_in c.props)) (the_slots (length c.slots)) ms members in
    let e = propped S (names.types_in c.props) m.q m.second in
    let b = slotted S (length c.slots) m.r m.third in
    let is_ms : ms ≡ three_members (name i) (props e.0) (slots b.0) =
    m.same ∙ ap (λ p. three_members p m.q m.r) (named S i m.p m.first) ∙ ap (λ q. three_members (name i) q m.r) e.1 ∙ ap (λ r. three_members (name i) (props e.0) r) b.1 in
    subst (at_members S s kind.Use key) (sym is_ms)
    (λ fine. use_at key i e.0 b.0 S s c suits boxes wanted.2 e.2 b.2 fine.1.1.0)

-- ---- `slot`

slot_at : (key : Option KeyExp) (i : ℕ) (S : Surroundings) (s : Scene) → Boxes s → i < length s.given → IsFine S s (body kind.Slot key (member (name i) no_members))
unfolding output_of
slot_at key i S s boxes below =
    let w = there s.given i below in
    subst (λ o. AreFine box true false s (some_or_none o)) (sym w.1)
    (lone box true false s w.0 (all_at box s.declared s.given i w.0 boxes w.1) (λ g. typed_at s.declared s.given i w.0 g w.1))

pub fine_slot : (key : Option KeyExp) (ms : BodyMembers) (S : Surroundings) (s : Scene) → Suits S s → Boxes s → IsTypedBody S (body kind.Slot key ms) → FineMembers ms
    → IsFine S s (body kind.Slot key ms)
fine_slot key ms S s suits boxes typed fine =
    let wanted = typed.1.1 in
    let members = subst (λ ws. AreTypedMembers S ws ms) wanted.2 typed.1.2 in
    subst (λ ms. IsFine S s (body kind.Slot key ms)) (sym (one_name S wanted.0 ms members))
    (slot_at key wanted.0 S s boxes (omega (arith, wanted.1, suits.filled)))

use Rattle.std.proofs.Common.{arith, ◌≡◌, ℕ, ◌<◌, List, [], ◌∷◌, length, true, Some, None, ap, refl, sym, ◌∙◌, subst}
use Rattle.std.specs.Prelude.{slice_get}
use Rattle.fx_expr.specs.declared.values.Ty.TheVariants as ty
use Rattle.fx_expr.specs.Exp as exp
use Rattle.fx_expr.specs.Exp.{Exp}
use Rattle.fx_expr.specs.Typed.{item_type}
use Rattle.program_form.specs.declared.kinds.KindName.TheVariants as kind
use Rattle.program_form.specs.declared.kinds.ChildSort.TheVariants as stands
use Rattle.program_form.specs.Kinds.{members_of}
use Rattle.expr_check.specs.declared.wants.Want.TheVariants as want
use Rattle.program_check.specs.declared.places.Amount.TheVariants.{One}
use Rattle.expr_check.specs.Names.{types_in}
use Rattle.program_check.specs.Body.{PlainBody, body, BodyMembers, no_members, member, name, props, slots, left_out, PlainBodies, bodies_in}
use Rattle.program_check.specs.Place.{Signature}
use Rattle.program_check.specs.Judged.{position, is_local_key}
use Rattle.program_check.specs.TypedBody.{Surroundings, inside, AreTypedInOrder, WantedMember, must, the_place, an_expression, a_child, the_props, the_slots, wanted_of, IsTypedBody, AreTypedMembers, AreTypedSlots}
use Rattle.program_check.specs.WorkedTyped.{number, text, card, strip, at_root, in_component, sized, around, empty, box, sliver, each_of, if_then, numbers, use_of, tapped, providing}
use Rattle.program_check.proofs.laws.worked_typed_bodies.Goals as goal

some_is : {A : Type 0} (x y : A) → Some x ≡ Some y → x ≡ y
some_is x y e = cc

abbrev members : PlainBody → BodyMembers
members (body k key ms) = ms

-- members that are typed as some are, which are known
known : (S : Surroundings) (ms : BodyMembers) (ws us : List WantedMember) → ws ≡ us → AreTypedMembers S ws ms → AreTypedMembers S us ms
known S ms ws us e h = subst (λ ws. AreTypedMembers S ws ms) e h

one_none : ◌≡◌ {A = ℕ} 1 0 → ⊥
one_none e = omega arith

-- what a component that is known is given
used : (S : Surroundings) (i : ℕ) (es : List Exp) (bs : PlainBodies) (c : Signature) → slice_get S.components i ≡ Some c
    → IsTypedBody S (body kind.Use None (member (name i) (member (props es) (member (slots bs) no_members))))
    → AreTypedInOrder S.sight (types_in c.props) es × AreTypedSlots S (length c.slots) bs
used S i es bs c e h =
    let ms : BodyMembers = member (name i) (member (props es) (member (slots bs) no_members)) in
    let ws : List WantedMember = must (the_place h.1.1.0) ∷ must (the_props (types_in h.1.1.1.props)) ∷ must (the_slots (length h.1.1.1.slots)) ∷ [] in
    let t = known S ms _ ws h.1.1.3 h.1.2 in
    let same : h.1.1.1 ≡ c = some_is _ c (sym h.1.1.2 ∙ ap (slice_get S.components) (sym t.0) ∙ e) in
    subst (λ c. AreTypedInOrder S.sight (types_in c.props) es × AreTypedSlots S (length c.slots) bs) same (t.1.0, t.1.1.0)

box_typed : (S : Surroundings) → IsTypedBody S box
unfolding members_of
box_typed S = (tt, (wanted_of S (members_of kind.SizedBox), refl, ((refl, λ e. cc), (refl, (refl, tt)))))

pub returns : goal.returns
unfolding members_of
returns c = record {
  right_box = (tt, (wanted_of at_root (members_of kind.SizedBox), refl, ((refl, λ e. cc), (refl, ((record { amount = refl; sort = refl }, box_typed at_root), tt)))));
  right_use = (
    tt,
    (
      must (the_place 0) ∷ must (the_props (ty.Int ∷ [])) ∷ must (the_slots 1) ∷ [],
      (0, card, refl, refl),
      (refl, (((refl, λ e. cc), tt), ((record { amount = refl; sort = refl }, box_typed at_root, tt), tt))),
    ),
  );
  right_each = (
    tt,
    (
      must (the_place 0) ∷ must (an_expression (want.Exactly ty.Ints)) ∷ must (a_child (position One stands.Any) (inside ty.Int at_root)) ∷ [],
      (ty.Ints, ty.Int, refl, refl),
      (refl, (((refl, (refl, tt)), λ e. cc), ((record { amount = refl; sort = refl }, (tt, (wanted_of (inside ty.Int at_root) (members_of kind.SizedBox), refl, ((refl, λ e. cc), (refl, (refl, tt)))))), tt))),
    ),
  );
  right_tap = (tt, (wanted_of in_component (members_of kind.Detector), refl, (refl, (((ty.Text, refl, refl), tt), (refl, (refl, (refl, (refl, (refl, tt)))))))));
  right_event = (tt, (wanted_of in_component (members_of kind.Detector), refl, (refl, (((ty.Text, refl, (refl, refl)), tt), (refl, (refl, (refl, (refl, (refl, tt)))))))));
  right_slot = (tt, (must (the_place 0) ∷ [], (0, omega arith, refl), (refl, tt)));
  right_value = (
    tt,
    (
      must (the_place 0) ∷ must (an_expression (want.Exactly ty.Int)) ∷ must (a_child (position One stands.Any) in_component) ∷ [],
      (0, ty.Int, refl, refl),
      (refl, ((refl, λ e. cc), ((record { amount = refl; sort = refl }, box_typed in_component), tt))),
    ),
  );
  text_width = λ h. let t = known at_root (members (sized text empty)) _ _ h.1.1 h.1.2 in cc t.0.0;
  flag_key = λ h. let e = subst (λ t. is_local_key t ≡ true) h.0.2.0 h.0.1 in cc e;
  number_global = λ h. cc h.0.0;
  root_field = λ h. let t = known at_root (members (sized (exp.field 0) empty)) _ _ h.1.1 h.1.2 in cc t.0.0;
  box_event = λ h. let t = known at_root (members (sized exp.event_dx empty)) _ _ h.1.1 h.1.2 in cc (t.0.1 refl);
  text_field = λ h. let t = known in_component (members (sized (exp.field 0) empty)) _ _ h.1.1 h.1.2 in cc t.0.0;
  too_few = λ h. known at_root (members (body kind.SizedBox None no_members)) _ _ h.1.1 h.1.2;
  too_many = λ h. let t = known at_root (members (sized number (left_out empty))) _ _ h.1.1 h.1.2 in t.1.1.1;
  no_text = λ h. let t = known at_root (members (body kind.Text None (left_out (left_out no_members)))) _ _ h.1.1 h.1.2 in cc t.0;
  set_type = λ h. let t = known in_component (members (tapped 0 number)) _ _ h.1.1 h.1.2 in cc (t.1.0.0.1, t.1.0.0.2);
  set_place = λ h. let t = known in_component (members (tapped 1 text)) _ _ h.1.1 h.1.2 in cc t.1.0.0.1;
  each_child = λ h. let t = known at_root (members (sized number (around (each_of 0 numbers box)))) _ _ h.1.1 h.1.2 in cc t.1.1.0.0.amount;
  sliver_child = λ h. let t = known at_root (members (sized number (around sliver))) _ _ h.1.1 h.1.2 in cc t.1.1.0.0.sort;
  each_then = λ h. let t = known at_root (members (if_then (each_of 0 numbers box) empty)) _ _ h.1.1 h.1.2 in cc t.1.0.0.amount;
  other_sort = λ h. let t = known at_root (members (if_then box (around sliver))) _ _ h.1.1 h.1.2 in cc t.1.1.0.0.sort;
  uncertain = λ h. cc h.amount;
  each_number = λ h. let t = known at_root (members (each_of 0 number box)) _ _ h.1.1.3 h.1.2 in let e = subst (λ t. item_type t ≡ Some h.1.1.1) t.1.0.0 h.1.1.2 in cc e;
  each_place = λ h. let t = known at_root (members (each_of 1 numbers box)) _ _ h.1.1.3 h.1.2 in one_none t.0;
  each_type = λ h.
      let t = known at_root (members (each_of 0 (exp.texts exp.no_exps) (sized (exp.variable 0) empty))) _ _ h.1.1.3 h.1.2 in
      let e = subst (λ t. item_type t ≡ Some h.1.1.1) t.1.0.0.0 h.1.1.2 in
      let inner = t.1.1.0.1 in
      let u = known (inside h.1.1.1 at_root) (members (sized (exp.variable 0) empty)) _ _ inner.1.1 inner.1.2 in
      cc (e, u.0.0);
  root_slot = λ h. let below : h.1.1.0 < 0 = h.1.1.1 in omega arith;
  root_value = λ h. cc h.1.1.2;
  value_type = λ h.
      let t = known in_component (members (providing 0 text)) _ _ h.1.1.3 h.1.2 in
      let e = subst (λ i. slice_get (ty.Int ∷ []) i ≡ Some h.1.1.1) (sym t.0) h.1.1.2 in
      cc (e, t.1.0.0);
  no_component = λ h.
      let t = known at_root (members (use_of 2 [] [])) _ _ h.1.1.3 h.1.2 in
      let e = subst (λ i. slice_get (card ∷ strip ∷ []) i ≡ Some h.1.1.1) (sym t.0) h.1.1.2 in
      cc e;
  missing_prop = λ h. let t = used at_root 0 [] (bodies_in (box ∷ [])) card refl h in t.0;
  other_prop = λ h. let t = used at_root 0 (number ∷ number ∷ []) (bodies_in (box ∷ [])) card refl h in t.0.1;
  prop_type = λ h. let t = used at_root 0 (text ∷ []) (bodies_in (box ∷ [])) card refl h in cc t.0.0.0;
  missing_slot = λ h. let t = used at_root 0 (number ∷ []) (bodies_in []) card refl h in t.1;
  other_slot = λ h. let t = used at_root 1 [] (bodies_in (box ∷ [])) strip refl h in t.1;
  slot_sliver = λ h. let t = used at_root 0 (number ∷ []) (bodies_in (sliver ∷ [])) card refl h in cc t.1.0.sort;
  used_sliver = λ h. let t = known at_root (members (sized number (around (use_of 1 [] [])))) _ _ h.1.1 h.1.2 in cc t.1.1.0.0.sort;
}

use Rattle.std.proofs.Common.{◌≡◌, rules, Ok, map, ◌∷◌, [], arith, subst, ap, sym, ◌∙◌}
use Rattle.std.proofs.lemmas.List.{map-append}
use Rattle.std.proofs.lemmas.Result.{err_from_is_err_and}
use Rattle.fx_expr.specs.declared.values.Ty.TheVariants as ty
use Rattle.expr_check.specs.declared.fault.CheckCode.TheVariants.{WrongType, WrongSort, Uncertain}
use Rattle.expr_check.specs.declared.wants.Want.TheVariants as want
use Rattle.program_check.specs.Place.{expected, sorts_agree}
use Rattle.program_form.specs.declared.kinds.KindName.TheVariants as kind
use Rattle.program_form.specs.TemplateView.{plain_key_member}
use Rattle.expr_check.specs.Check.{Answers, StopsAs, given, in_order}
use Rattle.program_check.specs.Body.{body_from}
use Rattle.program_check.specs.declared.checked.BodyPart.{the_lemmas}
use Rattle.program_check.specs.Depth.{member_depth_of, parts_depth}
use Rattle.program_check.specs.Judged.{child_at, checked_slot_content, member_checks, checked_members, checked_template, checked_member, checked_part, optional_key, position, allowed, props_in, slots_in}
use Rattle.program_check.specs.JudgedView.{judged_of, member_of, part_of, parts_of, content_of, three_parts}
use Rattle.program_check.specs.BodyView.{plain_body_key_member, plain_body, plain_members, plain_content_given}
use Rattle.program_check.specs.CheckedView.{signature, plain_place}
use Rattle.program_check.specs.Steps.{added, added_one, added_part, value_of, props_part, slots_part, arranged_slots}
use Rattle.program_check.proofs.PartLemmas.{judged_of-by, depth_of-parts}
use Rattle.program_check.proofs.MemberLemmas.{children_depth-first, contents_depth-first, depth-emptied, template-use, members-inherit, members-slot, members-if, members-each}
use Rattle.program_check.proofs.BodyLemmas.{plain_body-out}
use Rattle.program_check.proofs.LoopLemmas.{resumed-first, part_at-left, left-later}
use Rattle.program_check.proofs.AddedLemmas.{there, used_by, used_so_far, valued_so_far, some-member, placed-child, misplaced-child, other-filled, use-added, use-props-stop, inherit-added, inherit-name-stops, inherit-value-stops, each-added, each-stops, if-added, table-adds, table-ends, part-added, child-added, children-added, slots-added, Answers-given}
use Rattle.program_check.proofs.bodies.+check.Goals as goal

pub check_template-returns : goal.check_template-returns
check_template-returns t c =
    let place = plain_place c.args.place.now c.args.vars.now in
    ap (λ j. j.check place) (judged_of-by c.args.template.now) ∙ c.in_ok-fill_body.ensures

pub check_children-check_child-requires : goal.check_children-check_child-requires
check_children-check_child-requires t c =
    let less = children_depth-first _ c.in-Some.child _ c.in-Some.ensures.steps.0 in
    (omega (arith, less, c.loop-child.invariant.1, c.decreases), tt)

pub check_children-loop-child-preserved : goal.check_children-loop-child-preserved
check_children-loop-child-preserved t c =
    let l = c.loop-child in
    let body = c.in_ok-check_child.field-0 in
    let check = child_at c.args.position (plain_place c.args.place.now c.args.vars.now) in
    let step = c.in-Some.ensures.steps.0 in
    let less = children_depth-first _ c.in-Some.child _ step in (
      resumed-first check judged_of (in_order (map check (map judged_of c.args.children.items))) (map plain_body l.bodies.items) (map plain_body c.push.new.self.items)
          _ c.in-Some.child _ (plain_body body) step l.invariant.0 c.in_ok-check_child.ensures
          (ap (map plain_body) c.in_ok-push.ensures.items ∙ map-append plain_body l.bodies.items (body ∷ [])),
      omega (arith, l.invariant.1, less),
    )

pub check_contents-check_content-requires : goal.check_contents-check_content-requires
check_contents-check_content-requires t c =
    let less = contents_depth-first _ c.in-Some.slot _ c.in-Some.ensures.steps.0 in
    (omega (arith, less, c.loop-slot.invariant.1, c.decreases), tt)

pub check_contents-loop-slot-preserved : goal.check_contents-loop-slot-preserved
check_contents-loop-slot-preserved t c =
    let l = c.loop-slot in
    let content = c.in_ok-check_content.field-0 in
    let check = checked_slot_content (plain_place c.args.place.now c.args.vars.now) c.args.declared.now in
    let step = c.in-Some.ensures.steps.0 in
    let less = contents_depth-first _ c.in-Some.slot _ step in (
      resumed-first check content_of (in_order (map check (map content_of c.args.given.items))) (map plain_content_given l.contents.items)
          (map plain_content_given c.push.new.self.items) _ c.in-Some.slot _ (plain_content_given content) step l.invariant.0 c.in_ok-check_content.ensures
          (ap (map plain_content_given) c.in_ok-push.ensures.items ∙ map-append plain_content_given l.contents.items (content ∷ [])),
      omega (arith, l.invariant.1, less),
    )

-- ---- a child in its position, and a template by its kind

pub check_child-returns : goal.check_child-returns
check_child-returns t c =
    let place = plain_place c.args.place.now c.args.vars.now in
    let j = judged_of c.args.child in
    let p = c.args.position in
    subst (Answers plain_body c.check_template.result)
    (sym (placed-child (expected (allowed p.amount j) Uncertain) (expected (sorts_agree p.sort (j.sort place.earlier)) WrongSort) (j.check place) c.in_ok-check_position.ensures))
    c.check_template.ensures

pub check_child-returns-in_err-check_position : goal.check_child-returns-in_err-check_position
check_child-returns-in_err-check_position t c =
    let place = plain_place c.args.place.now c.args.vars.now in
    let j = judged_of c.args.child in
    let p = c.args.position in
    let e = err_from_is_err_and c.from_residual.result c.from_residual.ensures.1 in
    rw (e.1, e.2) (misplaced-child (expected (allowed p.amount j) Uncertain) (expected (sorts_agree p.sort (j.sort place.earlier)) WrongSort) (j.check place)
    c.in_err-check_position.field-0.0 c.in_err-check_position.ensures)

pub check_template-fill_body-requires : goal.check_template-fill_body-requires
check_template-fill_body-requires t c = (omega (arith, c.decreases, depth_of-parts c.args.template.now), (search rules, search rules))

pub fill_body-check_use-requires : goal.fill_body-check_use-requires
fill_body-check_use-requires t c = (omega (arith, c.first_three.ensures.depth, c.decreases), (c.requires.kind ∙ c.in-Use.is, c.requires.empty))

pub fill_body-returns-in-Use : goal.fill_body-returns-in-Use
fill_body-returns-in-Use t c =
    let place = plain_place c.args.place.now c.args.vars.now in
    let w = c.args.template.now in
    subst (Answers (λ _. plain_body c.check_use.new.body) c.check_use.result)
    (ap (λ k. checked_template kind.Use (plain_key_member k) (three_parts c.first_three.result) place) c.take.ensures.value
    ∙ template-use w.w (plain_key_member w.key) (parts_of w.members.items) (three_parts c.first_three.result) place c.in-Use.is c.first_three.ensures.parts) c.check_use.ensures

pub check_use-check_slots-requires : goal.check_use-check_slots-requires
check_use-check_slots-requires t c = (omega (arith, ap member_depth_of c.take-2.ensures.value, c.decreases), tt)

pub check_use-returns : goal.check_use-returns
check_use-returns t c =
    let place = plain_place c.args.place.now c.args.vars.now in
    let w = c.args.written.now in
    let key = plain_key_member c.args.key in
    let r = c.check_slots.result in
    let one = plain_members c.add_component.new.checked.items in
    let two = plain_members c.add_props.new.checked.items in
    let ms = plain_members c.check_slots.new.checked.items in
    let found = plain_body_key_member c.add_key.new.checked in
    let s = signature c.in_ok-component.component.now in
    let used = subst (λ xs. given (used_so_far (plain_members xs)) (used_by place (member_of w.first)) ≡ Ok (one, s)) c.requires.empty c.in_ok-component.ensures in
    let keyed : optional_key place.names key ≡ Ok found = ap (λ names. optional_key names key) (sym c.names-names.ensures) ∙ c.in_ok-add_key.ensures in
    let filled : added_part one (props_part place.names s.props (props_in (member_of w.second))) ≡ Ok two =
    ap (λ o. added_part one (props_part place.names s.props (props_in (member_of o)))) (sym c.take.ensures.value)
    ∙ ap (λ names. added_part one (props_part names s.props (props_in (member_of c.take.result)))) (sym c.names-names.ensures) ∙ c.in_ok-add_props.ensures in
    let slots = subst (λ o. Answers (λ _. ms) r (added_part two (slots_part place s.slots (slots_in (member_of o))))) c.take-2.ensures.value c.check_slots.ensures in
    subst (λ b. Answers (λ _. b) r (checked_template kind.Use key (three_parts w) place)) (sym (plain_body-out _ ∙ ap (λ k. body_from k found ms) c.requires.kind))
    (subst (Answers (λ _. body_from kind.Use found ms) r)
    (sym (use-added place key (member_of w.first) (member_of w.second) (member_of w.third) one two s found used keyed filled))
    (Answers-given (body_from kind.Use found) r ms _ slots))

pub check_members-check_inherit-requires : goal.check_members-check_inherit-requires
check_members-check_inherit-requires t c = (omega (arith, c.first_three.ensures.depth, c.decreases), tt)

pub check_members-returns-in-Inherit : goal.check_members-returns-in-Inherit
check_members-returns-in-Inherit t c =
    let place = plain_place c.args.place.now c.args.vars.now in
    let before = plain_members c.args.checked.now.items in
    subst (λ w. Answers (λ _. plain_members c.check_inherit.new.checked.items) c.check_inherit.result (added before w))
    (members-inherit c.args.kind place (parts_of c.args.written.now.items) _ c.in-Inherit.is c.first_three.ensures.parts) c.check_inherit.ensures

pub check_members-returns-in-Slot : goal.check_members-returns-in-Slot
check_members-returns-in-Slot t c =
    let place = plain_place c.args.place.now c.args.vars.now in
    let before = plain_members c.args.checked.now.items in
    subst (λ w. Answers (λ _. plain_members c.add_slot.new.checked.items) c.add_slot.result (added before w))
    (members-slot c.args.kind place (parts_of c.args.written.now.items) _ c.in-Slot.is c.first_three-in-Slot.ensures.parts) c.add_slot.ensures

pub check_members-check_if-requires : goal.check_members-check_if-requires
check_members-check_if-requires t c = (omega (arith, c.first_three-in-If.ensures.depth, c.decreases), tt)

pub check_members-returns-in-If : goal.check_members-returns-in-If
check_members-returns-in-If t c =
    let place = plain_place c.args.place.now c.args.vars.now in
    let before = plain_members c.args.checked.now.items in
    subst (λ w. Answers (λ _. plain_members c.check_if.new.checked.items) c.check_if.result (added before w))
    (members-if c.args.kind place (parts_of c.args.written.now.items) _ c.in-If.is c.first_three-in-If.ensures.parts) c.check_if.ensures

pub check_members-check_each-requires : goal.check_members-check_each-requires
check_members-check_each-requires t c = (omega (arith, c.first_three-in-Each.ensures.depth, c.decreases), tt)

pub check_members-returns-in-Each : goal.check_members-returns-in-Each
check_members-returns-in-Each t c =
    let place = plain_place c.args.place.now c.args.vars.now in
    let before = plain_members c.args.checked.now.items in
    subst (λ w. Answers (λ _. plain_members c.check_each.new.checked.items) c.check_each.result (added before w))
    (members-each c.args.kind place (parts_of c.args.written.now.items) _ c.in-Each.is c.first_three-in-Each.ensures.parts) c.check_each.ensures

-- ---- `Inherit`, `if` and `each`

pub check_inherit-returns : goal.check_inherit-returns
check_inherit-returns t c =
    let place = plain_place c.args.place.now c.args.vars.now in
    let w = c.args.written.now in
    let before = plain_members c.args.checked.now.items in
    let one = plain_members c.add_provided.new.checked.items in
    let two = plain_members c.add_expression.new.checked.items in
    let ms = plain_members c.check_member.new.checked.items in
    let m = c.child_member.result in
    let is = c.child_member.ensures in
    let wanted = want.Exactly c.in_ok-ty.ty in
    let valued : given (valued_so_far one) (value_of place.names wanted (member_of w.second)) ≡ Ok (two, c.in_ok-add_expression.field-0) =
    ap (λ o. given (valued_so_far one) (value_of place.names wanted (member_of o))) (sym c.take.ensures.value)
    ∙ ap (λ names. given (valued_so_far one) (value_of names wanted (member_of c.take.result))) (sym c.names-names.ensures) ∙ c.in_ok-add_expression.ensures in
    subst (Answers (λ _. ms) c.check_member.result)
    (ap (λ o. added_one two (checked_member place m (member_of o))) c.take-2.ensures.value
    ∙ sym (inherit-added place (member_of w.first) (member_of w.second) (member_of w.third) m before one two _ _ is.form is.required c.in_ok-ty.ensures valued))
    c.check_member.ensures

pub check_inherit-returns-in_err-ty : goal.check_inherit-returns-in_err-ty
check_inherit-returns-in_err-ty t c =
    let place = plain_place c.args.place.now c.args.vars.now in
    let w = c.args.written.now in
    let e = err_from_is_err_and c.from_residual.result c.from_residual.ensures.1 in
    rw (e.1, e.2) (inherit-name-stops place (member_of w.first) (member_of w.second) (member_of w.third) (plain_members c.args.checked.now.items) c.in_err-ty.field-0.0 c.in_err-ty.ensures)

pub check_inherit-returns-in_err-add_expression : goal.check_inherit-returns-in_err-add_expression
check_inherit-returns-in_err-add_expression t c =
    let place = plain_place c.args.place.now c.args.vars.now in
    let w = c.args.written.now in
    let one = plain_members c.add_provided.new.checked.items in
    let why = c.in_err-add_expression.field-0.0 in
    let wanted = want.Exactly c.in_ok-ty.ty in
    let e = err_from_is_err_and c.from_residual-in_err-add_expression.result c.from_residual-in_err-add_expression.ensures.1 in
    let valued = subst (λ o. StopsAs why (given (valued_so_far one) (value_of place.names wanted (member_of o)))) c.take.ensures.value
    (subst (λ names. StopsAs why (given (valued_so_far one) (value_of names wanted (member_of c.take.result)))) c.names-names.ensures c.in_err-add_expression.ensures) in
    rw (e.1, e.2) (inherit-value-stops place (member_of w.first) (member_of w.second) (member_of w.third) (plain_members c.args.checked.now.items) one _ why c.in_ok-ty.ensures valued)

pub check_each-returns : goal.check_each-returns
check_each-returns t c =
    let place = plain_place c.args.place.now c.args.vars.now in
    let w = c.args.written.now in
    let before = plain_members c.args.checked.now.items in
    let one = plain_members c.add_list.new.checked.items in
    let ms = plain_members c.check_member.new.checked.items in
    let m = c.child_member.result in
    let is = c.child_member.ensures in
    subst (Answers (λ _. ms) c.check_member.result)
    (ap (λ o. added_one one (checked_member (plain_place c.args.place.now c.in_ok-inner.inner) m (member_of o))) (c.take.ensures.value ∙ c.add_list.ensures.third)
    ∙ sym (each-added place (member_of w.first) (member_of w.second) (member_of w.third) m before one _ is.form is.required c.in_ok-inner.ensures.answer))
    c.check_member.ensures

pub check_each-returns-in_err-inner : goal.check_each-returns-in_err-inner
check_each-returns-in_err-inner t c =
    let place = plain_place c.args.place.now c.args.vars.now in
    let w = c.args.written.now in
    let e = err_from_is_err_and c.from_residual.result c.from_residual.ensures.1 in
    rw (e.1, e.2) (each-stops place (member_of w.first) (member_of w.second) (member_of w.third) (plain_members c.args.checked.now.items) c.in_err-inner.field-0.0 c.in_err-inner.ensures.answer)

pub check_if-returns : goal.check_if-returns
check_if-returns t c =
    let place = plain_place c.args.place.now c.args.vars.now in
    let w = c.args.written.now in
    let before = plain_members c.args.checked.now.items in
    let one = plain_members c.add_expression.new.checked.items in
    let two = plain_members c.check_member.new.checked.items in
    let ms = plain_members c.check_member-2.new.checked.items in
    let a = c.child_member.result in
    let o = c.child_member-2.result in
    let wanted = want.Exactly ty.Bool in
    let valued : given (valued_so_far before) (value_of place.names wanted (member_of w.first)) ≡ Ok (one, c.in_ok-add_expression.field-0) =
    ap (λ x. given (valued_so_far before) (value_of place.names wanted (member_of x))) (sym c.take.ensures.value)
    ∙ ap (λ names. given (valued_so_far before) (value_of names wanted (member_of c.take.result))) (sym c.names-names.ensures) ∙ c.in_ok-add_expression.ensures in
    let there = ap (λ b. expected b WrongType) (some-member w.second ∙ sym c.is_some.ensures) ∙ c.in_ok-expect.ensures in
    let then = ap (λ x. added_one one (checked_member place a (member_of x))) (sym c.take-2.ensures.value) ∙ c.in_ok-check_member.ensures in
    subst (Answers (λ _. ms) c.check_member-2.result)
    (ap (λ x. added_one two (checked_member place o (member_of x))) c.take-3.ensures.value
    ∙ sym (if-added place (member_of w.first) (member_of w.second) (member_of w.third) a o c.wanted_of_else-sort.result before one two _ c.child_member.ensures.form c.child_member.ensures.required
    c.child_member-2.ensures.form c.child_member-2.ensures.required (c.wanted_of_else-sort.ensures place) valued there then))
    c.check_member-2.ensures

-- ---- the members of a kind

pub check_table-check_member-requires : goal.check_table-check_member-requires
check_table-check_member-requires t c = (omega (arith, c.take-part.ensures.depth, c.loop-i.invariant.2, c.decreases), tt)

pub check_table-loop-i-preserved : goal.check_table-loop-i-preserved
check_table-loop-i-preserved t c =
    let l = c.loop-i in
    let place = plain_place c.args.place.now c.args.vars.now in
    let table = c.args.table.now in
    let ps = parts_of c.args.written.now.items in
    let written = c.take-part.ensures.taken ∙ part_at-left (parts_of l.written.items) ps l.i l.invariant.1 in
    let less = depth-emptied l.written.items l.i in
    let kept = ap parts_depth c.take-part.ensures.others in (
      table-adds place (added (plain_members c.args.checked.now.items) (in_order (member_checks place table ps))) (plain_members l.checked.items)
          (plain_members c.check_member.new.checked.items) table ps l.i _ _ c.loop-i-test.true (there table l.i _ _ c.loop-i-test.true) written l.invariant.0 c.in_ok-check_member.ensures,
      left-later l.written.items c.take-part.new.members.items ps l.i c.take-part.ensures.others l.invariant.1,
      omega (arith, l.invariant.2, less, kept),
    )

pub check_table-returns-in_err-check_member : goal.check_table-returns-in_err-check_member
check_table-returns-in_err-check_member t c =
    let l = c.loop-i in
    let place = plain_place c.args.place.now c.args.vars.now in
    let table = c.args.table.now in
    let ps = parts_of c.args.written.now.items in
    let written = c.take-part.ensures.taken ∙ part_at-left (parts_of l.written.items) ps l.i l.invariant.1 in
    let e = err_from_is_err_and c.from_residual.result c.from_residual.ensures.1 in
    rw (e.1, e.2) (table-ends place (added (plain_members c.args.checked.now.items) (in_order (member_checks place table ps))) (plain_members l.checked.items) table ps l.i _ _
    c.in_err-check_member.field-0.0 c.loop-i-test.true (there table l.i _ _ c.loop-i-test.true) written l.invariant.0 c.in_err-check_member.ensures)

pub check_child_part-returns : goal.check_child_part-returns
check_child_part-returns t c =
    let place = plain_place c.args.place.now c.args.vars.now in
    let p = part_of c.args.part in
    let child = judged_of c.in_ok-child.child in
    let body = plain_body c.in_ok-body.body in
    let made = ap (λ a. child_at (position a c.args.wanted) place child) (sym c.amount_of.ensures) ∙ c.in_ok-body.ensures in
    subst (Answers (λ _. plain_members c.add_child.new.checked.items) c.add_child.result)
    (sym (child-added place c.args.required c.args.wanted p child body (plain_members c.args.checked.now.items) c.in_ok-child.ensures.answer made)) c.add_child.ensures

pub check_children_part-returns : goal.check_children_part-returns
check_children_part-returns t c =
    let place = plain_place c.args.place.now c.args.vars.now in
    let p = part_of c.args.part in
    let js = map judged_of c.in_ok-children.children.items in
    let bs = map plain_body c.in_ok-bodies.bodies.items in
    subst (Answers (λ _. plain_members c.add_part.new.checked.items) c.add_part.result)
    (sym (children-added place c.args.wanted p js bs (plain_members c.args.checked.now.items) c.in_ok-children.ensures.answer c.in_ok-bodies.ensures)) (search (rules, the_lemmas, c.add_part.ensures))

pub check_slots-returns : goal.check_slots-returns
check_slots-returns t c =
    let place = plain_place c.args.place.now c.args.vars.now in
    let declared = c.args.declared.now in
    let contents = slots_in (member_of c.args.slots) in
    let gs = map content_of c.in_ok-slots.slots.items in
    let cs = map plain_content_given c.in_ok-contents.contents.items in
    let r = c.add_slots.result in
    let ms = plain_members c.add_slots.new.checked.items in
    subst (Answers (λ _. ms) r)
    (ap (λ n. added_part (plain_members c.args.checked.now.items) (arranged_slots n cs)) c.len.ensures
    ∙ sym (slots-added place declared contents gs cs (plain_members c.args.checked.now.items) c.in_ok-slots.ensures.answer c.in_ok-contents.ensures)) c.add_slots.ensures

pub check_member-returns-in-Some : goal.check_member-returns-in-Some
check_member-returns-in-Some t c =
    let place = plain_place c.args.place.now c.args.vars.now in
    let before = plain_members c.args.checked.now.items in
    let m = c.args.member in
    subst (Answers (λ _. plain_members c.check_part.new.checked.items) c.check_part.result)
    (ap (λ q. added_part before (checked_part place m.required m.form (part_of q))) c.into_inner.ensures
    ∙ part-added place m (part_of c.in-Some.part.value) before ∙ ap (λ o. added_one before (checked_member place m (member_of o))) (sym c.in-Some.is))
    c.check_part.ensures

pub check_template-returns-in_err-fill_body : goal.check_template-returns-in_err-fill_body
check_template-returns-in_err-fill_body t c =
    let place = plain_place c.args.place.now c.args.vars.now in
    let e = err_from_is_err_and c.from_residual-in_err-fill_body.result c.from_residual-in_err-fill_body.ensures.1 in
    rw (e.1, e.2) (subst (λ j. StopsAs c.in_err-fill_body.field-0.0 (j.check place)) (sym (judged_of-by c.args.template.now)) c.in_err-fill_body.ensures)

pub check_use-returns-in_err-add_props : goal.check_use-returns-in_err-add_props
check_use-returns-in_err-add_props t c =
    let place = plain_place c.args.place.now c.args.vars.now in
    let w = c.args.written.now in
    let key = plain_key_member c.args.key in
    let before = plain_members c.args.body.now.members.items in
    let one = plain_members c.add_component.new.checked.items in
    let found = plain_body_key_member c.add_key.new.checked in
    let s = signature c.in_ok-component.component.now in
    let why = c.in_err-add_props.field-0.0 in
    let e = err_from_is_err_and c.from_residual-in_err-add_props.result c.from_residual-in_err-add_props.ensures.1 in
    let keyed : optional_key place.names key ≡ Ok found = ap (λ names. optional_key names key) (sym c.names-names.ensures) ∙ c.in_ok-add_key.ensures in
    let props = subst (λ o. StopsAs why (added_part one (props_part place.names s.props (props_in (member_of o))))) c.take.ensures.value
    (subst (λ names. StopsAs why (added_part one (props_part names s.props (props_in (member_of c.take.result))))) c.names-names.ensures c.in_err-add_props.ensures) in
    rw (e.1, e.2) (use-props-stop place key (member_of w.first) (member_of w.second) (member_of w.third) before one s found why c.in_ok-component.ensures keyed props)

pub fill_body-returns-in_ok-add_key-in_default : goal.fill_body-returns-in_ok-add_key-in_default
fill_body-returns-in_ok-add_key-in_default t c =
    let place = plain_place c.args.place.now c.args.vars.now in
    let w = c.args.template.now in
    let key = plain_key_member w.key in
    let ps = parts_of w.members.items in
    let r = c.check_members.result in
    let ms = plain_members c.check_members.new.checked.items in
    let found = plain_body_key_member c.add_key.new.checked in
    let keyed : optional_key place.names key ≡ Ok found =
    ap (λ k. optional_key place.names (plain_key_member k)) (sym c.take-in_default.ensures.value)
    ∙ ap (λ names. optional_key names (plain_key_member c.take-in_default.result)) (sym c.names.ensures) ∙ c.in_ok-add_key-in_default.ensures in
    let members = subst (λ xs. Answers (λ _. ms) r (added (plain_members xs) (checked_members w.w place ps))) c.requires.empty c.check_members.ensures in
    subst (λ b. Answers (λ _. b) r (checked_template w.w key ps place)) (sym (plain_body-out _ ∙ ap (λ k. body_from k found ms) c.requires.kind))
    (other-filled w.w key found ps place ms r c.in_default.not-Use keyed members)

use Rattle.std.proofs.Common.{◌≡◌, ◌+◌, ◌≤◌, arith, None, IfSome, length, option_map, refl, sym, ap, ◌∙◌, subst}
use Rattle.std.proofs.lemmas.Result.{IfOk-weaker}
use Rattle.widget_model.specs.Plain.{look_of, widgets_of}
use Rattle.widget_model.specs.Typed.{Declarations, AreTypedWidgets}
use Rattle.widget_model.specs.View.{shared, plain_of, look_in}
use Rattle.widget_model.specs.declared.widgets.Widget.{Widget}
use Rattle.work_sets.specs.Due.{names_read}
use Rattle.build_form.proofs.Outcomes.{fault_map}
use Rattle.build_form.specs.BuildRole.{build_role_of}
use Rattle.build_form.specs.Entering.{given_by}
use Rattle.build_form.specs.Step.{gives}
use Rattle.build_form.specs.WellBuilt.{FitFields}
use Rattle.build_walk.specs.Counting.{built_here}
use Rattle.build_walk.specs.Kept.{plain_at_any}
use Rattle.build_walk.specs.Keeping.{kept_output}
use Rattle.build_owner.specs.Given.{given_to}
use Rattle.build_owner.specs.LastFrame.{IsOld}
use Rattle.build_owner.specs.Ready.{AreTypedOutputs}
use Rattle.build_owner.specs.WalkView.{declared_by, program_of}
use Rattle.build_owner.proofs.Children.{live_element}
use Rattle.build_owner.proofs.Drawn.{live_number}
use Rattle.build_owner.proofs.Gives.{as_long, still_live, kept_given, kept_counted, anew, anew_counted, some_number}
use Rattle.build_owner.proofs.giving.given_anew_or_kept.Goals as goal

pub kept_output-requires-clause-long : goal.kept_output-requires-clause-long
kept_output-requires-clause-long g c =
    ap length c.as_slice-was.ensures.value ∙ as_long _ c.args.names.now.was.items c.args.names.now.now.items c.requires.was c.requires.now ∙ sym (ap length c.as_slice-now.ensures.value)

pub kept_output-requires-clause-live : goal.kept_output-requires-clause-live
kept_output-requires-clause-live g c = still_live (declared_by c.args.from.now) c.args.t.now.tree c.args.owned.now.at c.args.owned.now.partner c.requires.element.partner

pub unreachable-requires : goal.unreachable-requires
unreachable-requires g c = live_number c.args.t.now.tree c.args.owned.now.at c.requires.element.live (sym c.in_default-number.is ∙ c.number.ensures)

-- ---- what its old element stores is kept

pub returns-in-Some-clause-ok : goal.returns-in-Some-clause-ok
returns-in-Some-clause-ok g c = λ f e s stored keeps olds.
    let told = (λ i. option_map (given_to (plain_of (sym c.deref.ensures i))) c.in_ok-kept.field-0) ∙ c.in_ok-kept.ensures.kept f keeps (subst (λ vs. IfSome c.args.owned.now.partner (IsOld f vs)) (sym c.as_slice-was.ensures.value) olds)
    ∙ (λ i. kept_output f.pasts (plain_at_any f.scrolled f.elements c.args.owned.now.partner) (plain_of (c.deref.ensures i)) (c.as_slice-now.ensures.value i)) in
    kept_given (kept_output f.pasts (plain_at_any f.scrolled f.elements c.args.owned.now.partner) (shared c.args.arrival.now.widget) c.args.names.now.now.items) (given_to (shared c.args.arrival.now.widget) c.in-Some.kept) _ s
    (sym (ap (option_map (given_to (shared c.args.arrival.now.widget))) c.in-Some.is) ∙ told)

pub returns-in-Some-clause-builds : goal.returns-in-Some-clause-builds
returns-in-Some-clause-builds g c = λ f keeps olds.
    let told = (λ i. option_map (given_to (plain_of (sym c.deref.ensures i))) c.in_ok-kept.field-0) ∙ c.in_ok-kept.ensures.kept f keeps (subst (λ vs. IfSome c.args.owned.now.partner (IsOld f vs)) (sym c.as_slice-was.ensures.value) olds)
    ∙ (λ i. kept_output f.pasts (plain_at_any f.scrolled f.elements c.args.owned.now.partner) (plain_of (c.deref.ensures i)) (c.as_slice-now.ensures.value i)) in
    kept_counted (names_read (look_of (shared c.args.arrival.now.widget))) (kept_output f.pasts (plain_at_any f.scrolled f.elements c.args.owned.now.partner) (shared c.args.arrival.now.widget) c.args.names.now.now.items)
    (given_to (shared c.args.arrival.now.widget) c.in-Some.kept) c.args.builds.now c.args.builds.now (sym (ap (option_map (given_to (shared c.args.arrival.now.widget))) c.in-Some.is) ∙ told) refl

pub returns-in-Some-clause-typed : goal.returns-in-Some-clause-typed
returns-in-Some-clause-typed g c =
    let d = declared_by c.args.from.now in
    let typed = subst (λ o. IfSome o (λ ws. (d : Declarations) → AreTypedOutputs d c.args.t.now.tree → AreTypedWidgets d (widgets_of (given_to (plain_of c.deref.result.now) ws)))) c.in-Some.is c.in_ok-kept.ensures.typed in
    subst (λ (v : Widget). AreTypedWidgets d (widgets_of (given_to (plain_of v) c.in-Some.kept))) c.deref.ensures (typed d c.requires.outputs)

pub returns-in-Some-clause-few : goal.returns-in-Some-clause-few
returns-in-Some-clause-few g c = λ place props e.
    subst (λ (v : Widget). length (given_to (plain_of v) c.in-Some.kept) ≤ 1) c.deref.ensures
    (subst (λ o. IfSome o (λ ws. length (given_to (plain_of c.deref.result.now) ws) ≤ 1)) c.in-Some.is c.in_ok-kept.ensures.few)

-- ---- it is given anew

pub given_by_body-requires-clause-fields : goal.given_by_body-requires-clause-fields
given_by_body-requires-clause-fields g c =
    let d = declared_by c.args.from.now in
    let e = live_element c.args.t.now.tree c.args.owned.now.at c.requires.element.live in
    subst (λ (v : Widget). FitFields d (build_role_of (look_in v.kind)) c.fields.result.now) (sym c.deref-2.ensures)
    (subst (FitFields d (build_role_of (look_of (shared c.args.arrival.now.widget)))) (sym (c.fields.ensures.live e.0 e.1)) (c.requires.element.fit e.0 e.1))

pub returns-clause-ok : goal.returns-clause-ok
returns-clause-ok g c =
    IfOk-weaker c.given_by_body.result _ _
    (λ ws h. λ f e s stored keeps olds.
    let told = (λ i. option_map (given_to (plain_of (sym c.deref.ensures i))) c.in_ok-kept.field-0) ∙ c.in_ok-kept.ensures.kept f keeps (subst (λ vs. IfSome c.args.owned.now.partner (IsOld f vs)) (sym c.as_slice-was.ensures.value) olds)
    ∙ (λ i. kept_output f.pasts (plain_at_any f.scrolled f.elements c.args.owned.now.partner) (plain_of (c.deref.ensures i)) (c.as_slice-now.ensures.value i)) in
    let none = sym (ap (option_map (given_to (shared c.args.arrival.now.widget))) c.in_default.is) ∙ told in
    let same : c.in-Some-number.number ≡ e.number = some_number c.in-Some-number.number e.number (sym c.in-Some-number.is ∙ c.number.ensures ∙ ap (option_map (λ x. x.number)) stored) in
    anew (kept_output f.pasts (plain_at_any f.scrolled f.elements c.args.owned.now.partner) (shared c.args.arrival.now.widget) c.args.names.now.now.items) _ s none
    ∙ (λ i. given_by (program_of c.args.from.now) (build_role_of (look_in (sym c.deref-2.ensures i).kind)) (sym c.as_slice-now.ensures.value i) (sym same i) (sym (c.fields.ensures.live e stored) i) (plain_of (sym c.deref-2.ensures i)) s)
    ∙ h s
    ∙ (λ i. gives (given_to (plain_of (c.deref-2.ensures i)) ws) s))
    c.given_by_body.ensures.ok

pub returns-clause-fault : goal.returns-clause-fault
returns-clause-fault g c =
    fault_map _ _ c.given_by_body.result
    (λ y h. λ f e s stored keeps olds.
    let told = (λ i. option_map (given_to (plain_of (sym c.deref.ensures i))) c.in_ok-kept.field-0) ∙ c.in_ok-kept.ensures.kept f keeps (subst (λ vs. IfSome c.args.owned.now.partner (IsOld f vs)) (sym c.as_slice-was.ensures.value) olds)
    ∙ (λ i. kept_output f.pasts (plain_at_any f.scrolled f.elements c.args.owned.now.partner) (plain_of (c.deref.ensures i)) (c.as_slice-now.ensures.value i)) in
    let none = sym (ap (option_map (given_to (shared c.args.arrival.now.widget))) c.in_default.is) ∙ told in
    let same : c.in-Some-number.number ≡ e.number = some_number c.in-Some-number.number e.number (sym c.in-Some-number.is ∙ c.number.ensures ∙ ap (option_map (λ x. x.number)) stored) in
    anew (kept_output f.pasts (plain_at_any f.scrolled f.elements c.args.owned.now.partner) (shared c.args.arrival.now.widget) c.args.names.now.now.items) _ s none
    ∙ (λ i. given_by (program_of c.args.from.now) (build_role_of (look_in (sym c.deref-2.ensures i).kind)) (sym c.as_slice-now.ensures.value i) (sym same i) (sym (c.fields.ensures.live e stored) i) (plain_of (sym c.deref-2.ensures i)) s)
    ∙ h s)
    c.given_by_body.ensures.fault

pub returns-clause-builds : goal.returns-clause-builds
returns-clause-builds g c =
    IfOk-weaker c.given_by_body.result _ _
    (λ _ h. λ f keeps olds.
    let told = (λ i. option_map (given_to (plain_of (sym c.deref.ensures i))) c.in_ok-kept.field-0) ∙ c.in_ok-kept.ensures.kept f keeps (subst (λ vs. IfSome c.args.owned.now.partner (IsOld f vs)) (sym c.as_slice-was.ensures.value) olds)
    ∙ (λ i. kept_output f.pasts (plain_at_any f.scrolled f.elements c.args.owned.now.partner) (plain_of (c.deref.ensures i)) (c.as_slice-now.ensures.value i)) in
    anew_counted (names_read (look_of (shared c.args.arrival.now.widget))) (kept_output f.pasts (plain_at_any f.scrolled f.elements c.args.owned.now.partner) (shared c.args.arrival.now.widget) c.args.names.now.now.items)
    c.args.builds.now c.given_by_body.new.builds (sym (ap (option_map (given_to (shared c.args.arrival.now.widget))) c.in_default.is) ∙ told) (h ∙ ap (λ (v : Widget). c.args.builds.now + built_here (names_read (look_in v.kind)) None) c.deref-2.ensures))
    c.given_by_body.ensures.builds

pub returns-clause-builds_at_fault : goal.returns-clause-builds_at_fault
returns-clause-builds_at_fault g c =
    fault_map _ _ c.given_by_body.result
    (λ y h. λ f keeps olds.
    let told = (λ i. option_map (given_to (plain_of (sym c.deref.ensures i))) c.in_ok-kept.field-0) ∙ c.in_ok-kept.ensures.kept f keeps (subst (λ vs. IfSome c.args.owned.now.partner (IsOld f vs)) (sym c.as_slice-was.ensures.value) olds)
    ∙ (λ i. kept_output f.pasts (plain_at_any f.scrolled f.elements c.args.owned.now.partner) (plain_of (c.deref.ensures i)) (c.as_slice-now.ensures.value i)) in
    anew_counted (names_read (look_of (shared c.args.arrival.now.widget))) (kept_output f.pasts (plain_at_any f.scrolled f.elements c.args.owned.now.partner) (shared c.args.arrival.now.widget) c.args.names.now.now.items)
    c.args.builds.now c.given_by_body.new.builds (sym (ap (option_map (given_to (shared c.args.arrival.now.widget))) c.in_default.is) ∙ told) (h ∙ ap (λ (v : Widget). c.args.builds.now + built_here (names_read (look_in v.kind)) None) c.deref-2.ensures))
    c.given_by_body.ensures.builds_at_fault

pub returns-clause-typed : goal.returns-clause-typed
returns-clause-typed g c =
    let d = declared_by c.args.from.now in
    IfOk-weaker c.given_by_body.result _ _
    (λ ws h. subst (λ (v : Widget). AreTypedWidgets d (widgets_of (given_to (plain_of v) ws))) c.deref-2.ensures h)
    c.given_by_body.ensures.typed

pub returns-clause-few : goal.returns-clause-few
returns-clause-few g c =
    IfOk-weaker c.given_by_body.result _ _
    (λ ws h. λ place props e.
    let one = h place props (ap (λ (v : Widget). build_role_of (look_in v.kind)) c.deref-2.ensures ∙ e) in
    let same = ap (λ (v : Widget). length (given_to (plain_of v) ws)) c.deref-2.ensures in
    omega (arith, one, same))
    c.given_by_body.ensures.one

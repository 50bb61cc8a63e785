use Rattle.std.proofs.Common.{◌+◌, ◌∙◌, Some, map, sym, ap, subst}
use Rattle.std.proofs.lemmas.Result.{IfOk-weaker}
use Rattle.node_tree.specs.Tree.{subtree_at}
use Rattle.widget_model.specs.declared.widgets.Widget.{Widget}
use Rattle.widget_model.specs.View.{plain_of, shared}
use Rattle.program_check.specs.CheckedView.{plain_checked}
use Rattle.template_build.specs.Program.{declarations_of}
use Rattle.build_form.proofs.Outcomes.{fault_map}
use Rattle.build_walk.specs.Telling.{TellPasts}
use Rattle.build_owner.proofs.Elements.{live_stored}
use Rattle.renewed_builds.proofs.Anew.{body_told, role_told, count_told, is_given, widget_typed, fields_typed, widget_is}
use Rattle.renewed_builds.proofs.renewing.give.Goals as goal

pub values_at-requires-clause-live : goal.values_at-requires-clause-live
values_at-requires-clause-live g c = live_stored c.args.t.now.tree c.args.h c.requires.element c.requires.at

pub values_at-requires-clause-fits : goal.values_at-requires-clause-fits
values_at-requires-clause-fits g c = λ checked k e is.
    let x = c.requires in
    c.standing_elements_are_known.ensures.names (plain_checked c.args.checked.now) x.marks (Some x.tree) x.scrolled c.args.t.now.tree k e checked x.stands is

pub given_anew-requires-clause-typed : goal.given_anew-requires-clause-typed
given_anew-requires-clause-typed g c =
    let C = plain_checked c.args.checked.now in
    let t = c.args.t.now.tree in
    let h = c.args.h in
    let x = c.requires in
    let live = live_stored t h x.element x.at in
    let built = c.standing_elements_are_known.ensures.built C x.marks (Some x.tree) x.scrolled t h c.in_ok-values.ensures.checked x.stands live in
    widget_typed c.kept_elements_are_known.ensures.node c.walk_laws.ensures.holds (declarations_of C) t c.number_laws.ensures.tree h x.element (live, built.0, built.1) x.at (plain_of c.deref.result.now)
    (widget_is C t h x (plain_of c.deref.result.now) (ap (λ (w : Widget). Some (plain_of w)) c.deref.ensures ∙ c.in-Some.ensures))

pub given_anew-requires-clause-fields : goal.given_anew-requires-clause-fields
given_anew-requires-clause-fields g c =
    let C = plain_checked c.args.checked.now in
    let t = c.args.t.now.tree in
    let h = c.args.h in
    let x = c.requires in
    let live = live_stored t h x.element x.at in
    let built = c.standing_elements_are_known.ensures.built C x.marks (Some x.tree) x.scrolled t h c.in_ok-values.ensures.checked x.stands live in
    fields_typed c.kept_elements_are_known.ensures.node c.walk_laws.ensures.holds (declarations_of C) t c.number_laws.ensures.tree h x.element (live, built.0, built.1) x.at (plain_of c.deref.result.now) c.fields.result.now
    (widget_is C t h x (plain_of c.deref.result.now) (ap (λ (w : Widget). Some (plain_of w)) c.deref.ensures ∙ c.in-Some.ensures)) (c.fields.ensures.live x.element x.at)

pub returns-clause-given : goal.returns-clause-given
returns-clause-given g c =
    let C = plain_checked c.args.checked.now in
    let t = c.args.t.now.tree in
    let h = c.args.h in
    let holds = c.walk_laws.ensures.holds t h c.number_laws.ensures.tree (live_stored t h c.requires.element c.requires.at) in
    IfOk-weaker c.given_anew.result _ _
    (λ ws gave x. is_given C t h x (map shared ws.items) (λ s.
    body_told C t h (c.walk_laws.ensures.subtree t) c.number_laws.ensures.once (λ e is. c.child_laws.ensures.opened t h e holds is)
    (λ y. c.standing_elements_are_known.ensures.tells C y.marks (Some y.tree) y.scrolled t y.stands) c.as_slice.result.now c.fields.result.now c.in-Some-number.number (plain_of c.deref.result.now)
    (λ known f is tells. subst (λ vs. TellPasts known vs (subtree_at t h)) (sym c.as_slice.ensures.value) (c.in_ok-values.ensures.told known f is tells))
    (ap (λ (w : Widget). Some (plain_of w)) c.deref.ensures ∙ c.in-Some.ensures) c.in-Some-number.ensures c.fields.ensures.live x s
    ∙ gave s))
    c.given_anew.ensures.ok

pub returns-clause-fault : goal.returns-clause-fault
returns-clause-fault g c =
    let C = plain_checked c.args.checked.now in
    let t = c.args.t.now.tree in
    let h = c.args.h in
    let holds = c.walk_laws.ensures.holds t h c.number_laws.ensures.tree (live_stored t h c.requires.element c.requires.at) in
    fault_map _ _ c.given_anew.result
    (λ f stopped x s.
    body_told C t h (c.walk_laws.ensures.subtree t) c.number_laws.ensures.once (λ e is. c.child_laws.ensures.opened t h e holds is)
    (λ y. c.standing_elements_are_known.ensures.tells C y.marks (Some y.tree) y.scrolled t y.stands) c.as_slice.result.now c.fields.result.now c.in-Some-number.number (plain_of c.deref.result.now)
    (λ known f is tells. subst (λ vs. TellPasts known vs (subtree_at t h)) (sym c.as_slice.ensures.value) (c.in_ok-values.ensures.told known f is tells))
    (ap (λ (w : Widget). Some (plain_of w)) c.deref.ensures ∙ c.in-Some.ensures) c.in-Some-number.ensures c.fields.ensures.live x s
    ∙ stopped s)
    c.given_anew.ensures.fault

pub returns-clause-one : goal.returns-clause-one
returns-clause-one g c =
    let C = plain_checked c.args.checked.now in
    let t = c.args.t.now.tree in
    let h = c.args.h in
    let holds = c.walk_laws.ensures.holds t h c.number_laws.ensures.tree (live_stored t h c.requires.element c.requires.at) in
    let role = role_told C t h (c.walk_laws.ensures.subtree t) c.number_laws.ensures.once (λ e is. c.child_laws.ensures.opened t h e holds is)
    (λ y. c.standing_elements_are_known.ensures.tells C y.marks (Some y.tree) y.scrolled t y.stands) c.as_slice.result.now c.fields.result.now c.in-Some-number.number (plain_of c.deref.result.now)
    (λ known f is tells. subst (λ vs. TellPasts known vs (subtree_at t h)) (sym c.as_slice.ensures.value) (c.in_ok-values.ensures.told known f is tells))
    (ap (λ (w : Widget). Some (plain_of w)) c.deref.ensures ∙ c.in-Some.ensures) c.in-Some-number.ensures c.fields.ensures.live c.requires in
    IfOk-weaker c.given_anew.result _ _ (λ ws one. one role.0 role.1 role.2) c.given_anew.ensures.one

pub returns-clause-builds : goal.returns-clause-builds
returns-clause-builds g c =
    let C = plain_checked c.args.checked.now in
    let t = c.args.t.now.tree in
    let h = c.args.h in
    let holds = c.walk_laws.ensures.holds t h c.number_laws.ensures.tree (live_stored t h c.requires.element c.requires.at) in
    let count = count_told C t h (c.walk_laws.ensures.subtree t) c.number_laws.ensures.once (λ e is. c.child_laws.ensures.opened t h e holds is)
    (λ y. c.standing_elements_are_known.ensures.tells C y.marks (Some y.tree) y.scrolled t y.stands) c.as_slice.result.now c.fields.result.now c.in-Some-number.number (plain_of c.deref.result.now)
    (λ known f is tells. subst (λ vs. TellPasts known vs (subtree_at t h)) (sym c.as_slice.ensures.value) (c.in_ok-values.ensures.told known f is tells))
    (ap (λ (w : Widget). Some (plain_of w)) c.deref.ensures ∙ c.in-Some.ensures) c.in-Some-number.ensures c.fields.ensures.live c.requires in
    IfOk-weaker c.given_anew.result _ _ (λ ws counted. counted ∙ ap (λ n. c.args.builds.now + n) count) c.given_anew.ensures.builds

pub returns-clause-builds_at_fault : goal.returns-clause-builds_at_fault
returns-clause-builds_at_fault g c =
    let C = plain_checked c.args.checked.now in
    let t = c.args.t.now.tree in
    let h = c.args.h in
    let holds = c.walk_laws.ensures.holds t h c.number_laws.ensures.tree (live_stored t h c.requires.element c.requires.at) in
    let count = count_told C t h (c.walk_laws.ensures.subtree t) c.number_laws.ensures.once (λ e is. c.child_laws.ensures.opened t h e holds is)
    (λ y. c.standing_elements_are_known.ensures.tells C y.marks (Some y.tree) y.scrolled t y.stands) c.as_slice.result.now c.fields.result.now c.in-Some-number.number (plain_of c.deref.result.now)
    (λ known f is tells. subst (λ vs. TellPasts known vs (subtree_at t h)) (sym c.as_slice.ensures.value) (c.in_ok-values.ensures.told known f is tells))
    (ap (λ (w : Widget). Some (plain_of w)) c.deref.ensures ∙ c.in-Some.ensures) c.in-Some-number.ensures c.fields.ensures.live c.requires in
    fault_map _ _ c.given_anew.result (λ f counted. counted ∙ ap (λ n. c.args.builds.now + n) count) c.given_anew.ensures.builds_at_fault

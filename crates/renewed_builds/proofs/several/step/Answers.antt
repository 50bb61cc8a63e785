use Rattle.std.proofs.Common.{◌≡◌, ◌∙◌, List, Some, Ok, option_map, map, refl, sym, ap, subst}
use Rattle.std.proofs.lemmas.Result.{err_from_is_err_and}
use Rattle.node_tree.specs.Forest.{below}
use Rattle.node_tree.specs.Tree.{Is, node_at}
use Rattle.widget_model.specs.Plain.{PlainWidget}
use Rattle.widget_model.specs.View.{shared}
use Rattle.program_check.specs.CheckedView.{plain_checked}
use Rattle.plain_tree.specs.PlainNode.{nodes_of as listed}
use Rattle.build_form.specs.Program.{blueprint_of}
use Rattle.element_tree.specs.Element.{Element}
use Rattle.settled_builds.specs.Settled.{AreSettled}
use Rattle.settled_builds.specs.Steps.{IsGivenAt}
use Rattle.build_owner.proofs.Elements.{live_stored}
use Rattle.renewed_builds.specs.Renewing.{stored_at}
use Rattle.renewed_builds.specs.Taking.{HaveTheirOwn}
use Rattle.renewed_builds.proofs.InTurn.{rows_below}
use Rattle.renewed_builds.proofs.Retaken.{number_live}
use Rattle.renewed_builds.proofs.Stored.{one_given, nodes_same}
use Rattle.renewed_builds.proofs.several.step.Goals as goal

pub give-requires : goal.give-requires
give-requires g c = c.requires.0

pub store-requires-clause-live : goal.store-requires-clause-live
store-requires-clause-live g c = live_stored c.args.t.now.tree c.args.h c.requires.0.element c.requires.0.at

pub gather_still-requires-clause-live : goal.gather_still-requires-clause-live
gather_still-requires-clause-live g c =
    let u = c.store.new.t.tree in
    let h = c.args.h in
    let x = c.requires.0 in
    number_live u h x.element.number (node_at u h) refl (c.in_ok-store.ensures.numbers h ∙ ap (option_map (λ (e : Element). e.number)) x.at)

pub gather_still-requires-clause-own : goal.gather_still-requires-clause-own
gather_still-requires-clause-own g c =
    let u = c.store.new.t.tree in
    let h = c.args.h in
    let x = c.requires.0 in
    let ws = map shared c.as_slice.result.now in
    let f = x.stands.forest in
    let live = number_live u h x.element.number (node_at u h) refl (c.in_ok-store.ensures.numbers h ∙ ap (option_map (λ (e : Element). e.number)) x.at) in
    let part = c.walk_laws.ensures.part u (stored_at h ws f) h (c.in_ok-store.ensures.stored f x.stands.is) live in
    let settled = subst (λ ns. AreSettled (listed ns)) (x.stands.nodes ∙ sym (nodes_same h ws x.scrolled f)) (c.requires.1, tt) in
    subst (λ s. HaveTheirOwn (below s)) (sym part) (rows_below x.scrolled h (stored_at h ws f) settled).0

pub returns-clause-stepped : goal.returns-clause-stepped
returns-clause-stepped g c = λ x.
    let C = plain_checked c.args.checked.now in
    let u = c.store.new.t.tree in
    let h = c.args.h in
    let w : PlainWidget = shared c.index.result.now in
    let alone = one_given c.in_ok-given.given.items c.index.result.now c.in_ok-given.ensures.one c.index.ensures in
    record {
      widget = w;
      given = subst (λ (vs : List PlainWidget). IsGivenAt (blueprint_of C) vs x.place) alone (c.in_ok-given.ensures.given x);
      stored = λ f is.
          subst (λ (vs : List PlainWidget). Is u (stored_at h vs f)) alone (subst (λ xs. Is u (stored_at h (map shared xs) f)) c.as_slice.ensures.value (c.in_ok-store.ensures.stored f is));
      can_is = c.in_ok-gather_still.ensures.can;
      changes = λ can. c.in_ok-gather_still.ensures.changes (ap Ok can);
    }

pub returns-clause-holds : goal.returns-clause-holds
returns-clause-holds g c =
    let u = c.store.new.t.tree in
    let h = c.args.h in
    let x = c.requires.0 in
    let live = number_live u h x.element.number (node_at u h) refl (c.in_ok-store.ensures.numbers h ∙ ap (option_map (λ (e : Element). e.number)) x.at) in
    c.walk_laws.ensures.holds u h c.number_laws-2.ensures.tree live

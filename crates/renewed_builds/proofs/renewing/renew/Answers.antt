use Rattle.std.proofs.Common.{◌≡◌, ◌∙◌, List, true, false, Some, Ok, option_map, map, refl, sym, ap, subst}
use Rattle.node_tree.specs.Forest.{below}
use Rattle.node_tree.specs.Tree.{Is, node_at}
use Rattle.widget_model.specs.Plain.{PlainWidget}
use Rattle.widget_model.specs.View.{shared}
use Rattle.program_check.specs.CheckedView.{plain_checked}
use Rattle.plain_tree.specs.PlainNode.{nodes_of as listed}
use Rattle.build_form.specs.FaultView.{fault_of}
use Rattle.build_form.specs.Program.{blueprint_of}
use Rattle.build_form.proofs.Outcomes.{some_map}
use Rattle.element_tree.specs.Element.{Element, Elements}
use Rattle.settled_builds.specs.Settled.{AreSettled}
use Rattle.build_owner.specs.Standing.{next_at}
use Rattle.build_owner.proofs.Elements.{live_stored}
use Rattle.renewed_builds.specs.Renewing.{can_take_at, changes_at, stored_at, taken_at}
use Rattle.renewed_builds.specs.Taking.{StandInTurn, HaveTheirOwn}
use Rattle.renewed_builds.proofs.Anew.{component_of, is_spot}
use Rattle.renewed_builds.proofs.InTurn.{rows_below}
use Rattle.renewed_builds.proofs.Renewed.{left_to_build, renewed_so}
use Rattle.renewed_builds.proofs.Retaken.{number_live}
use Rattle.renewed_builds.proofs.Stored.{one_given, one_shared, nodes_same, stores_given, none_flagged}
use Rattle.renewed_builds.proofs.renewing.renew.Goals as goal

pub give-requires : goal.give-requires
give-requires g c =
    let C = plain_checked c.args.checked.now in
    let t = c.args.t.now.tree in
    let x = c.requires in
    component_of C t c.args.h x (c.first_components_stand.ensures.component (blueprint_of C) x.marks x.element.number (next_at t) x.root x.tree x.place x.ready x.first)

pub store-requires-clause-live : goal.store-requires-clause-live
store-requires-clause-live g c = live_stored c.args.t.now.tree c.args.h c.requires.element c.requires.at

pub take_below-requires-clause-own : goal.take_below-requires-clause-own
take_below-requires-clause-own g c =
    let t = c.args.t.now.tree in
    let u = c.store.new.t.tree in
    let h = c.args.h in
    let x = c.requires in
    let ws = map shared c.as_slice.result.now in
    let f = x.stands.forest in
    let live = number_live u h x.element.number (node_at u h) refl (c.in-Ok-store.ensures.numbers h ∙ ap (option_map (λ (e : Element). e.number)) x.at) in
    let part = c.walk_laws.ensures.part u (stored_at h ws f) h (c.in-Ok-store.ensures.stored f x.stands.is) live in
    let settled = subst (λ ns. AreSettled (listed ns)) (x.stands.nodes ∙ sym (nodes_same h ws x.scrolled f)) (x.ready.settled, tt) in
    subst (λ s. HaveTheirOwn (below s)) (sym part) (rows_below x.scrolled h (stored_at h ws f) settled).0

pub take_below-requires-clause-order : goal.take_below-requires-clause-order
take_below-requires-clause-order g c =
    let t = c.args.t.now.tree in
    let u = c.store.new.t.tree in
    let h = c.args.h in
    let x = c.requires in
    let ws = map shared c.as_slice.result.now in
    let f = x.stands.forest in
    let live = number_live u h x.element.number (node_at u h) refl (c.in-Ok-store.ensures.numbers h ∙ ap (option_map (λ (e : Element). e.number)) x.at) in
    let part = c.walk_laws.ensures.part u (stored_at h ws f) h (c.in-Ok-store.ensures.stored f x.stands.is) live in
    let settled = subst (λ ns. AreSettled (listed ns)) (x.stands.nodes ∙ sym (nodes_same h ws x.scrolled f)) (x.ready.settled, tt) in
    subst (λ s. StandInTurn 0 (below s)) (sym part) (rows_below x.scrolled h (stored_at h ws f) settled).1

pub returns-in-Err-clause-fault : goal.returns-in-Err-clause-fault
returns-in-Err-clause-fault g c =
    let C = plain_checked c.args.checked.now in
    let t = c.args.t.now.tree in
    let b = blueprint_of C in
    some_map _ _ (fault_of c.in-Err.e) (λ f stopped. λ x screen.
    c.first_components_stop_builds.ensures.whole b screen x.marks x.element.number (next_at t) x.root x.tree x.place f x.ready x.first
    (stopped (component_of C t c.args.h x (c.first_components_stand.ensures.component b x.marks x.element.number (next_at t) x.root x.tree x.place x.ready x.first))))
    c.in-Err.ensures.fault

pub returns-in-Err-clause-all_builds_at_fault : goal.returns-in-Err-clause-all_builds_at_fault
returns-in-Err-clause-all_builds_at_fault g c =
    let C = plain_checked c.args.checked.now in
    let t = c.args.t.now.tree in
    let b = blueprint_of C in
    some_map _ _ (fault_of c.in-Err.e) (λ f stopped. λ x screen.
    c.first_components_stop_builds.ensures.builds b screen x.marks x.element.number (next_at t) x.root x.tree x.place f x.ready x.first
    (stopped (component_of C t c.args.h x (c.first_components_stand.ensures.component b x.marks x.element.number (next_at t) x.root x.tree x.place x.ready x.first))))
    c.in-Err.ensures.fault

pub returns-clause-renewed : goal.returns-clause-renewed
returns-clause-renewed g c =
    some_map _ _ c.in-Ok-take_below.changes (λ changes took. λ x.
    let C = plain_checked c.args.checked.now in
    let b = blueprint_of C in
    let t = c.args.t.now.tree in
    let u = c.store.new.t.tree in
    let v = c.take_below.new.t.tree in
    let h = c.args.h in
    let ws = map shared c.in-Ok.given.items in
    let once = c.number_laws.ensures.once in
    let tells = c.standing_elements_are_known.ensures.tells C x.marks (Some x.tree) x.scrolled t x.stands in
    let y = component_of C t h x (c.first_components_stand.ensures.component b x.marks x.element.number (next_at t) x.root x.tree x.place x.ready x.first) in
    let spot = is_spot C t h y (c.walk_laws.ensures.subtree t) once tells in
    let given = c.in-Ok.ensures.given y in
    let stored = subst (λ xs. Is u (stored_at h (map shared xs) x.stands.forest)) c.as_slice.ensures.value (c.in-Ok-store.ensures.stored x.stands.forest x.stands.is) in
    let made = c.in-Ok-store.ensures.handles.inserted in
    let single = one_shared c.in-Ok.given.items c.in-Ok.ensures.one in
    let stores = stores_given C t u h x spot ws given single once tells stored c.in-Ok-store.ensures.root made in
    let clear = none_flagged C t u h x spot ws given single once tells stored c.in-Ok-store.ensures.root made in
    let f = stores.stands.forest in
    let alone = one_given c.in-Ok.given.items c.index.result.now c.in-Ok.ensures.one c.index.ensures in
    let parts = subst (λ (vs : List PlainWidget). (can_take_at h vs f ≡ true) × (changes.items ≡ changes_at h vs f) × Is v (taken_at h vs f)) (sym alone) (took f stores.stands.is) in
    let numbers = c.in-Ok-store.ensures.numbers in
    let here = ap (option_map (λ (e : Element). e.number)) x.at in
    renewed_so C t u h x ws given stores clear (live_stored t h x.element x.at) spot (c.walk_laws.ensures.subtree t) c.retaken_trees_are_ready.ensures c.steps_lead.ensures c.ready_trees_settle.ensures.settled c.settled_trees_stay.ensures.tree made parts.0
    (numbers h ∙ here) (λ k is. once x.element.number k h (sym (numbers k) ∙ is) here) v changes.items c.in-Ok.ensures.checked parts.2 c.in-Ok-take_below.ensures.root c.in-Ok-take_below.ensures.handles parts.1)
    c.in-Ok-take_below.ensures.taken

pub returns-clause-left : goal.returns-clause-left
returns-clause-left g c = λ none. λ x.
    let C = plain_checked c.args.checked.now in
    let b = blueprint_of C in
    let t = c.args.t.now.tree in
    let u = c.store.new.t.tree in
    let v = c.take_below.new.t.tree in
    let h = c.args.h in
    let ws = map shared c.in-Ok.given.items in
    let once = c.number_laws.ensures.once in
    let tells = c.standing_elements_are_known.ensures.tells C x.marks (Some x.tree) x.scrolled t x.stands in
    let y = component_of C t h x (c.first_components_stand.ensures.component b x.marks x.element.number (next_at t) x.root x.tree x.place x.ready x.first) in
    let spot = is_spot C t h y (c.walk_laws.ensures.subtree t) once tells in
    let given = c.in-Ok.ensures.given y in
    let stored = subst (λ xs. Is u (stored_at h (map shared xs) x.stands.forest)) c.as_slice.ensures.value (c.in-Ok-store.ensures.stored x.stands.forest x.stands.is) in
    let made = c.in-Ok-store.ensures.handles.inserted in
    let single = one_shared c.in-Ok.given.items c.in-Ok.ensures.one in
    let stores = stores_given C t u h x spot ws given single once tells stored c.in-Ok-store.ensures.root made in
    let refused = c.in-Ok-take_below.ensures.refused (ap Ok none) in
    let alone = one_given c.in-Ok.given.items c.index.result.now c.in-Ok.ensures.one c.index.ensures in
    let cannot = subst (λ (vs : List PlainWidget). can_take_at h vs stores.stands.forest ≡ false) (sym alone) (refused.1 stores.stands.forest stores.stands.is) in
    left_to_build C t u h x ws given stores v (ap (λ (z : Elements). z.tree) refused.0) cannot

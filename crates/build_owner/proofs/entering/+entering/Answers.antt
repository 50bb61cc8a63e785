use Rattle.std.proofs.Common.{◌≡◌, ℕ, suc, ◌+◌, ◌-◌, ◌<◌, ◌≤◌, ◌++◌, ◌∷◌, [], rules, Bool, true, false, List, Some, None, length, map, take, drop, IfSome, option_map, refl, sym, ap, ◌∙◌, subst, arith}
use Rattle.std.specs.List.{All}
use Rattle.std.proofs.lemmas.List.{take_all, length-map, map-append}
use Rattle.std.proofs.lemmas.Result.{err_from_is_err_and}
use Rattle.fx_expr.specs.declared.values.Value.{Value}
use Rattle.fx_expr.specs.Value.{type_of}
use Rattle.fx_handles.specs.declared.Handle.{Handle}
use Rattle.node_tree.specs.Forest.Forest.{none, tree}
use Rattle.node_tree.specs.Plan.{planned}
use Rattle.node_tree.specs.Tree.{IsNode}
use Rattle.render_tree.specs.Tree.{object_at}
use Rattle.widget_model.specs.declared.widgets.Widget.{Widget}
use Rattle.widget_model.specs.Plain.{PlainWidget, widgets_of, look_of}
use Rattle.widget_model.specs.Typed.{IsTypedWidget}
use Rattle.widget_model.specs.View.{plain_of, shared, look_in, slots_in}
use Rattle.plain_tree.specs.Projection.{told_at, told_by}
use Rattle.plain_tree.specs.RenderRole.{render_role_of, vanishes}
use Rattle.build_form.specs.BuildRole.{build_role_of}
use Rattle.build_form.specs.Entering.{Phase, values_below, waits, entered_below}
use Rattle.build_form.specs.FaultView.{fault_of}
use Rattle.build_form.specs.Step.{each, gives}
use Rattle.build_form.specs.Numbered.{IsInPlace}
use Rattle.build_form.specs.Filling.{FitsNames}
use Rattle.build_form.specs.Partner.{Arrival as PlainArrival, arrivals}
use Rattle.build_form.specs.WellBuilt.{IsWellBuilt}
use Rattle.build_form.proofs.Filled.{fits_names}
use Rattle.build_form.proofs.Outcomes.{some_map}
use Rattle.build_walk.specs.Counting.{builds_from, builds_below, builds_by_each, builds_opening}
use Rattle.build_walk.specs.Entered.{IsEntered, AreEntered}
use Rattle.build_walk.specs.Keeping.{reopened, reenter}
use Rattle.build_walk.specs.Kept.{plain_at, plain_at_any}
use Rattle.build_walk.specs.Renewing.{role_of}
use Rattle.build_walk.specs.Walked.{WalkPlace, element_entry, render_entry, through, under, list_at, planned_through, planned_under, without_tops}
use Rattle.build_owner.specs.declared.arriving.Arrival.{Arrival}
use Rattle.build_owner.specs.declared.names.Outer.{Outer}
use Rattle.build_owner.specs.declared.walk.WaitingSpot.{WaitingSpot}
use Rattle.build_owner.specs.declared.walk.BuildWalk.{BuildWalk}
use Rattle.build_owner.specs.ArrivalView.{arrived}
use Rattle.build_owner.specs.Climbing.{AreAllFitting}
use Rattle.build_owner.specs.Entry.{IsTypedElement, AreTypedSpots, AreOldSpots, with_element, half_of}
use Rattle.build_owner.specs.Given.{given_to}
use Rattle.build_owner.specs.LastFrame.{IsOld}
use Rattle.build_owner.specs.Naming.{AreHeld}
use Rattle.build_owner.specs.Ready.{IsTypedArrival}
use Rattle.build_owner.specs.NamesView.{with_outer, outer_now, outer_was, was_around}
use Rattle.build_owner.specs.WalkView.{basis_of, declared_by, phase_of, place_of, plain_arrival, progress_of, list_for, waiting_of, plans_of}
use Rattle.build_owner.proofs.Cycling.{planned_plans, seen_alone, whole_half, entered_as, below_as, draws_none, draws_one, drawn_there, planned_shown, waiting_progress, waiting_half, list_same, waits_as, all_as, ready_same, spot_pushed, old_pushed, ok_both, some_both, none_built, two_built}
use Rattle.build_owner.proofs.Children.{live_element}
use Rattle.build_owner.proofs.Going.{KnowsBelow, typed_arriving, any_typed, old_arriving, come_below}
use Rattle.build_owner.proofs.Holding.{held_planned}
use Rattle.build_owner.proofs.Had.{had_apart, standing_below}
use Rattle.build_owner.proofs.Makings.{makes_none, makes_more}
use Rattle.build_owner.proofs.Later.{spots_later, arrival_later, taken_more, split_at}
use Rattle.build_owner.proofs.entering.+entering.Goals as goal

-- ---- a widget

pub enter-returns-then-left-eq0-clause-fault : goal.enter-returns-then-left-eq0-clause-fault
enter-returns-then-left-eq0-clause-fault g t c = λ f since old.
    c.widgets_stop.ensures.depth (basis_of c.args.from.now f) f.pasts (phase_of c.args.phase) c.args.left c.args.names.now.now.items (plain_arrival f c.args.arrival.now)
    (progress_of f c.args.walk.now c.args.g.now c.args.t.now.tree) c.if-left-eq0.true

pub enter-returns-then-left-eq0-clause-builds_at_fault : goal.enter-returns-then-left-eq0-clause-builds_at_fault
enter-returns-then-left-eq0-clause-builds_at_fault g t c = λ f since old.
    none_built c.args.builds.now _ (c.builds_are_counted_in_turn.ensures.depth (basis_of c.args.from.now f) f.pasts (phase_of c.args.phase) c.args.left c.args.names.now.now.items (plain_arrival f c.args.arrival.now)
    (progress_of f c.args.walk.now c.args.g.now c.args.t.now.tree) c.if-left-eq0.true)

pub enter-returns-in_err-opening-clause-fault : goal.enter-returns-in_err-opening-clause-fault
enter-returns-in_err-opening-clause-fault g t c =
    let p = err_from_is_err_and c.from_residual.result c.from_residual.ensures.1 in
    let k : c.args.left ≡ suc (c.args.left - 1) = omega arith in
    rw (p.1, p.2) (some_map _ _ (fault_of c.in_err-opening.field-0.0)
    (λ x h. λ f since old. c.widgets_stop.ensures.opened (basis_of c.args.from.now f) f.pasts (phase_of c.args.phase) c.args.left (c.args.left - 1) c.args.names.now.now.items (plain_arrival f c.args.arrival.now)
    (progress_of f c.args.walk.now c.args.g.now c.args.t.now.tree) x k (h f since old))
    c.in_err-opening.ensures.fault)

pub enter-returns-in_err-opening-clause-builds_at_fault : goal.enter-returns-in_err-opening-clause-builds_at_fault
enter-returns-in_err-opening-clause-builds_at_fault g t c =
    let p = err_from_is_err_and c.from_residual.result c.from_residual.ensures.1 in
    let k : c.args.left ≡ suc (c.args.left - 1) = omega arith in
    rw (p.1, p.2) (some_both _ _ _ (fault_of c.in_err-opening.field-0.0)
    (λ x stopped built. λ f since old. built f since old ∙ ap (λ n. c.args.builds.now + n)
    (sym (c.builds_are_counted_in_turn.ensures.opened (basis_of c.args.from.now f) f.pasts (phase_of c.args.phase) c.args.left (c.args.left - 1) c.args.names.now.now.items (plain_arrival f c.args.arrival.now)
    (progress_of f c.args.walk.now c.args.g.now c.args.t.now.tree) x k (stopped f since old))))
    c.in_err-opening.ensures.fault c.in_err-opening.ensures.builds_at_fault)

pub enter-enter_shown-requires : goal.enter-enter_shown-requires
enter-enter_shown-requires g t c κs within =
    let d = declared_by c.args.from.now in
    let t = c.args.t.now.tree in
    let same : (h : Handle) → IsNode t h → plain_at (λ _. 0) c.open.new.t.tree h ≡ plain_at (λ _. 0) t h =
    λ h live. c.kept_elements_stay.ensures.node (λ _. 0) t c.open.new.t.tree h c.in_ok-opening.ensures.keeps (c.walk_laws.ensures.holds t h c.root.ensures.tree live) in
    let spots = subst (AreTypedSpots d c.open.new.t.tree) (sym c.in_ok-opening.ensures.spots) (spots_later d t c.open.new.t.tree c.in_ok-opening.ensures.keeps same c.args.walk.now.spots.items c.requires.spots) in
    let now = ap (map type_of) c.in_ok-opening.ensures.names ∙ c.requires.now in
    (omega (arith, c.decreases), (search (rules, within), (c.in_ok-opening.ensures.ready, (spots, (now, (c.in_ok-opening.ensures.was, (c.requires.arrival.widget, (c.in_ok-opening.ensures.partner, c.in_ok-opening.ensures.given))))))))

pub enter-returns-in_err-children-clause-fault : goal.enter-returns-in_err-children-clause-fault
enter-returns-in_err-children-clause-fault g t c =
    let p = err_from_is_err_and c.from_residual-in_err-children.result c.from_residual-in_err-children.ensures.1 in
    let k : c.args.left ≡ suc (c.args.left - 1) = omega arith in
    rw (p.1, p.2) (some_map _ _ (fault_of c.in_err-children.field-0.0)
    (λ x h. λ f since old.
    let B = basis_of c.args.from.now f in
    let F = phase_of c.args.phase in
    let a = plain_arrival f c.args.arrival.now in
    let o = c.in_ok-opening.ensures.opened f since old in
    let mid = progress_of f c.open.new.walk c.open.new.g c.open.new.t.tree in
    c.widgets_stop.ensures.below B f.pasts F c.args.left (c.args.left - 1) c.args.names.now.now.items a (progress_of f c.args.walk.now c.args.g.now c.args.t.now.tree) mid o.opening x k o.is
    (ap (λ (vs : List Value). entered_below (reenter B f.pasts F (c.args.left - 1)) F vs a.widget o.opening mid) (sym c.in_ok-opening.ensures.names)
    ∙ h f (c.in_ok-opening.ensures.since f since) o.old o.opening o.partner o.given))
    c.in_err-children.ensures.fault)

pub enter-returns-in_err-children-clause-builds_at_fault : goal.enter-returns-in_err-children-clause-builds_at_fault
enter-returns-in_err-children-clause-builds_at_fault g t c =
    let p = err_from_is_err_and c.from_residual-in_err-children.result c.from_residual-in_err-children.ensures.1 in
    let k : c.args.left ≡ suc (c.args.left - 1) = omega arith in
    rw (p.1, p.2) (some_map _ _ (fault_of c.in_err-children.field-0.0)
    (λ x h. λ f since old.
    let B = basis_of c.args.from.now f in
    let F = phase_of c.args.phase in
    let a = plain_arrival f c.args.arrival.now in
    let start = progress_of f c.args.walk.now c.args.g.now c.args.t.now.tree in
    let o = c.in_ok-opening.ensures.opened f since old in
    let mid = progress_of f c.open.new.walk c.open.new.g c.open.new.t.tree in
    let below = λ (vs : List Value). builds_below (reenter B f.pasts F (c.args.left - 1)) (builds_from B f.pasts F (c.args.left - 1)) F vs a.widget o.opening mid in
    two_built c.args.builds.now c.open.new.builds c.enter_shown.new.builds (builds_opening B f.pasts c.args.names.now.now.items a start) (below c.args.names.now.now.items)
    (builds_from B f.pasts F c.args.left c.args.names.now.now.items a start)
    (c.in_ok-opening.ensures.builds f since old)
    (h f (c.in_ok-opening.ensures.since f since) o.old o.opening o.partner o.given ∙ ap (λ vs. c.open.new.builds + below vs) c.in_ok-opening.ensures.names)
    (c.builds_are_counted_in_turn.ensures.below B f.pasts F c.args.left (c.args.left - 1) c.args.names.now.now.items a start mid o.opening k o.is))
    c.in_err-children.ensures.builds_at_fault)

pub enter-returns-clause-entered : goal.enter-returns-clause-entered
enter-returns-clause-entered g t c = λ f since old.
    let B = basis_of c.args.from.now f in
    let F = phase_of c.args.phase in
    let a = plain_arrival f c.args.arrival.now in
    let at = place_of c.args.place.now in
    let start = progress_of f c.args.walk.now c.args.g.now c.args.t.now.tree in
    let k : c.args.left ≡ suc (c.args.left - 1) = omega arith in
    let o = c.in_ok-opening.ensures.opened f since old in
    let h = c.in_ok-opening.opening.at in
    let hs = c.in_ok-children.children.items in
    let shown = c.in_ok-children.ensures.shown f (c.in_ok-opening.ensures.since f since) c.args.names.now.now.items (sym c.in_ok-opening.ensures.names) start c.args.left k o in
    let entry : element_entry at h o.element hs ≡ record { at = h; parent = at.parent; children = hs; update = record { widget = a.widget; index = a.place; output = option_map shared c.in_ok-opening.opening.output; render = c.in_ok-opening.opening.render } } =
    λ i. record { at = h; parent = at.parent; children = hs; update = record { widget = o.for.widget i; index = o.for.place i; output = o.output i; render = o.render i } } in
    let plans = ap (λ e. with_element e (plans_of c.enter_shown.new.walk)) entry ∙ sym (planned_plans c.enter_shown.new.walk c.plan_element.new.walk _ c.in_ok-plan_element.ensures.others c.in_ok-plan_element.ensures.planned) in
    entered_as B f.pasts F c.args.left c.args.names.now.now.items f.scrolled at a start c.enter_shown.new.t.tree c.enter_shown.new.r.tree h
    (progress_of f c.enter_shown.new.walk c.enter_shown.new.g c.enter_shown.new.t.tree) (progress_of f c.plan_element.new.walk c.enter_shown.new.g c.enter_shown.new.t.tree)
    (plans_of c.open.new.walk) (plans_of c.args.walk.now) (with_element (element_entry at h o.element hs) (plans_of c.enter_shown.new.walk)) (plans_of c.plan_element.new.walk)
    (sym (ap (λ w. progress_of f w c.enter_shown.new.g c.enter_shown.new.t.tree) c.in_ok-plan_element.ensures.others))
    c.in_ok-opening.ensures.plans plans shown

pub enter-returns-clause-builds : goal.enter-returns-clause-builds
enter-returns-clause-builds g t c = λ f since old.
    let B = basis_of c.args.from.now f in
    let F = phase_of c.args.phase in
    let a = plain_arrival f c.args.arrival.now in
    let k : c.args.left ≡ suc (c.args.left - 1) = omega arith in
    let start = progress_of f c.args.walk.now c.args.g.now c.args.t.now.tree in
    let o = c.in_ok-opening.ensures.opened f since old in
    let mid = progress_of f c.open.new.walk c.open.new.g c.open.new.t.tree in
    let below = λ (vs : List Value). builds_below (reenter B f.pasts F (c.args.left - 1)) (builds_from B f.pasts F (c.args.left - 1)) F vs a.widget o.opening mid in
    two_built c.args.builds.now c.open.new.builds c.enter_shown.new.builds (builds_opening B f.pasts c.args.names.now.now.items a start) (below c.args.names.now.now.items)
    (builds_from B f.pasts F c.args.left c.args.names.now.now.items a start)
    (c.in_ok-opening.ensures.builds f since old)
    (c.in_ok-children.ensures.builds f (c.in_ok-opening.ensures.since f since) o.old o.opening o.partner o.given ∙ ap (λ vs. c.open.new.builds + below vs) c.in_ok-opening.ensures.names)
    (c.builds_are_counted_in_turn.ensures.below B f.pasts F c.args.left (c.args.left - 1) c.args.names.now.now.items a start mid o.opening k o.is)

pub enter-returns-clause-since : goal.enter-returns-clause-since
enter-returns-clause-since g t c = λ f since. c.in_ok-children.ensures.since f (c.in_ok-opening.ensures.since f since)

pub enter-returns-clause-keeps : goal.enter-returns-clause-keeps
enter-returns-clause-keeps g t c = c.keep_laws.ensures.again c.args.t.now.tree c.open.new.t.tree c.enter_shown.new.t.tree c.in_ok-opening.ensures.keeps c.in_ok-children.ensures.keeps

pub enter-returns-clause-keeps_drawn : goal.enter-returns-clause-keeps_drawn
enter-returns-clause-keeps_drawn g t c = c.keep_laws-2.ensures.again c.args.r.now.tree c.open.new.r.tree c.enter_shown.new.r.tree c.in_ok-opening.ensures.keeps_drawn c.in_ok-children.ensures.keeps_drawn

pub enter-returns-clause-makes_drawn : goal.enter-returns-clause-makes_drawn
enter-returns-clause-makes_drawn g t c = makes_more c.args.r.now.tree c.open.new.r.tree c.enter_shown.new.r.tree c.in_ok-children.ensures.keeps_drawn c.in_ok-opening.ensures.makes_drawn c.in_ok-children.ensures.makes_drawn

pub enter-returns-clause-ready : goal.enter-returns-clause-ready
enter-returns-clause-ready g t c =
    ready_same c.args.from.now c.enter_shown.new.walk c.plan_element.new.walk c.enter_shown.new.t.tree c.enter_shown.new.r.tree c.enter_shown.new.g (ap (λ w. w.entered) c.in_ok-plan_element.ensures.others) c.in_ok-children.ensures.ready

pub enter-returns-clause-spots : goal.enter-returns-clause-spots
enter-returns-clause-spots g t c =
    subst (AreTypedSpots (declared_by c.args.from.now) c.enter_shown.new.t.tree) (sym (ap (λ w. w.spots.items) c.in_ok-plan_element.ensures.others)) c.in_ok-children.ensures.spots

pub enter-returns-clause-old_spots : goal.enter-returns-clause-old_spots
enter-returns-clause-old_spots g t c = λ f since old spots.
    let o = c.in_ok-opening.ensures.opened f since old in
    subst (AreOldSpots f) (sym (ap (λ w. w.spots.items) c.in_ok-plan_element.ensures.others))
    (c.in_ok-children.ensures.old_spots f (c.in_ok-opening.ensures.since f since) o.old (subst (AreOldSpots f) (sym c.in_ok-opening.ensures.spots) spots))

pub enter-returns-clause-none_waits : goal.enter-returns-clause-none_waits
enter-returns-clause-none_waits g t c = λ is. ap (λ w. w.spots.items) c.in_ok-plan_element.ensures.others ∙ c.in_ok-children.ensures.none_waits is ∙ c.in_ok-opening.ensures.spots

pub enter-returns-clause-held : goal.enter-returns-clause-held
enter-returns-clause-held g t c = λ hs before.
    let at = c.in_ok-opening.opening.at in
    let opened = c.in_ok-opening.ensures.held (hs ++ planned c.args.walk.now.elements.items) before in
    let same : c.open.new.walk.elements.items ≡ c.args.walk.now.elements.items = ap (λ p. p.elements) c.in_ok-opening.ensures.plans in
    held_planned c.enter_shown.new.g c.enter_shown.new.t.tree hs c.enter_shown.new.walk.elements.items c.plan_element.new.walk.elements.items _ c.in_ok-plan_element.ensures.planned
    (c.in_ok-children.ensures.held (at ∷ hs) (subst (λ es. AreHeld c.open.new.g c.open.new.t.tree (at ∷ (hs ++ planned es))) (sym same) opened))

pub enter-returns-clause-names : goal.enter-returns-clause-names
enter-returns-clause-names g t c = (
  c.give_back.ensures.now ∙ c.in_ok-children.ensures.names.0 ∙ c.in_ok-opening.ensures.names,
  c.give_back.ensures.was ∙ ap (was_around c.in_ok-opening.opening.around) c.in_ok-children.ensures.names.1 ∙ c.in_ok-opening.ensures.around,
)

-- ---- what is below it, and its render node

pub enter_shown-enter_below-requires : goal.enter_shown-enter_below-requires
enter_shown-enter_below-requires g t c κs within =
    (omega (arith, c.decreases), (search (rules, within), (c.requires.ready, (c.requires.spots, (c.requires.now, (c.requires.was, (c.requires.widget, (c.requires.partner, c.requires.given))))))))

pub enter_shown-enter_below-requires-2 : goal.enter_shown-enter_below-requires-2
enter_shown-enter_below-requires-2 g t c κs within =
    (omega (arith, c.decreases), (search (rules, within), (c.requires.ready, (c.requires.spots, (c.requires.now, (c.requires.was, (c.requires.widget, (c.requires.partner, c.requires.given))))))))

pub enter_shown-returns-in-None-clause-shown : goal.enter_shown-returns-in-None-clause-shown
enter_shown-returns-in-None-clause-shown g t c =
    ok_both _ _ _ c.enter_below.result (λ hs below keeps. λ f since values same before outer is o.
    let B = basis_of c.args.from.now f in
    let F = phase_of c.args.phase in
    let a = plain_arrival f c.args.arrival.now in
    let at = place_of c.args.place.now in
    let h = c.args.opening.now.at in
    let e = o.element in
    let u = c.enter_below.new.t.tree in
    let s = c.enter_below.new.r.tree in
    let mid = progress_of f c.args.walk.now c.args.g.now c.args.t.now.tree in
    let after = progress_of f c.enter_below.new.walk c.enter_below.new.g u in
    let vanishing = draws_none (object_at c.args.r.now.tree) (f.scrolled e.number) e o.drawn (o.render ∙ c.in-None.is) in
    let alone : waits F (build_role_of (look_of a.widget)) ≡ false = ap (λ (w : PlainWidget). waits F (build_role_of (look_of w))) (sym o.for.widget) ∙ seen_alone F (look_of e.widget) vanishing in
    let goes = c.forests_are_walked_in_turn.ensures.later_elements c.args.t.now.tree u (tree h e none none) keeps (o.goes, tt, tt) in
    let role : c.render_role_of-role.result ≡ role_of e = c.render_role_of-role.ensures ∙ ap (λ (x : Widget). render_role_of (look_in x.kind)) c.deref.ensures ∙ ap (λ (w : PlainWidget). render_role_of (look_of w)) (sym o.for.widget) in
    let told : c.told_here-told.result ≡ told_at at.role at.told e.index = c.told_here-told.ensures ∙ ap (told_at at.role at.told) (sym o.for.place) in
    let there : WalkPlace = record { parent = Some h; above = at.above; role = at.role; told = Some c.told_below-told.result } in
    let place : there ≡ through at h e =
    λ i. record { parent = Some h; above = at.above; role = at.role; told = Some ((c.told_below-told.ensures ∙ (λ j. told_by at.role (role j) (told j))) i) } in
    let inner = below_as B f.pasts F c.args.left c.args.names.now.now.items f.scrolled a.widget o.opening mid after u s hs.items there (through at h e)
    (plans_of c.args.walk.now) (plans_of c.args.walk.now) (half_of F a.widget c.args.walk.now c.enter_below.new.walk) (plans_of c.enter_below.new.walk) place refl (whole_half F a.widget c.args.walk.now c.enter_below.new.walk alone)
    (below f since o.old o.opening o.partner o.given) in
    let opened = o.is in
    subst (λ vs. IsEntered B f.pasts F outer vs f.scrolled at a before after u s (plans_of c.args.walk.now) (planned_through at h e hs.items (plans_of c.enter_below.new.walk)) h) (sym same)
    (c.widgets_are_entered.ensures.through B f.pasts F outer c.args.left c.args.names.now.now.items f.scrolled at a before mid after u s (plans_of c.args.walk.now) (plans_of c.enter_below.new.walk) h e o.opening hs.items
    is (subst (λ vs. reopened B f.pasts vs a before ≡ gives o.opening mid) same o.is) o.for goes.0 vanishing inner))
    c.enter_below.ensures.entered c.enter_below.ensures.keeps

pub enter_shown-returns-clause-shown : goal.enter_shown-returns-clause-shown
enter_shown-returns-clause-shown g t c = λ f since values same before outer is o.
    let B = basis_of c.args.from.now f in
    let F = phase_of c.args.phase in
    let a = plain_arrival f c.args.arrival.now in
    let at = place_of c.args.place.now in
    let h = c.args.opening.now.at in
    let k = c.in-Some.k in
    let e = o.element in
    let u = c.enter_below-2.new.t.tree in
    let s = c.enter_below-2.new.r.tree in
    let hs = c.in_ok-children.children.items in
    let start = c.args.walk.now in
    let inner : BuildWalk = record c.args.walk.now { tops = c.replace-tops.new.dest } in
    let emptied : c.replace-tops.new.dest ≡ c.new.result = search rules in
    let former : c.replace-tops.result ≡ c.args.walk.now.tops = search rules in
    let half = c.enter_below-2.new.walk in
    let last = c.plan_render.new.walk in
    let mid = progress_of f start c.args.g.now c.args.t.now.tree in
    let after = progress_of f half c.enter_below-2.new.g u in
    let own = draws_one (vanishes (role_of e)) c.args.opening.now.render k o.unseen c.in-Some.is in
    let drawn = drawn_there (vanishes (role_of e)) _ own o.drawn in
    let later = c.forests_are_walked_in_turn.ensures.later_objects c.args.r.now.tree s f.scrolled (tree h e none none) c.in_ok-children.ensures.keeps_drawn (o.drawn, tt, tt) in
    let goes = c.forests_are_walked_in_turn.ensures.later_elements c.args.t.now.tree u (tree h e none none) c.in_ok-children.ensures.keeps (o.goes, tt, tt) in
    let role : c.render_role_of-role.result ≡ role_of e = c.render_role_of-role.ensures ∙ ap (λ (x : Widget). render_role_of (look_in x.kind)) c.deref.ensures ∙ ap (λ (w : PlainWidget). render_role_of (look_of w)) (sym o.for.widget) in
    let told : c.told_here-told.result ≡ told_at at.role at.told e.index = c.told_here-told.ensures ∙ ap (told_at at.role at.told) (sym o.for.place) in
    let there : WalkPlace = record { parent = Some h; above = Some k; role = c.render_role_of-role.result; told = None } in
    let place : there ≡ under h k e = λ i. record { parent = Some h; above = Some k; role = role i; told = None } in
    let below = below_as B f.pasts F c.args.left c.args.names.now.now.items f.scrolled a.widget o.opening mid after u s hs there (under h k e)
    (plans_of inner) (without_tops (plans_of start)) (half_of F a.widget inner half) (half_of F a.widget inner half) place (λ i. record { elements = start.elements.items; renders = start.renders.items; tops = (ap (λ v. v.items) emptied ∙ c.new.ensures.items) i; lists = (plans_of start).lists; waiting = (plans_of start).waiting }) refl
    (c.in_ok-children.ensures.entered f since o.old o.opening o.partner o.given) in
    let entered = c.widgets_are_entered.ensures.under B f.pasts F outer c.args.left c.args.names.now.now.items f.scrolled at a before mid after u s (plans_of start) (half_of F a.widget inner half) h k e o.opening hs
    is (subst (λ vs. reopened B f.pasts vs a before ≡ gives o.opening mid) same o.is) o.for goes.0 own (drawn_there (vanishes (role_of e)) _ own later.0) (o.render ∙ c.in-Some.is) below in
    let entry : _ ≡ render_entry at k e half.tops.items = λ i. record { at = k; parent = at.above; children = half.tops.items; update = record { widget = sym o.for.widget i; parent_data = told i } } in
    let itself = list_at outer c.args.names.now.now.items e in
    let planned = planned_shown F at h k e hs a.widget start inner half last c.replace-tops.result.items itself _ c.in_ok-plan_render.ensures.others c.in_ok-plan_render.ensures.planned entry c.in_ok-plan_render.ensures.tops (ap (λ v. v.items) former) refl refl o.for.widget
    (λ waiting. let both = c.in_ok-children.ensures.waits waiting in
    (both.0, both.1 ∙ ap (λ l. (plans_of inner).waiting ++ l ∷ []) (list_same F a.widget e o.goes.was outer c.args.left c.args.names.now.now.items c.args.t.now.tree h waiting o.for.widget o.goes.stored o.goes.number is))) in
    entered_as B f.pasts F outer values f.scrolled at a before u s h after (progress_of f last c.enter_below-2.new.g u) (plans_of start) (plans_of start)
    (planned_under F at h k e itself hs (plans_of start) (half_of F a.widget inner half)) (with_element (element_entry at h e hs) (plans_of last))
    (sym (ap (λ w. progress_of f w c.enter_below-2.new.g u) c.in_ok-plan_render.ensures.others)) refl planned
    (subst (λ vs. IsEntered B f.pasts F outer vs f.scrolled at a before after u s (plans_of start) (planned_under F at h k e itself hs (plans_of start) (half_of F a.widget inner half)) h) (sym same) entered)

pub enter_shown-returns-clause-old_spots : goal.enter_shown-returns-clause-old_spots
enter_shown-returns-clause-old_spots g t c = λ f since old spots.
    subst (AreOldSpots f) (sym (ap (λ w. w.spots.items) c.in_ok-plan_render.ensures.others)) (c.in_ok-children.ensures.old_spots f since old spots)

pub enter_shown-returns-clause-none_waits : goal.enter_shown-returns-clause-none_waits
enter_shown-returns-clause-none_waits g t c = λ is. ap (λ w. w.spots.items) c.in_ok-plan_render.ensures.others ∙ c.in_ok-children.ensures.none_waits is

pub enter_shown-returns-clause-held : goal.enter_shown-returns-clause-held
enter_shown-returns-clause-held g t c = λ hs before.
    subst (λ (w : BuildWalk). AreHeld c.enter_below-2.new.g c.enter_below-2.new.t.tree (hs ++ planned w.elements.items)) (sym c.in_ok-plan_render.ensures.others) (c.in_ok-children.ensures.held hs before)

-- ---- the child widgets

pub enter_below-returns-then-is_put_off-clause-entered : goal.enter_below-returns-then-is_put_off-clause-entered
enter_below-returns-then-is_put_off-clause-entered g t c = λ f since old o partner given.
    let B = basis_of c.args.from.now f in
    let F = phase_of c.args.phase in
    let w = shared c.args.arrival.now.widget in
    let e : waits F (build_role_of (look_of w)) ≡ true = ap (λ (x : Widget). waits F (build_role_of (look_in x.kind))) (sym c.deref.ensures) ∙ sym c.is_put_off.ensures ∙ c.if-is_put_off.true in
    let p = c.in_ok-wait.ensures.waits in
    let start = progress_of f c.args.walk.now c.args.g.now c.args.t.now.tree in
    waits_as B f.pasts F c.args.left c.args.names.now.now.items f.scrolled (place_of c.args.place.now) w o start c.args.t.now.tree c.args.r.now.tree _ (progress_of f c.wait.new.walk c.args.g.now c.args.t.now.tree)
    (plans_of c.args.walk.now) (half_of F w c.args.walk.now c.wait.new.walk) [] c.in_ok-wait.field-0.items
    (waiting_progress f c.args.g.now c.args.t.now.tree c.args.walk.now c.wait.new.walk p.spot o c.args.opening.now.partner c.in_ok-wait.ensures.others p.is p.kept partner)
    (waiting_half F w c.args.walk.now c.wait.new.walk e c.in_ok-wait.ensures.others) (sym c.in_ok-wait.ensures.nothing)
    (c.widgets_are_entered_below.ensures.put_off B f.pasts F c.args.left c.args.names.now.now.items f.scrolled (place_of c.args.place.now) w o start c.args.t.now.tree c.args.r.now.tree (plans_of c.args.walk.now) e)

pub enter_below-returns-then-is_put_off-clause-waits : goal.enter_below-returns-then-is_put_off-clause-waits
enter_below-returns-then-is_put_off-clause-waits g t c = λ e.
    let p = c.in_ok-wait.ensures.waits in (
      ap (map (λ (s : WaitingSpot). s.at)) p.is ∙ map-append (λ (s : WaitingSpot). s.at) c.args.walk.now.spots.items (p.spot ∷ []) ∙ ap (λ h. (plans_of c.args.walk.now).lists ++ h ∷ []) p.at,
      ap (map waiting_of) p.is ∙ map-append waiting_of c.args.walk.now.spots.items (p.spot ∷ [])
          ∙ (λ i. (plans_of c.args.walk.now).waiting ++ list_for (p.number i) (p.left_is i) (p.now_is i) (p.list i) ∷ []),
    )

pub enter_below-returns-then-is_put_off-clause-builds : goal.enter_below-returns-then-is_put_off-clause-builds
enter_below-returns-then-is_put_off-clause-builds g t c = λ f since old o partner given.
    none_built c.args.builds.now _ (c.builds_are_counted_in_turn.ensures.put_off (basis_of c.args.from.now f) f.pasts (phase_of c.args.phase) c.args.left c.args.names.now.now.items (shared c.args.arrival.now.widget) o
    (progress_of f c.args.walk.now c.args.g.now c.args.t.now.tree) (ap (λ (x : Widget). waits (phase_of c.args.phase) (build_role_of (look_in x.kind))) (sym c.deref.ensures) ∙ sym c.is_put_off.ensures ∙ c.if-is_put_off.true))

pub enter_below-returns-then-is_put_off-clause-makes_drawn : goal.enter_below-returns-then-is_put_off-clause-makes_drawn
enter_below-returns-then-is_put_off-clause-makes_drawn g t c = makes_none c.args.r.now.tree

pub enter_below-returns-then-is_put_off-clause-ready : goal.enter_below-returns-then-is_put_off-clause-ready
enter_below-returns-then-is_put_off-clause-ready g t c = ready_same c.args.from.now c.args.walk.now c.wait.new.walk c.args.t.now.tree c.args.r.now.tree c.args.g.now (ap (λ w. w.entered) c.in_ok-wait.ensures.others) c.requires.ready

pub enter_below-returns-then-is_put_off-clause-spots : goal.enter_below-returns-then-is_put_off-clause-spots
enter_below-returns-then-is_put_off-clause-spots g t c =
    let d = declared_by c.args.from.now in
    let p = c.in_ok-wait.ensures.waits in
    spot_pushed d c.args.t.now.tree c.args.walk.now.spots.items c.wait.new.walk.spots.items p.spot p.is
    (record {
      kept = subst (λ o. IfSome o (IsTypedElement d c.args.t.now.tree)) (sym p.kept) c.requires.partner;
      now = ap (map type_of) p.now_is ∙ c.requires.now;
      was = ap (map type_of) p.was_is ∙ c.requires.was;
      list = subst (IsTypedWidget d) (sym p.list) c.requires.widget;
    })
    c.requires.spots

pub enter_below-returns-then-is_put_off-clause-old_spots : goal.enter_below-returns-then-is_put_off-clause-old_spots
enter_below-returns-then-is_put_off-clause-old_spots g t c = λ f since old spots.
    let p = c.in_ok-wait.ensures.waits in
    old_pushed f c.args.walk.now.spots.items c.wait.new.walk.spots.items p.spot c.args.opening.now.partner c.args.names.now.was.items p.is p.kept p.was_is old spots

pub enter_below-returns-then-is_put_off-clause-none_waits : goal.enter_below-returns-then-is_put_off-clause-none_waits
enter_below-returns-then-is_put_off-clause-none_waits g t c = λ is.
    let r = build_role_of (look_of (shared c.args.arrival.now.widget)) in
    let put_off : waits (phase_of c.args.phase) r ≡ true = ap (λ (x : Widget). waits (phase_of c.args.phase) (build_role_of (look_in x.kind))) (sym c.deref.ensures) ∙ sym c.is_put_off.ensures ∙ c.if-is_put_off.true in
    absurd (never (sym (ap (λ (p : Phase). waits p r) is) ∙ put_off))
  where
    never : false ≡ true → ⊥
    never e = cc

pub enter_below-returns-then-is_put_off-clause-held : goal.enter_below-returns-then-is_put_off-clause-held
enter_below-returns-then-is_put_off-clause-held g t c = λ hs before.
    subst (λ (w : BuildWalk). AreHeld c.args.g.now c.args.t.now.tree (hs ++ planned w.elements.items)) (sym c.in_ok-wait.ensures.others) before

pub enter_below-arrivals-requires : goal.enter_below-arrivals-requires
enter_below-arrivals-requires g t c =
    let d = declared_by c.args.from.now in
    let t = c.args.t.now.tree in
    let o = c.args.opening.now.partner in
    record {
      live = some_map (IsTypedElement d t) (IsNode t) o (λ h typed. typed.0) c.requires.partner;
      apart = had_apart d (plain_at_any (λ _. 0) t o) (any_typed d t (IsWellBuilt d) o (λ h typed. typed.1) c.requires.partner);
      placed = standing_below (plain_at_any (λ _. 0) t o) (any_typed d t IsInPlace o (λ h typed. typed.2) c.requires.partner);
    }

pub enter_below-go_below-requires : goal.enter_below-go_below-requires
enter_below-go_below-requires g t c =
    let w = c.args.arrival.now.widget.value in
    record {
      now = subst (λ (x : Widget). FitsNames (map type_of c.args.names.now.now.items) (build_role_of (look_in x.kind))) (sym c.deref-2.ensures)
          (fits_names (declared_by c.args.from.now) (look_in w.kind) w.key (widgets_of (slots_in w.kind)) (widgets_of w.children) (map type_of c.args.names.now.now.items) c.requires.widget c.requires.now);
      was = subst (λ ts. AreAllFitting ts c.args.t.now.tree) (sym c.requires.was) c.requires.ready.elements.fitting;
    }

pub enter_below-enter_all-requires : goal.enter_below-enter_all-requires
enter_below-enter_all-requires g t c κs within =
    let d = declared_by c.args.from.now in
    let t = c.args.t.now.tree in
    let knows : KnowsBelow t = λ h live. let e = live_element t h live in c.kept_elements_are_known.ensures.nodes (λ _. 0) t h e.0 (c.walk_laws.ensures.holds t h c.root.ensures.tree live) e.1 in
    let typed = typed_arriving d t knows c.args.opening.now.partner c.requires.partner (given_to (shared c.args.arrival.now.widget) c.args.opening.now.given) (arrived c.in_ok-arriving.arriving) c.requires.given
    (c.in_ok-arriving.ensures.arrivals (λ _. 0) ∙ ap (λ ws. arrivals (plain_at_any (λ _. 0) t c.args.opening.now.partner) ws) c.given_to-given.ensures) c.in_ok-arriving.ensures.beside c.in_ok-arriving.ensures.matched in
    let rs = subst (All (IsTypedArrival d t)) (sym c.arrived.ensures) typed in
    (omega (arith, c.decreases), (search (rules, within), (c.requires.ready, (c.requires.spots, (c.in_ok-outers.ensures.typed.0 ∙ c.requires.now, (c.in_ok-outers.ensures.typed.1 ∙ c.requires.was, rs))))))

pub enter_below-returns-in_err-children-clause-fault : goal.enter_below-returns-in_err-children-clause-fault
enter_below-returns-in_err-children-clause-fault g t c =
    let p = err_from_is_err_and c.from_residual-in_err-children.result c.from_residual-in_err-children.ensures.1 in
    rw (p.1, p.2) (some_map _ _ (fault_of c.in_err-children.field-0.0)
    (λ x h. λ f since old o partner given.
    let B = basis_of c.args.from.now f in
    let F = phase_of c.args.phase in
    let t = c.args.t.now.tree in
    let w = shared c.args.arrival.now.widget in
    let e : waits F (build_role_of (look_of w)) ≡ false = ap (λ (x : Widget). waits F (build_role_of (look_in x.kind))) (sym c.deref.ensures) ∙ sym c.is_put_off.ensures ∙ c.if-is_put_off.false in
    let was = c.args.names.now.was.items in
    let kin = c.args.opening.now.partner in
    let start = progress_of f c.args.walk.now c.args.g.now t in
    let come = come_below f t since.elements was c.go_below.new.names.was.items kin (given_to (shared c.args.arrival.now.widget) c.args.opening.now.given) (arrived c.in_ok-arriving.arriving) o
    (λ h holds. c.kept_elements_are_known.ensures.live f.elements h holds)
    (λ h x known is. c.kept_elements_are_known.ensures.below f.pasts f.scrolled was f.elements f.renders h x known is)
    (λ h x is. c.keep_laws.ensures.value f.elements t h x since.elements is)
    (λ us k known. c.kept_elements_stay.ensures.node f.scrolled f.elements t k since.elements known.holds)
    c.in_ok-outers.ensures.was
    (c.in_ok-arriving.ensures.arrivals f.scrolled ∙ ap (λ ws. arrivals (plain_at_any f.scrolled t kin) ws) c.given_to-given.ensures)
    old c.in_ok-arriving.ensures.beside partner given in
    let rs = c.arrived.ensures in
    let olds = subst (All (λ (a : Arrival). IfSome a.beside (IsOld f c.go_below.new.names.was.items))) (sym rs) come.0 in
    let same : map (plain_arrival f) c.arrived.result.now ≡ arrivals o.partner o.given = ap (map (plain_arrival f)) rs ∙ come.1 in
    let now : c.go_below.new.names.now.items ≡ values_below w c.args.names.now.now.items =
    c.in_ok-outers.ensures.now ∙ ap (λ (x : Widget). values_below (plain_of x) c.args.names.now.now.items) c.deref-2.ensures in
    c.widgets_stop.ensures.in_turn B f.pasts F c.args.left c.args.names.now.now.items w o start x e
    (sym (λ i. each (reenter B f.pasts F c.args.left (now i)) (same i) start) ∙ h f since olds))
    c.in_err-children.ensures.fault)

pub enter_below-returns-in_err-children-clause-builds_at_fault : goal.enter_below-returns-in_err-children-clause-builds_at_fault
enter_below-returns-in_err-children-clause-builds_at_fault g t c =
    let p = err_from_is_err_and c.from_residual-in_err-children.result c.from_residual-in_err-children.ensures.1 in
    rw (p.1, p.2) (some_map _ _ (fault_of c.in_err-children.field-0.0)
    (λ x h. λ f since old o partner given.
    let B = basis_of c.args.from.now f in
    let F = phase_of c.args.phase in
    let t = c.args.t.now.tree in
    let w = shared c.args.arrival.now.widget in
    let e : waits F (build_role_of (look_of w)) ≡ false = ap (λ (x : Widget). waits F (build_role_of (look_in x.kind))) (sym c.deref.ensures) ∙ sym c.is_put_off.ensures ∙ c.if-is_put_off.false in
    let was = c.args.names.now.was.items in
    let kin = c.args.opening.now.partner in
    let start = progress_of f c.args.walk.now c.args.g.now t in
    let come = come_below f t since.elements was c.go_below.new.names.was.items kin (given_to (shared c.args.arrival.now.widget) c.args.opening.now.given) (arrived c.in_ok-arriving.arriving) o
    (λ h holds. c.kept_elements_are_known.ensures.live f.elements h holds)
    (λ h x known is. c.kept_elements_are_known.ensures.below f.pasts f.scrolled was f.elements f.renders h x known is)
    (λ h x is. c.keep_laws.ensures.value f.elements t h x since.elements is)
    (λ us k known. c.kept_elements_stay.ensures.node f.scrolled f.elements t k since.elements known.holds)
    c.in_ok-outers.ensures.was
    (c.in_ok-arriving.ensures.arrivals f.scrolled ∙ ap (λ ws. arrivals (plain_at_any f.scrolled t kin) ws) c.given_to-given.ensures)
    old c.in_ok-arriving.ensures.beside partner given in
    let rs = c.arrived.ensures in
    let olds = subst (All (λ (a : Arrival). IfSome a.beside (IsOld f c.go_below.new.names.was.items))) (sym rs) come.0 in
    let same : map (plain_arrival f) c.arrived.result.now ≡ arrivals o.partner o.given = ap (map (plain_arrival f)) rs ∙ come.1 in
    let now : c.go_below.new.names.now.items ≡ values_below w c.args.names.now.now.items =
    c.in_ok-outers.ensures.now ∙ ap (λ (x : Widget). values_below (plain_of x) c.args.names.now.now.items) c.deref-2.ensures in
    h f since olds
    ∙ (λ i. c.args.builds.now + builds_by_each (reenter B f.pasts F c.args.left (now i)) (builds_from B f.pasts F c.args.left (now i)) (same i) start)
    ∙ ap (λ n. c.args.builds.now + n) (sym (c.builds_are_counted_in_turn.ensures.in_turn B f.pasts F c.args.left c.args.names.now.now.items w o start e)))
    c.in_err-children.ensures.builds_at_fault)

pub enter_below-go_back-requires : goal.enter_below-go_back-requires
enter_below-go_back-requires g t c = record {
  within = (
    subst (λ (vs : List Value). IfSome (outer_now c.in_ok-outers.outers) (λ (x : Outer). x.name < length vs)) (sym c.in_ok-children.ensures.names.0) c.in_ok-outers.ensures.within.0,
    subst (λ (vs : List Value). IfSome (outer_was c.in_ok-outers.outers) (λ (x : Outer). x.name < length vs)) (sym c.in_ok-children.ensures.names.1) c.in_ok-outers.ensures.within.1,
  );
}

pub enter_below-returns-clause-entered : goal.enter_below-returns-clause-entered
enter_below-returns-clause-entered g t c = λ f since old o partner given.
    let B = basis_of c.args.from.now f in
    let F = phase_of c.args.phase in
    let t = c.args.t.now.tree in
    let w = shared c.args.arrival.now.widget in
    let e : waits F (build_role_of (look_of w)) ≡ false = ap (λ (x : Widget). waits F (build_role_of (look_in x.kind))) (sym c.deref.ensures) ∙ sym c.is_put_off.ensures ∙ c.if-is_put_off.false in
    let was = c.args.names.now.was.items in
    let kin = c.args.opening.now.partner in
    let start = progress_of f c.args.walk.now c.args.g.now t in
    let come = come_below f t since.elements was c.go_below.new.names.was.items kin (given_to (shared c.args.arrival.now.widget) c.args.opening.now.given) (arrived c.in_ok-arriving.arriving) o
    (λ h holds. c.kept_elements_are_known.ensures.live f.elements h holds)
    (λ h x known is. c.kept_elements_are_known.ensures.below f.pasts f.scrolled was f.elements f.renders h x known is)
    (λ h x is. c.keep_laws.ensures.value f.elements t h x since.elements is)
    (λ us k known. c.kept_elements_stay.ensures.node f.scrolled f.elements t k since.elements known.holds)
    c.in_ok-outers.ensures.was
    (c.in_ok-arriving.ensures.arrivals f.scrolled ∙ ap (λ ws. arrivals (plain_at_any f.scrolled t kin) ws) c.given_to-given.ensures)
    old c.in_ok-arriving.ensures.beside partner given in
    let rs = c.arrived.ensures in
    let olds = subst (All (λ (a : Arrival). IfSome a.beside (IsOld f c.go_below.new.names.was.items))) (sym rs) come.0 in
    let same : map (plain_arrival f) c.arrived.result.now ≡ arrivals o.partner o.given = ap (map (plain_arrival f)) rs ∙ come.1 in
    let now : c.go_below.new.names.now.items ≡ values_below w c.args.names.now.now.items =
    c.in_ok-outers.ensures.now ∙ ap (λ (x : Widget). values_below (plain_of x) c.args.names.now.now.items) c.deref-2.ensures in
    let u = c.enter_all.new.t.tree in
    let s = c.enter_all.new.r.tree in
    let after = progress_of f c.enter_all.new.walk c.enter_all.new.g u in
    let hs = c.in_ok-children.children.items in
    let all = all_as B f.pasts F c.args.left f.scrolled (place_of c.args.place.now) start after u s (plans_of c.args.walk.now) (plans_of c.enter_all.new.walk) c.go_below.new.names.now.items (values_below w c.args.names.now.now.items)
    (map (plain_arrival f) c.arrived.result.now) (arrivals o.partner o.given) hs hs now same refl (c.in_ok-children.ensures.entered f since olds) in
    below_as B f.pasts F c.args.left c.args.names.now.now.items f.scrolled w o start after u s hs (place_of c.args.place.now) (place_of c.args.place.now) (plans_of c.args.walk.now) (plans_of c.args.walk.now)
    (plans_of c.enter_all.new.walk) (half_of F w c.args.walk.now c.enter_all.new.walk) refl refl (sym (whole_half F w c.args.walk.now c.enter_all.new.walk e))
    (c.widgets_are_entered_below.ensures.in_turn B f.pasts F c.args.left c.args.names.now.now.items f.scrolled (place_of c.args.place.now) w o start after u s (plans_of c.args.walk.now) (plans_of c.enter_all.new.walk) hs e all)

pub enter_below-returns-clause-waits : goal.enter_below-returns-clause-waits
enter_below-returns-clause-waits g t c = λ is. absurd (not_both is (ap (λ (x : Widget). waits (phase_of c.args.phase) (build_role_of (look_in x.kind))) (sym c.deref.ensures) ∙ sym c.is_put_off.ensures ∙ c.if-is_put_off.false))
  where
    not_both : {b : Bool} → b ≡ true → b ≡ false → ⊥
    not_both x y = cc

pub enter_below-returns-clause-builds : goal.enter_below-returns-clause-builds
enter_below-returns-clause-builds g t c = λ f since old o partner given.
    let B = basis_of c.args.from.now f in
    let F = phase_of c.args.phase in
    let t = c.args.t.now.tree in
    let w = shared c.args.arrival.now.widget in
    let e : waits F (build_role_of (look_of w)) ≡ false = ap (λ (x : Widget). waits F (build_role_of (look_in x.kind))) (sym c.deref.ensures) ∙ sym c.is_put_off.ensures ∙ c.if-is_put_off.false in
    let was = c.args.names.now.was.items in
    let kin = c.args.opening.now.partner in
    let start = progress_of f c.args.walk.now c.args.g.now t in
    let come = come_below f t since.elements was c.go_below.new.names.was.items kin (given_to (shared c.args.arrival.now.widget) c.args.opening.now.given) (arrived c.in_ok-arriving.arriving) o
    (λ h holds. c.kept_elements_are_known.ensures.live f.elements h holds)
    (λ h x known is. c.kept_elements_are_known.ensures.below f.pasts f.scrolled was f.elements f.renders h x known is)
    (λ h x is. c.keep_laws.ensures.value f.elements t h x since.elements is)
    (λ us k known. c.kept_elements_stay.ensures.node f.scrolled f.elements t k since.elements known.holds)
    c.in_ok-outers.ensures.was
    (c.in_ok-arriving.ensures.arrivals f.scrolled ∙ ap (λ ws. arrivals (plain_at_any f.scrolled t kin) ws) c.given_to-given.ensures)
    old c.in_ok-arriving.ensures.beside partner given in
    let rs = c.arrived.ensures in
    let olds = subst (All (λ (a : Arrival). IfSome a.beside (IsOld f c.go_below.new.names.was.items))) (sym rs) come.0 in
    let same : map (plain_arrival f) c.arrived.result.now ≡ arrivals o.partner o.given = ap (map (plain_arrival f)) rs ∙ come.1 in
    let now : c.go_below.new.names.now.items ≡ values_below w c.args.names.now.now.items =
    c.in_ok-outers.ensures.now ∙ ap (λ (x : Widget). values_below (plain_of x) c.args.names.now.now.items) c.deref-2.ensures in
    c.in_ok-children.ensures.builds f since olds
    ∙ (λ i. c.args.builds.now + builds_by_each (reenter B f.pasts F c.args.left (now i)) (builds_from B f.pasts F c.args.left (now i)) (same i) start)
    ∙ ap (λ n. c.args.builds.now + n) (sym (c.builds_are_counted_in_turn.ensures.in_turn B f.pasts F c.args.left c.args.names.now.now.items w o start e))

pub enter_below-returns-clause-old_spots : goal.enter_below-returns-clause-old_spots
enter_below-returns-clause-old_spots g t c = λ f since old spots.
    let t = c.args.t.now.tree in
    let was = c.args.names.now.was.items in
    let kin = c.args.opening.now.partner in
    let come = old_arriving f t since.elements was
    (λ h holds. c.kept_elements_are_known.ensures.live f.elements h holds)
    (λ h x known is. c.kept_elements_are_known.ensures.below f.pasts f.scrolled was f.elements f.renders h x known is)
    (λ h x is. c.keep_laws.ensures.value f.elements t h x since.elements is)
    kin old (arrived c.in_ok-arriving.arriving) c.in_ok-arriving.ensures.beside in
    c.in_ok-children.ensures.old_spots f since
    (subst (All (λ (a : Arrival). IfSome a.beside (IsOld f c.go_below.new.names.was.items))) (sym c.arrived.ensures)
    (subst (λ vs. All (λ (a : Arrival). IfSome a.beside (IsOld f vs)) (arrived c.in_ok-arriving.arriving)) (sym c.in_ok-outers.ensures.was) come))
    spots

pub enter_below-returns-clause-names : goal.enter_below-returns-clause-names
enter_below-returns-clause-names g t c = (
  c.go_back.ensures.now ∙ ap (with_outer (outer_now c.in_ok-outers.outers)) c.in_ok-children.ensures.names.0 ∙ c.in_ok-outers.ensures.back.0,
  c.go_back.ensures.was ∙ ap (with_outer (outer_was c.in_ok-outers.outers)) c.in_ok-children.ensures.names.1 ∙ c.in_ok-outers.ensures.back.1,
)

-- ---- widgets one after another

pub enter_all-loop-i-init : goal.enter_all-loop-i-init
enter_all-loop-i-init g t c = (
  record {
    entered = λ f since old. subst (λ (hs : List Handle). AreEntered (basis_of c.args.from.now f) f.pasts (phase_of c.args.phase) c.args.left c.args.names.now.now.items f.scrolled (place_of c.args.place.now) []
        (progress_of f c.args.walk.now c.args.g.now c.args.t.now.tree) (progress_of f c.args.walk.now c.args.g.now c.args.t.now.tree) c.args.t.now.tree c.args.r.now.tree (plans_of c.args.walk.now) (plans_of c.args.walk.now) hs)
        (sym c.in_ok-handles.ensures.items)
        (c.widgets_are_entered_in_turn.ensures.none (basis_of c.args.from.now f) f.pasts (phase_of c.args.phase) c.args.left c.args.names.now.now.items f.scrolled (place_of c.args.place.now)
        (progress_of f c.args.walk.now c.args.g.now c.args.t.now.tree) c.args.t.now.tree c.args.r.now.tree (plans_of c.args.walk.now));
    builds_are = λ f since old. none_built c.args.builds.now 0 refl;
    since = λ f since. since;
    keeps = λ k live. refl;
    keeps_drawn = λ k live. refl;
    makes_drawn = makes_none c.args.r.now.tree;
    ready = c.requires.ready;
    spots = c.requires.spots;
    old_spots = λ f since old spots. spots;
    none_waits = λ is. refl;
    held = λ hs before. before;
    now_is = refl;
    was_is = refl;
  },
  refl,
  omega (arith, c.in_ok-handles.ensures.len),
  omega (arith, c.in_ok-handles.ensures.capacity),
)

pub enter_all-enter-requires : goal.enter_all-enter-requires
enter_all-enter-requires g t c κs within =
    let d = declared_by c.args.from.now in
    let t = c.args.t.now.tree in
    let u = c.loop-i.t.tree in
    let inv = c.loop-i.invariant.0 in
    let r = c.index-arriving-i.result in
    let same : (h : Handle) → IsNode t h → plain_at (λ _. 0) u h ≡ plain_at (λ _. 0) t h = λ h live. c.kept_elements_stay.ensures.node (λ _. 0) t u h inv.keeps (c.walk_laws.ensures.holds t h c.root.ensures.tree live) in
    let typed = arrival_later d t u inv.keeps same r (subst (IsTypedArrival d t) (sym c.index-arriving-i.is) (c.requires.arriving c.loop-i.i r c.loop-i-test.true)) in
    (omega (arith, c.decreases), (search (rules, within), (inv.ready, (inv.spots, (ap (map type_of) inv.now_is ∙ c.requires.now, (ap (map type_of) inv.was_is ∙ c.requires.was, typed))))))

pub enter_all-returns-in_err-handle-clause-fault : goal.enter_all-returns-in_err-handle-clause-fault
enter_all-returns-in_err-handle-clause-fault g t c =
    let p = err_from_is_err_and c.from_residual-in_err-handle.result c.from_residual-in_err-handle.ensures.1 in
    rw (p.1, p.2) (some_map _ _ (fault_of c.in_err-handle.field-0.0)
    (λ x h. λ f since old.
    let B = basis_of c.args.from.now f in
    let F = phase_of c.args.phase in
    let inv = c.loop-i.invariant.0 in
    let r = c.index-arriving-i.result in
    let xs = map (plain_arrival f) c.args.arriving.now in
    let vs = c.args.names.now.now.items in
    let start = progress_of f c.args.walk.now c.args.g.now c.args.t.now.tree in
    let mid = progress_of f c.loop-i.walk c.loop-i.g c.loop-i.t.tree in
    let beside = subst (λ us. IfSome r.beside (IsOld f us)) (sym inv.was_is) (subst (λ (a : Arrival). IfSome a.beside (IsOld f c.args.names.now.was.items)) (sym c.index-arriving-i.is) (old c.loop-i.i r c.loop-i-test.true)) in
    ap (λ zs. each (reenter B f.pasts F c.args.left vs) zs start) (split_at (plain_arrival f) c.args.arriving.now c.loop-i.i r c.loop-i-test.true c.index-arriving-i.is)
    ∙ c.widgets_stop.ensures.after B f.pasts F c.args.left vs (take c.loop-i.i xs) (drop (suc c.loop-i.i) xs) (plain_arrival f r) start mid _ x (inv.entered f since old).is
    (ap (λ us. reenter B f.pasts F c.args.left us (plain_arrival f r) mid) (sym inv.now_is) ∙ h f (inv.since f since) beside))
    c.in_err-handle.ensures.fault)

pub enter_all-returns-in_err-handle-clause-builds_at_fault : goal.enter_all-returns-in_err-handle-clause-builds_at_fault
enter_all-returns-in_err-handle-clause-builds_at_fault g t c =
    let p = err_from_is_err_and c.from_residual-in_err-handle.result c.from_residual-in_err-handle.ensures.1 in
    rw (p.1, p.2) (some_both _ _ _ (fault_of c.in_err-handle.field-0.0)
    (λ x h more. λ f since old.
    let B = basis_of c.args.from.now f in
    let F = phase_of c.args.phase in
    let inv = c.loop-i.invariant.0 in
    let r = c.index-arriving-i.result in
    let a = plain_arrival f r in
    let xs = map (plain_arrival f) c.args.arriving.now in
    let vs = c.args.names.now.now.items in
    let start = progress_of f c.args.walk.now c.args.g.now c.args.t.now.tree in
    let mid = progress_of f c.loop-i.walk c.loop-i.g c.loop-i.t.tree in
    let beside = subst (λ us. IfSome r.beside (IsOld f us)) (sym inv.was_is) (subst (λ (b : Arrival). IfSome b.beside (IsOld f c.args.names.now.was.items)) (sym c.index-arriving-i.is) (old c.loop-i.i r c.loop-i-test.true)) in
    let count : List PlainArrival → ℕ = λ zs. builds_by_each (reenter B f.pasts F c.args.left vs) (builds_from B f.pasts F c.args.left vs) zs start in
    two_built c.args.builds.now c.loop-i.builds c.enter.new.builds (count (take c.loop-i.i xs)) (builds_from B f.pasts F c.args.left vs a mid) (count xs)
    (inv.builds_are f since old)
    (more f (inv.since f since) beside ∙ ap (λ us. c.loop-i.builds + builds_from B f.pasts F c.args.left us a mid) inv.now_is)
    (ap count (split_at (plain_arrival f) c.args.arriving.now c.loop-i.i r c.loop-i-test.true c.index-arriving-i.is)
    ∙ c.builds_are_counted_in_turn.ensures.last B f.pasts F c.args.left vs (take c.loop-i.i xs) (drop (suc c.loop-i.i) xs) a start mid _ x (inv.entered f since old).is
    (ap (λ us. reenter B f.pasts F c.args.left us a mid) (sym inv.now_is) ∙ h f (inv.since f since) beside)))
    c.in_err-handle.ensures.fault c.in_err-handle.ensures.builds_at_fault)

pub enter_all-push_reserved-requires : goal.enter_all-push_reserved-requires
enter_all-push_reserved-requires g t c = omega (arith, c.loop-i.invariant.2, c.loop-i.invariant.3, c.loop-i-test.true)

pub enter_all-loop-i-preserved : goal.enter_all-loop-i-preserved
enter_all-loop-i-preserved g t c =
    let inv = c.loop-i.invariant.0 in
    let r = c.index-arriving-i.result in
    let F = phase_of c.args.phase in
    let vs = c.args.names.now.now.items in
    let one = c.in_ok-handle.ensures in
    let u = c.enter.new.t.tree in
    let s = c.enter.new.r.tree in (
      record {
        entered = λ f since old.
            let B = basis_of c.args.from.now f in
            let xs = map (plain_arrival f) c.args.arriving.now in
            let start = progress_of f c.args.walk.now c.args.g.now c.args.t.now.tree in
            let mid = progress_of f c.loop-i.walk c.loop-i.g c.loop-i.t.tree in
            let after = progress_of f c.enter.new.walk c.enter.new.g u in
            let beside = subst (λ us. IfSome r.beside (IsOld f us)) (sym inv.was_is) (subst (λ (b : Arrival). IfSome b.beside (IsOld f c.args.names.now.was.items)) (sym c.index-arriving-i.is) (old c.loop-i.i r c.loop-i-test.true)) in
            let last = subst (λ us. IsEntered B f.pasts F c.args.left us f.scrolled (place_of c.args.place.now) (plain_arrival f r) mid after u s (plans_of c.loop-i.walk) (plans_of c.enter.new.walk) c.in_ok-handle.handle) inv.now_is
            (one.entered f (inv.since f since) beside) in
            all_as B f.pasts F c.args.left f.scrolled (place_of c.args.place.now) start after u s (plans_of c.args.walk.now) (plans_of c.enter.new.walk) vs vs (take c.loop-i.i xs ++ plain_arrival f r ∷ []) (take (c.loop-i.i + 1) xs)
            (c.loop-i.handles.items ++ c.in_ok-handle.handle ∷ []) c.push_reserved.new.self.items refl (sym (taken_more (plain_arrival f) c.args.arriving.now c.loop-i.i r c.loop-i-test.true c.index-arriving-i.is)) (sym c.push_reserved.ensures.items)
            (c.widgets_are_entered_in_turn.ensures.more B f.pasts F c.args.left vs f.scrolled (place_of c.args.place.now) (take c.loop-i.i xs) (plain_arrival f r) start mid after c.loop-i.t.tree u c.loop-i.r.tree s
            (plans_of c.args.walk.now) (plans_of c.loop-i.walk) (plans_of c.enter.new.walk) c.loop-i.handles.items c.in_ok-handle.handle one.keeps one.keeps_drawn (inv.entered f since old) last);
        builds_are = λ f since old.
            let B = basis_of c.args.from.now f in
            let a = plain_arrival f r in
            let xs = map (plain_arrival f) c.args.arriving.now in
            let start = progress_of f c.args.walk.now c.args.g.now c.args.t.now.tree in
            let mid = progress_of f c.loop-i.walk c.loop-i.g c.loop-i.t.tree in
            let beside = subst (λ us. IfSome r.beside (IsOld f us)) (sym inv.was_is) (subst (λ (b : Arrival). IfSome b.beside (IsOld f c.args.names.now.was.items)) (sym c.index-arriving-i.is) (old c.loop-i.i r c.loop-i-test.true)) in
            let count : List PlainArrival → ℕ = λ zs. builds_by_each (reenter B f.pasts F c.args.left vs) (builds_from B f.pasts F c.args.left vs) zs start in
            two_built c.args.builds.now c.loop-i.builds c.enter.new.builds (count (take c.loop-i.i xs)) (builds_from B f.pasts F c.args.left vs a mid) (count (take (c.loop-i.i + 1) xs))
            (inv.builds_are f since old)
            (one.builds f (inv.since f since) beside ∙ ap (λ us. c.loop-i.builds + builds_from B f.pasts F c.args.left us a mid) inv.now_is)
            (ap count (taken_more (plain_arrival f) c.args.arriving.now c.loop-i.i r c.loop-i-test.true c.index-arriving-i.is)
            ∙ c.builds_are_counted_in_turn.ensures.more B f.pasts F c.args.left vs (take c.loop-i.i xs) a start mid _ (inv.entered f since old).is);
        since = λ f since. one.since f (inv.since f since);
        keeps = c.keep_laws.ensures.again c.args.t.now.tree c.loop-i.t.tree u inv.keeps one.keeps;
        keeps_drawn = c.keep_laws-2.ensures.again c.args.r.now.tree c.loop-i.r.tree s inv.keeps_drawn one.keeps_drawn;
        makes_drawn = makes_more c.args.r.now.tree c.loop-i.r.tree s one.keeps_drawn inv.makes_drawn one.makes_drawn;
        ready = one.ready;
        spots = one.spots;
        old_spots = λ f since old spots.
            let beside = subst (λ us. IfSome r.beside (IsOld f us)) (sym inv.was_is) (subst (λ (b : Arrival). IfSome b.beside (IsOld f c.args.names.now.was.items)) (sym c.index-arriving-i.is) (old c.loop-i.i r c.loop-i-test.true)) in
            one.old_spots f (inv.since f since) beside (inv.old_spots f since old spots);
        none_waits = λ is. one.none_waits is ∙ inv.none_waits is;
        held = λ hs before. one.held hs (inv.held hs before);
        now_is = one.names.0 ∙ inv.now_is;
        was_is = one.names.1 ∙ inv.was_is;
      },
      c.in_ok-handle.ensures.scale ∙ c.loop-i.invariant.1,
      omega (arith, c.push_reserved.ensures.len, c.loop-i.invariant.2),
      omega (arith, c.push_reserved.ensures.capacity, c.loop-i.invariant.3),
    )

pub enter_all-returns-clause-entered : goal.enter_all-returns-clause-entered
enter_all-returns-clause-entered g t c = λ f since old.
    let xs = map (plain_arrival f) c.args.arriving.now in
    let long : length xs ≤ c.loop-i.i = rw length-map (omega arith) in
    subst (λ zs. AreEntered (basis_of c.args.from.now f) f.pasts (phase_of c.args.phase) c.args.left c.args.names.now.now.items f.scrolled (place_of c.args.place.now) zs
    (progress_of f c.args.walk.now c.args.g.now c.args.t.now.tree) (progress_of f c.loop-i.walk c.loop-i.g c.loop-i.t.tree) c.loop-i.t.tree c.loop-i.r.tree (plans_of c.args.walk.now) (plans_of c.loop-i.walk) c.loop-i.handles.items)
    (take_all c.loop-i.i xs long) (c.loop-i.invariant.0.entered f since old)

pub enter_all-returns-clause-builds : goal.enter_all-returns-clause-builds
enter_all-returns-clause-builds g t c = λ f since old.
    let B = basis_of c.args.from.now f in
    let F = phase_of c.args.phase in
    let vs = c.args.names.now.now.items in
    let xs = map (plain_arrival f) c.args.arriving.now in
    let long : length xs ≤ c.loop-i.i = rw length-map (omega arith) in
    c.loop-i.invariant.0.builds_are f since old
    ∙ ap (λ zs. c.args.builds.now + builds_by_each (reenter B f.pasts F c.args.left vs) (builds_from B f.pasts F c.args.left vs) zs (progress_of f c.args.walk.now c.args.g.now c.args.t.now.tree)) (take_all c.loop-i.i xs long)

pub enter_all-returns-clause-old_spots : goal.enter_all-returns-clause-old_spots
enter_all-returns-clause-old_spots g t c = c.loop-i.invariant.0.old_spots

pub enter_all-returns-clause-makes_drawn : goal.enter_all-returns-clause-makes_drawn
enter_all-returns-clause-makes_drawn g t c = c.loop-i.invariant.0.makes_drawn

pub enter_all-returns-clause-none_waits : goal.enter_all-returns-clause-none_waits
enter_all-returns-clause-none_waits g t c = c.loop-i.invariant.0.none_waits

pub enter_all-returns-clause-held : goal.enter_all-returns-clause-held
enter_all-returns-clause-held g t c = c.loop-i.invariant.0.held

pub enter_all-returns-clause-names : goal.enter_all-returns-clause-names
enter_all-returns-clause-names g t c = (c.loop-i.invariant.0.now_is, c.loop-i.invariant.0.was_is)

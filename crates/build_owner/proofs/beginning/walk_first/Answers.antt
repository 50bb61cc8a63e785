use Rattle.std.proofs.Common.{[], sym, ap, subst, ◌∙◌, ◌+◌}
use Rattle.std.proofs.lemmas.List.Elements.{All-nil}
use Rattle.node_tree.specs.Plan.{planned}
use Rattle.program_check.specs.CheckedView.{plain_checked}
use Rattle.widget_model.specs.View.{shared}
use Rattle.build_form.specs.Program.{blueprint_of}
use Rattle.build_owner.specs.Entry.{IsTypedSpot, AreTypedSpots, AreOldSpots}
use Rattle.build_owner.specs.Naming.{AreHeld}
use Rattle.build_owner.specs.Standing.{frame_of}
use Rattle.build_owner.specs.WalkView.{declared_by, plain_arrival, progress_of, plans_of, place_of}
use Rattle.build_owner.proofs.Begun.{on_both, fault_map, run_same, count_same, walked_first}
use Rattle.build_owner.proofs.Cycling.{ok_both, ok_more}
use Rattle.build_owner.proofs.Framed.{same_holders, none_met, start_progress, root_matched, root_typed, since_frame, held_first, root_comes, ready_first, old_arrival}
use Rattle.build_owner.proofs.beginning.walk_first.Goals as goal

pub enter-requires-clause-ready : goal.enter-requires-clause-ready
enter-requires-clause-ready g c =
    let p = plain_checked c.args.from.now.checked.now in
    let t = c.args.t.now.tree in
    let b = c.requires.stands in
    let s = b.stands.elements in
    let checked = c.in_ok-names.ensures.checked in
    let law = c.standing_elements_are_known.ensures in
    ready_first p t c.args.r.now.tree c.args.g.now b (λ h. law.built p b.marks b.old b.scrolled t h checked s) c.begin.new.self (same_holders c.args.g.now c.begin.new.self c.begin.ensures.recorded)
    (λ h e. law.names p b.marks b.old b.scrolled t h e checked s) (λ h e. law.outputs p b.marks b.old b.scrolled t h e checked s) (blueprint_of p).nodes c.requires.room c.args.walk.now.entered c.requires.entered

pub enter-requires-clause-spots : goal.enter-requires-clause-spots
enter-requires-clause-spots g c =
    subst (AreTypedSpots (declared_by c.args.from.now) c.args.t.now.tree) (sym c.requires.spots) (All-nil (IsTypedSpot (declared_by c.args.from.now) c.args.t.now.tree))

pub enter-requires-clause-now : goal.enter-requires-clause-now
enter-requires-clause-now g c = c.in_ok-names.ensures.now_typed

pub enter-requires-clause-was : goal.enter-requires-clause-was
enter-requires-clause-was g c = c.in_ok-names.ensures.was_typed

pub enter-requires-clause-arrival : goal.enter-requires-clause-arrival
enter-requires-clause-arrival g c =
    let p = plain_checked c.args.from.now.checked.now in
    let t = c.args.t.now.tree in
    let w = shared c.args.root.now in
    let b = c.requires.stands in
    let s = b.stands.elements in
    root_typed t w (declared_by c.args.from.now) c.in_ok-arrival.arrival c.in_ok-arrival.ensures.widget c.in_ok-arrival.ensures.beside c.requires.root
    (root_matched t w (declared_by c.args.from.now) s.forest s.root s.is.stands (λ h. c.standing_elements_are_known.ensures.built p b.marks b.old b.scrolled t h c.in_ok-names.ensures.checked s))

pub returns-clause-walked : goal.returns-clause-walked
returns-clause-walked g c =
    let p = plain_checked c.args.from.now.checked.now in
    let t = c.args.t.now.tree in
    let r = c.args.r.now.tree in
    let k = c.begin.new.self in
    let w = shared c.args.root.now in
    let a = c.in_ok-arrival.arrival in
    let more = on_both _ _ _ c.enter.ensures.since (on_both _ _ _ c.enter.ensures.makes_drawn (on_both _ _ _ c.enter.ensures.held (on_both _ _ _ c.enter.ensures.ready (on_both _ _ _ c.enter.ensures.spots c.enter.ensures.old_spots)))) in
    ok_both _ _ _ c.enter.result (λ h entered also. λ b.
    let s = b.stands.elements in
    let f = frame_of p t r c.args.g.now b in
    let checked = c.in_ok-names.ensures.checked in
    let begun = same_holders c.args.g.now k c.begin.ensures.recorded in
    let tops = c.kept_elements_are_known.ensures.tops f.pasts b.scrolled (blueprint_of p).defaults t r s.forest s.is (c.standing_elements_are_known.ensures.tells p b.marks b.old b.scrolled t s) b.stands.renders.drawn in
    let since = since_frame p t r c.args.g.now b tops k begun in
    let beside = old_arrival f t w a (blueprint_of p).defaults c.in_ok-names.names.was.items tops c.in_ok-arrival.ensures.beside c.in_ok-names.ensures.was in
    walked_first p t r c.args.g.now b w (c.walk_laws.ensures.subtree t) (c.first_phases_go_on_from_elements.ensures.same p b.marks b.old b.scrolled t w checked s) c.in_ok-names.names.now.items (plain_arrival f a)
    (progress_of f c.args.walk.now k t) c.in_ok-names.ensures.now
    (root_comes p t r c.args.g.now b (c.walk_laws.ensures.subtree t) w a c.in_ok-arrival.ensures.widget c.in_ok-arrival.ensures.place c.in_ok-arrival.ensures.beside)
    (start_progress f c.args.walk.now k t c.requires.entered c.requires.spots (none_met c.args.g.now k c.begin.ensures.recorded))
    c.enter.new.t.tree c.enter.new.r.tree c.enter.new.g c.enter.new.walk h (place_of c.above_all.result) (plans_of c.args.walk.now) c.above_all.ensures c.requires.plans
    (entered f since beside) (also.0 f since) also.1.0
    (also.1.1.0 [] (subst (λ es. AreHeld k t (planned es)) (sym c.requires.elements) (held_first p t r c.args.g.now b k begun)))
    also.1.1.1.0 also.1.1.1.1.0
    (also.1.1.1.1.1 f since beside (subst (AreOldSpots f) (sym c.requires.spots) (All-nil _)))) c.enter.ensures.entered more

pub returns-clause-fault : goal.returns-clause-fault
returns-clause-fault g c =
    let p = plain_checked c.args.from.now.checked.now in
    let t = c.args.t.now.tree in
    let r = c.args.r.now.tree in
    let k = c.begin.new.self in
    let w = shared c.args.root.now in
    let a = c.in_ok-arrival.arrival in
    fault_map c.enter.result _ _ (λ x stopped. λ b.
    let s = b.stands.elements in
    let f = frame_of p t r c.args.g.now b in
    let checked = c.in_ok-names.ensures.checked in
    let begun = same_holders c.args.g.now k c.begin.ensures.recorded in
    let tops = c.kept_elements_are_known.ensures.tops f.pasts b.scrolled (blueprint_of p).defaults t r s.forest s.is (c.standing_elements_are_known.ensures.tells p b.marks b.old b.scrolled t s) b.stands.renders.drawn in
    let since = since_frame p t r c.args.g.now b tops k begun in
    let beside = old_arrival f t w a (blueprint_of p).defaults c.in_ok-names.names.was.items tops c.in_ok-arrival.ensures.beside c.in_ok-names.ensures.was in
    sym (run_same p t r c.args.g.now b w (c.walk_laws.ensures.subtree t) (c.first_phases_go_on_from_elements.ensures.same p b.marks b.old b.scrolled t w checked s) c.in_ok-names.names.now.items (plain_arrival f a)
    (progress_of f c.args.walk.now k t) c.in_ok-names.ensures.now
    (root_comes p t r c.args.g.now b (c.walk_laws.ensures.subtree t) w a c.in_ok-arrival.ensures.widget c.in_ok-arrival.ensures.place c.in_ok-arrival.ensures.beside)
    (start_progress f c.args.walk.now k t c.requires.entered c.requires.spots (none_met c.args.g.now k c.begin.ensures.recorded)))
    ∙ stopped f since beside) c.enter.ensures.fault

pub returns-clause-builds : goal.returns-clause-builds
returns-clause-builds g c =
    let p = plain_checked c.args.from.now.checked.now in
    let t = c.args.t.now.tree in
    let r = c.args.r.now.tree in
    let k = c.begin.new.self in
    let w = shared c.args.root.now in
    let a = c.in_ok-arrival.arrival in
    ok_more _ _ c.enter.result (λ counted. λ b.
    let s = b.stands.elements in
    let f = frame_of p t r c.args.g.now b in
    let checked = c.in_ok-names.ensures.checked in
    let begun = same_holders c.args.g.now k c.begin.ensures.recorded in
    let tops = c.kept_elements_are_known.ensures.tops f.pasts b.scrolled (blueprint_of p).defaults t r s.forest s.is (c.standing_elements_are_known.ensures.tells p b.marks b.old b.scrolled t s) b.stands.renders.drawn in
    let since = since_frame p t r c.args.g.now b tops k begun in
    let beside = old_arrival f t w a (blueprint_of p).defaults c.in_ok-names.names.was.items tops c.in_ok-arrival.ensures.beside c.in_ok-names.ensures.was in
    counted f since beside
    ∙ ap (λ n. c.args.builds.now + n)
    (count_same p t r c.args.g.now b w (c.walk_laws.ensures.subtree t) (c.first_phases_go_on_from_elements.ensures.same p b.marks b.old b.scrolled t w checked s) c.in_ok-names.names.now.items (plain_arrival f a)
    (progress_of f c.args.walk.now k t) c.in_ok-names.ensures.now
    (root_comes p t r c.args.g.now b (c.walk_laws.ensures.subtree t) w a c.in_ok-arrival.ensures.widget c.in_ok-arrival.ensures.place c.in_ok-arrival.ensures.beside)
    (start_progress f c.args.walk.now k t c.requires.entered c.requires.spots (none_met c.args.g.now k c.begin.ensures.recorded)) _
    (c.first_phases_go_on_from_elements.ensures.builds p b.marks b.old b.scrolled t w checked s))) c.enter.ensures.builds

pub returns-clause-builds_at_fault : goal.returns-clause-builds_at_fault
returns-clause-builds_at_fault g c =
    let p = plain_checked c.args.from.now.checked.now in
    let t = c.args.t.now.tree in
    let r = c.args.r.now.tree in
    let k = c.begin.new.self in
    let w = shared c.args.root.now in
    let a = c.in_ok-arrival.arrival in
    fault_map c.enter.result _ _ (λ x counted. λ b.
    let s = b.stands.elements in
    let f = frame_of p t r c.args.g.now b in
    let checked = c.in_ok-names.ensures.checked in
    let begun = same_holders c.args.g.now k c.begin.ensures.recorded in
    let tops = c.kept_elements_are_known.ensures.tops f.pasts b.scrolled (blueprint_of p).defaults t r s.forest s.is (c.standing_elements_are_known.ensures.tells p b.marks b.old b.scrolled t s) b.stands.renders.drawn in
    let since = since_frame p t r c.args.g.now b tops k begun in
    let beside = old_arrival f t w a (blueprint_of p).defaults c.in_ok-names.names.was.items tops c.in_ok-arrival.ensures.beside c.in_ok-names.ensures.was in
    counted f since beside
    ∙ ap (λ n. c.args.builds.now + n)
    (count_same p t r c.args.g.now b w (c.walk_laws.ensures.subtree t) (c.first_phases_go_on_from_elements.ensures.same p b.marks b.old b.scrolled t w checked s) c.in_ok-names.names.now.items (plain_arrival f a)
    (progress_of f c.args.walk.now k t) c.in_ok-names.ensures.now
    (root_comes p t r c.args.g.now b (c.walk_laws.ensures.subtree t) w a c.in_ok-arrival.ensures.widget c.in_ok-arrival.ensures.place c.in_ok-arrival.ensures.beside)
    (start_progress f c.args.walk.now k t c.requires.entered c.requires.spots (none_met c.args.g.now k c.begin.ensures.recorded)) _
    (c.first_phases_go_on_from_elements.ensures.builds p b.marks b.old b.scrolled t w checked s))) c.enter.ensures.builds_at_fault

pub returns-clause-checked : goal.returns-clause-checked
returns-clause-checked g c = ok_more _ _ c.enter.result (λ x. c.in_ok-names.ensures.checked) c.enter.ensures.ready

use Rattle.std.proofs.Common.{None, Some, length, map, refl, ap, ◌∙◌, arith}
use Rattle.std.proofs.lemmas.Result.{err_from_is_err_and}
use Rattle.std.proofs.lemmas.List.{length-map}
use Rattle.node_tree.specs.Plan.{planned}
use Rattle.program_check.specs.CheckedView.{plain_checked}
use Rattle.template_build.specs.Program.{declarations_of}
use Rattle.build_form.specs.FaultView.{fault_of}
use Rattle.build_form.specs.FullBuild.{live_ranges}
use Rattle.build_form.specs.Program.{blueprint_of}
use Rattle.build_form.proofs.Outcomes.{some_map}
use Rattle.build_walk.specs.Kept.{node_over}
use Rattle.build_walk.specs.Merging.{lists_renewal, lists_redraw, merge}
use Rattle.build_walk.specs.Standing.{first_builds}
use Rattle.build_owner.specs.Phases.{first_phase_node}
use Rattle.build_owner.specs.Ranging.{listed_in, range_at}
use Rattle.build_owner.specs.Standing.{next_at, frame_of}
use Rattle.build_owner.proofs.Completed.{lists_wait, first_well, ranged_now, none_left, frame_now, since_now, spots_now, ready_now, drawn_now, lists_bare, first_forest_of, lists_served, lists_stop, lists_count, whole_kids, whole_forest, can_commit_whole, lists_long, counted_all, item_build, build_of, laid_so}
use Rattle.build_owner.proofs.completing.complete.Goals as goal

pub serve_all-requires-clause-ready : goal.serve_all-requires-clause-ready
serve_all-requires-clause-ready g c =
    let C = plain_checked c.args.checked.now in
    let t = c.args.t.now.tree in
    let r = c.args.r.now.tree in
    let k = c.args.g.now in
    let l = build_of c.lazy.inside.root c.lazy.inside.walk in
    ready_now C t r k l ((rw (← c.lazy.view_is) at c.requires.phase) (lists_wait _ (c.is_settled.ensures.some c.if-is_settled.false)))

pub serve_all-requires-clause-spots : goal.serve_all-requires-clause-spots
serve_all-requires-clause-spots g c = ((rw (← c.lazy.view_is) at c.requires.phase) (lists_wait _ (c.is_settled.ensures.some c.if-is_settled.false))).phase.walked.spots

pub serve_all-requires-clause-drawn : goal.serve_all-requires-clause-drawn
serve_all-requires-clause-drawn g c =
    let C = plain_checked c.args.checked.now in
    let t = c.args.t.now.tree in
    let r = c.args.r.now.tree in
    let k = c.args.g.now in
    let l = build_of c.lazy.inside.root c.lazy.inside.walk in
    lists_long C t r k l ((rw (← c.lazy.view_is) at c.requires.phase) (lists_wait _ (c.is_settled.ensures.some c.if-is_settled.false))) c.as_slice-3.result.now (c.as_slice-3.ensures.value ∙ c.in_ok-drawn.ensures ∙ ap (listed_in lists_redraw) c.as_slice.ensures.value)

pub serve_all-requires-clause-ranges : goal.serve_all-requires-clause-ranges
serve_all-requires-clause-ranges g c =
    let C = plain_checked c.args.checked.now in
    let t = c.args.t.now.tree in
    let r = c.args.r.now.tree in
    let k = c.args.g.now in
    let l = build_of c.lazy.inside.root c.lazy.inside.walk in
    ap length (c.as_slice-4.ensures.value ∙ c.in_ok-ranges.ensures) ∙ length-map c.as_slice-2.result.now (range_at r)
    ∙ lists_long C t r k l ((rw (← c.lazy.view_is) at c.requires.phase) (lists_wait _ (c.is_settled.ensures.some c.if-is_settled.false))) c.as_slice-2.result.now (c.as_slice-2.ensures.value ∙ c.in_ok-drawn.ensures ∙ ap (listed_in lists_redraw) c.as_slice.ensures.value)

pub returns-in_err-served-clause-fault : goal.returns-in_err-served-clause-fault
returns-in_err-served-clause-fault g c =
    let q = err_from_is_err_and c.from_residual-in_err-served.result c.from_residual-in_err-served.ensures.1 in
    rw (q.1, q.2, ← c.lazy.view_is) (some_map _ _ (fault_of c.in_err-served.field-0.0) (λ x stopped. λ p.
    let C = plain_checked c.args.checked.now in
    let t = c.args.t.now.tree in
    let r = c.args.r.now.tree in
    let k = c.args.g.now in
    let l = build_of c.lazy.inside.root c.lazy.inside.walk in
    let which = live_ranges p.screen (first_phase_node p) in
    let listed = c.in_ok-drawn.ensures ∙ ap (listed_in lists_redraw) c.as_slice.ensures.value in
    let of_hs = c.as_slice-3.ensures.value ∙ listed in
    let ranged = c.as_slice-4.ensures.value ∙ c.in_ok-ranges.ensures ∙ ap (map (range_at r)) (c.as_slice-2.ensures.value ∙ listed) ∙ ranged_now C t r k l p (first_well C t r k l p c.builds_are_well_built.ensures.first) in
    lists_stop C t r k l p which _ (c.walk_laws.ensures.subtree p.elements) (c.is_settled.ensures.some c.if-is_settled.false) x (c.items_complete_the_build.ensures.fault C p.begun.marks p.begun.old p.begun.scrolled p.elements p.screen p.root (first_phase_node p) _ x
    p.phase.checked p.begun.stands.elements p.phase.small p.phase.walked.is (none_left (frame_of C p.elements p.renders p.registry p.begun) l.plan.spots.items (c.is_settled.ensures.some c.if-is_settled.false)))
    (stopped (frame_now C t r k l p) (since_now C t r k l p) (spots_now C t r k l p) which ranged)) c.in_err-served.ensures.fault)

pub returns-in_err-served-clause-builds_at_fault : goal.returns-in_err-served-clause-builds_at_fault
returns-in_err-served-clause-builds_at_fault g c =
    let q = err_from_is_err_and c.from_residual-in_err-served.result c.from_residual-in_err-served.ensures.1 in
    rw (q.1, q.2, ← c.lazy.view_is) (some_map _ _ (fault_of c.in_err-served.field-0.0) (λ x counted. λ p.
    let C = plain_checked c.args.checked.now in
    let t = c.args.t.now.tree in
    let r = c.args.r.now.tree in
    let k = c.args.g.now in
    let l = build_of c.lazy.inside.root c.lazy.inside.walk in
    let which = live_ranges p.screen (first_phase_node p) in
    let listed = c.in_ok-drawn.ensures ∙ ap (listed_in lists_redraw) c.as_slice.ensures.value in
    let of_hs = c.as_slice-3.ensures.value ∙ listed in
    let ranged = c.as_slice-4.ensures.value ∙ c.in_ok-ranges.ensures ∙ ap (map (range_at r)) (c.as_slice-2.ensures.value ∙ listed) ∙ ranged_now C t r k l p (first_well C t r k l p c.builds_are_well_built.ensures.first) in
    counted_all c.args.builds.now _ (first_builds (blueprint_of C) p.begun.old p.begun.marks (next_at p.elements) p.root) _ _
    (lists_count C t r k l p which _ (c.walk_laws.ensures.subtree p.elements) c.args.builds.now _ (counted (frame_now C t r k l p) (since_now C t r k l p) (spots_now C t r k l p) which ranged))
    (c.items_complete_the_build.ensures.builds C p.begun.marks p.begun.old p.begun.scrolled p.elements p.screen p.root (first_phase_node p) _
    p.phase.checked p.begun.stands.elements p.phase.small p.phase.walked.is (none_left (frame_of C p.elements p.renders p.registry p.begun) l.plan.spots.items (c.is_settled.ensures.some c.if-is_settled.false)))) c.in_err-served.ensures.builds_at_fault)

pub commit_whole-requires : goal.commit_whole-requires
commit_whole-requires g c =
    let C = plain_checked c.args.checked.now in
    let t = c.args.t.now.tree in
    let r = c.args.r.now.tree in
    let k = c.args.g.now in
    let l = build_of c.lazy.inside.root c.lazy.inside.walk in
    laid_so ((rw (← c.lazy.view_is) at c.requires.phase) (lists_wait _ (c.is_settled.ensures.some c.if-is_settled.false))) (λ p.
    let which = live_ranges p.screen (first_phase_node p) in
    let listed = c.in_ok-drawn.ensures ∙ ap (listed_in lists_redraw) c.as_slice.ensures.value in
    let of_hs = c.as_slice-3.ensures.value ∙ listed in
    let ranged = c.as_slice-4.ensures.value ∙ c.in_ok-ranges.ensures ∙ ap (map (range_at r)) (c.as_slice-2.ensures.value ∙ listed) ∙ ranged_now C t r k l p (first_well C t r k l p c.builds_are_well_built.ensures.first) in
    let s = c.in_ok-served.ensures.served (frame_now C t r k l p) (since_now C t r k l p) (spots_now C t r k l p) which ranged in
    let t2 = c.serve_all.new.t.tree in
    let r2 = c.serve_all.new.r.tree in
    let g2 = c.serve_all.new.g in
    let hs = c.as_slice-3.result.now in
    let os = c.in_ok-served.served.items in
    let shown = c.walk_laws.ensures.subtree p.elements in
    let done = lists_served C t r k l p which t2 r2 g2 hs _ _ os s shown in
    let full = c.items_complete_the_build.ensures.nodes C p.begun.marks p.begun.old p.begun.scrolled p.elements p.screen p.root l.root p.phase.walked.entered.value p.phase.walked.entered.kids s.forests _ _
    p.phase.checked p.begun.stands.elements p.phase.small p.phase.walked.is (none_left (frame_of C p.elements p.renders p.registry p.begun) l.plan.spots.items (c.is_settled.ensures.some c.if-is_settled.false)) done in
    let F = first_forest_of C t r k l p in
    let bare = lists_bare C t r k l p in
    let drawn_there = drawn_now C t r k l p in
    let well = c.builds_are_well_built.ensures.first C p.begun.old (next_at p.elements) p.root (first_phase_node p) _ p.phase.checked p.begun.stands.elements.well p.phase.typed p.phase.walked.is in
    let can = can_commit_whole C t r k l p which t2 r2 g2 hs _ _ os s
    (c.plans_of_items_are_merged.ensures.elements None F s.forests bare) (c.plans_of_items_are_merged.ensures.drawn r p.begun.scrolled None F s.forests drawn_there bare)
    _
    (c.in_ok-walk.ensures ∙ ap (λ ss. (merge lists_renewal l.plan.elements.items ss).plan) c.in_ok-items.ensures.elements)
    (c.in_ok-walk-2.ensures ∙ ap (λ ss. (merge lists_redraw l.plan.renders.items ss).plan) c.in_ok-items.ensures.renders)
    refl of_hs
    (c.forests_are_walked_in_turn.ensures.later_elements t t2 F c.in_ok-served.ensures.keeps p.phase.walked.entered.walked.go_on)
    (c.forests_are_walked_in_turn.ensures.later_objects r r2 p.begun.scrolled F c.in_ok-served.ensures.keeps_drawn drawn_there)
    (c.numbers_differ.ensures (blueprint_of C) p.screen p.begun.old (next_at p.elements) (next_at t2) p.root (node_over p.begun.scrolled p.phase.walked.entered.value (whole_kids C t r k l p which t2 r2 g2 hs _ _ os s))
    p.begun.stands.elements.numbered full).differ
    (c.built_trees_have_one_top.ensures (declarations_of C) r p.begun.scrolled l.root p.phase.walked.entered.value p.phase.walked.entered.kids well drawn_there)
    (c.in_ok-served.ensures.held (planned l.plan.elements.items) p.phase.walked.held) in
    can)

pub returns-clause-builds : goal.returns-clause-builds
returns-clause-builds g c = rw (← c.lazy.view_is) (λ waits. λ p.
    let some = c.is_settled.ensures.some c.if-is_settled.false in
    let C = plain_checked c.args.checked.now in
    let t = c.args.t.now.tree in
    let r = c.args.r.now.tree in
    let k = c.args.g.now in
    let l = build_of c.lazy.inside.root c.lazy.inside.walk in
    let which = live_ranges p.screen (first_phase_node p) in
    let listed = c.in_ok-drawn.ensures ∙ ap (listed_in lists_redraw) c.as_slice.ensures.value in
    let of_hs = c.as_slice-3.ensures.value ∙ listed in
    let ranged = c.as_slice-4.ensures.value ∙ c.in_ok-ranges.ensures ∙ ap (map (range_at r)) (c.as_slice-2.ensures.value ∙ listed) ∙ ranged_now C t r k l p (first_well C t r k l p c.builds_are_well_built.ensures.first) in
    counted_all c.args.builds.now _ (first_builds (blueprint_of C) p.begun.old p.begun.marks (next_at p.elements) p.root) _ _
    (lists_count C t r k l p which _ (c.walk_laws.ensures.subtree p.elements) c.args.builds.now _ (c.in_ok-served.ensures.builds (frame_now C t r k l p) (since_now C t r k l p) (spots_now C t r k l p) which ranged))
    (c.items_complete_the_build.ensures.builds C p.begun.marks p.begun.old p.begun.scrolled p.elements p.screen p.root (first_phase_node p) _
    p.phase.checked p.begun.stands.elements p.phase.small p.phase.walked.is (none_left (frame_of C p.elements p.renders p.registry p.begun) l.plan.spots.items some)))

pub returns-clause-whole : goal.returns-clause-whole
returns-clause-whole g c = rw (← c.lazy.view_is) (λ waits. λ p.
    let some = c.is_settled.ensures.some c.if-is_settled.false in
    let C = plain_checked c.args.checked.now in
    let t = c.args.t.now.tree in
    let r = c.args.r.now.tree in
    let k = c.args.g.now in
    let l = build_of c.lazy.inside.root c.lazy.inside.walk in
    let which = live_ranges p.screen (first_phase_node p) in
    let listed = c.in_ok-drawn.ensures ∙ ap (listed_in lists_redraw) c.as_slice.ensures.value in
    let of_hs = c.as_slice-3.ensures.value ∙ listed in
    let ranged = c.as_slice-4.ensures.value ∙ c.in_ok-ranges.ensures ∙ ap (map (range_at r)) (c.as_slice-2.ensures.value ∙ listed) ∙ ranged_now C t r k l p (first_well C t r k l p c.builds_are_well_built.ensures.first) in
    let s = c.in_ok-served.ensures.served (frame_now C t r k l p) (since_now C t r k l p) (spots_now C t r k l p) which ranged in
    let t2 = c.serve_all.new.t.tree in
    let r2 = c.serve_all.new.r.tree in
    let g2 = c.serve_all.new.g in
    let hs = c.as_slice-3.result.now in
    let os = c.in_ok-served.served.items in
    let shown = c.walk_laws.ensures.subtree p.elements in
    let done = lists_served C t r k l p which t2 r2 g2 hs _ _ os s shown in
    let full = c.items_complete_the_build.ensures.nodes C p.begun.marks p.begun.old p.begun.scrolled p.elements p.screen p.root l.root p.phase.walked.entered.value p.phase.walked.entered.kids s.forests _ _
    p.phase.checked p.begun.stands.elements p.phase.small p.phase.walked.is (none_left (frame_of C p.elements p.renders p.registry p.begun) l.plan.spots.items some) done in
    let F = first_forest_of C t r k l p in
    let bare = lists_bare C t r k l p in
    let drawn_there = drawn_now C t r k l p in
    let well = c.builds_are_well_built.ensures.first C p.begun.old (next_at p.elements) p.root (first_phase_node p) _ p.phase.checked p.begun.stands.elements.well p.phase.typed p.phase.walked.is in
    let can = can_commit_whole C t r k l p which t2 r2 g2 hs _ _ os s
    (c.plans_of_items_are_merged.ensures.elements None F s.forests bare) (c.plans_of_items_are_merged.ensures.drawn r p.begun.scrolled None F s.forests drawn_there bare)
    _
    (c.in_ok-walk.ensures ∙ ap (λ ss. (merge lists_renewal l.plan.elements.items ss).plan) c.in_ok-items.ensures.elements)
    (c.in_ok-walk-2.ensures ∙ ap (λ ss. (merge lists_redraw l.plan.renders.items ss).plan) c.in_ok-items.ensures.renders)
    refl of_hs
    (c.forests_are_walked_in_turn.ensures.later_elements t t2 F c.in_ok-served.ensures.keeps p.phase.walked.entered.walked.go_on)
    (c.forests_are_walked_in_turn.ensures.later_objects r r2 p.begun.scrolled F c.in_ok-served.ensures.keeps_drawn drawn_there)
    (c.numbers_differ.ensures (blueprint_of C) p.screen p.begun.old (next_at p.elements) (next_at t2) p.root (node_over p.begun.scrolled p.phase.walked.entered.value (whole_kids C t r k l p which t2 r2 g2 hs _ _ os s))
    p.begun.stands.elements.numbered full).differ
    (c.built_trees_have_one_top.ensures (declarations_of C) r p.begun.scrolled l.root p.phase.walked.entered.value p.phase.walked.entered.kids well drawn_there)
    (c.in_ok-served.ensures.held (planned l.plan.elements.items) p.phase.walked.held) in
    let x = c.in_ok-commit_whole.ensures.redrawn can in
    let made = c.in_ok-commit_whole.ensures.made in
    let stored = c.grown_forests_go_on.ensures.outputs p.begun.scrolled F s.forests p.phase.walked.entered.stored s.stored in
    let t3 = c.commit_whole.new.t.tree in
    let r3 = c.commit_whole.new.r.tree in
    let kids = whole_kids C t r k l p which t2 r2 g2 hs _ _ os s in
    let since = c.in_ok-served.ensures.since (frame_now C t r k l p) (since_now C t r k l p) in
    let node = node_over p.begun.scrolled p.phase.walked.entered.value kids in
    item_build C t r k l p t2 r2 t3 r3 c.commit_whole.new.g kids full made c.in_ok-commit_whole.ensures.names c.in_ok-served.ensures.keeps_drawn c.in_ok-served.ensures.makes_drawn x
    (c.builds_leave_standing_trees.ensures.elements C p.screen p.begun.old (next_at p.elements) p.root p.begun.scrolled t2 t3 l.root p.phase.walked.entered.value kids p.phase.checked p.begun.stands.elements.numbered
    p.begun.stands.elements.well p.phase.typed full can.go stored since.fresh (c.in_ok-commit_whole.ensures.elements can) c.in_ok-commit_whole.ensures.root made)
    (c.builds_leave_standing_trees.ensures.renders p.begun.scrolled (Some node) (whole_forest C t r k l p which t2 r2 g2 hs _ _ os s) r2 x.committed x.laid_marked r3 x.nodes x.laid x.painted refl can.drawn_is x.updated x.is x.root
    x.layouts x.paints) (c.in_ok-commit_whole.ensures.used can) (c.in_ok-commit_whole.ensures.used_drawn can))

pub returns-clause-few : goal.returns-clause-few
returns-clause-few g c = omega (arith, c.in_ok-served.ensures.makes_drawn.few, c.in_ok-commit_whole.ensures.inserted, c.in_ok-commit_whole.ensures.made)

pub returns-in_err-served-clause-nothing : goal.returns-in_err-served-clause-nothing
returns-in_err-served-clause-nothing g c = rw (← c.lazy.view_is) (λ none. absurd (lists_wait _ (c.is_settled.ensures.some c.if-is_settled.false) none))

pub returns-in_err-items-clause-nothing : goal.returns-in_err-items-clause-nothing
returns-in_err-items-clause-nothing g c = rw (← c.lazy.view_is) (λ none. absurd (lists_wait _ (c.is_settled.ensures.some c.if-is_settled.false) none))

pub returns-in_err-walk-clause-nothing : goal.returns-in_err-walk-clause-nothing
returns-in_err-walk-clause-nothing g c = rw (← c.lazy.view_is) (λ none. absurd (lists_wait _ (c.is_settled.ensures.some c.if-is_settled.false) none))

pub returns-in_err-walk-2-clause-nothing : goal.returns-in_err-walk-2-clause-nothing
returns-in_err-walk-2-clause-nothing g c = rw (← c.lazy.view_is) (λ none. absurd (lists_wait _ (c.is_settled.ensures.some c.if-is_settled.false) none))

pub returns-in_err-commit_whole-clause-nothing : goal.returns-in_err-commit_whole-clause-nothing
returns-in_err-commit_whole-clause-nothing g c = rw (← c.lazy.view_is) (λ none. absurd (lists_wait _ (c.is_settled.ensures.some c.if-is_settled.false) none))

pub returns-clause-nothing : goal.returns-clause-nothing
returns-clause-nothing g c = rw (← c.lazy.view_is) (λ none. absurd (lists_wait _ (c.is_settled.ensures.some c.if-is_settled.false) none))

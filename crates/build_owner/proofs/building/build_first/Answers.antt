use Rattle.std.proofs.Common.{Some, [], ◌+◌, ◌++◌, refl, sym, ap, ◌∙◌, arith}
use Rattle.std.proofs.lemmas.Result.{err_from_is_err_and}
use Rattle.program_check.specs.CheckedView.{plain_checked}
use Rattle.template_build.specs.Program.{declarations_of}
use Rattle.widget_model.specs.View.{shared}
use Rattle.element_tree.specs.Element.{made_count}
use Rattle.build_form.specs.FaultView.{fault_of}
use Rattle.build_form.specs.Program.{blueprint_of}
use Rattle.build_form.proofs.Outcomes.{some_map}
use Rattle.build_form.proofs.Started.{large_root, small_root}
use Rattle.build_walk.specs.Standing.{built_among}
use Rattle.build_owner.specs.Standing.{next_at, frame_of}
use Rattle.build_owner.specs.WalkView.{progress_of}
use Rattle.build_owner.specs.Committing.{whole_tree, whole_drawn}
use Rattle.build_owner.proofs.Cycling.{some_both}
use Rattle.build_owner.proofs.Firstly.{spots_none, new_tree, new_node, none_wait, can_commit, can_draw, first_plan_bare, whole_build, none_more}
use Rattle.build_owner.proofs.Stayed.{with_items_stand}
use Rattle.build_owner.proofs.Whole.{render_plan}
use Rattle.build_owner.proofs.building.build_first.Goals as goal

pub returns-then-deref-gt-OUTPUT_LIMIT-clause-fault : goal.returns-then-deref-gt-OUTPUT_LIMIT-clause-fault
returns-then-deref-gt-OUTPUT_LIMIT-clause-fault g c = λ b screen.
    (c.first_phases_go_on_from_elements.ensures.large (blueprint_of (plain_checked c.args.checked.now)) screen b.old (next_at c.args.t.now.tree) (shared c.args.root.now)
    (large_root c.args.root.now.value c.deref.result.now c.deref.ensures c.requires.size c.if-deref-gt-OUTPUT_LIMIT.true)).0

pub returns-then-deref-gt-OUTPUT_LIMIT-clause-builds_at_fault : goal.returns-then-deref-gt-OUTPUT_LIMIT-clause-builds_at_fault
returns-then-deref-gt-OUTPUT_LIMIT-clause-builds_at_fault g c = λ b screen.
    let B = blueprint_of (plain_checked c.args.checked.now) in
    none_more c.args.builds.now _ (ap (built_among B.defaults b.old b.marks)
    (c.first_phases_go_on_from_elements.ensures.large B screen b.old (next_at c.args.t.now.tree) (shared c.args.root.now)
    (large_root c.args.root.now.value c.deref.result.now c.deref.ensures c.requires.size c.if-deref-gt-OUTPUT_LIMIT.true)).1)

pub returns-in_err-at-clause-fault : goal.returns-in_err-at-clause-fault
returns-in_err-at-clause-fault g c =
    let p = err_from_is_err_and c.from_residual-in_err-at.result c.from_residual-in_err-at.ensures.1 in
    let small = small_root c.args.root.now.value c.deref.result.now c.deref.ensures c.requires.size c.if-deref-gt-OUTPUT_LIMIT.false in
    rw (p.1, p.2) (some_map _ _ (fault_of c.in_err-at.field-0.0) (λ x stopped. λ b screen.
    (c.first_phases_go_on_from_elements.ensures.fault (blueprint_of (plain_checked c.args.checked.now)) screen b.old (next_at c.args.t.now.tree) (shared c.args.root.now) x small (stopped b)).0) c.in_err-at.ensures.fault)

pub returns-in_err-at-clause-builds_at_fault : goal.returns-in_err-at-clause-builds_at_fault
returns-in_err-at-clause-builds_at_fault g c =
    let p = err_from_is_err_and c.from_residual-in_err-at.result c.from_residual-in_err-at.ensures.1 in
    let B = blueprint_of (plain_checked c.args.checked.now) in
    let small = small_root c.args.root.now.value c.deref.result.now c.deref.ensures c.requires.size c.if-deref-gt-OUTPUT_LIMIT.false in
    rw (p.1, p.2) (some_both _ _ _ (fault_of c.in_err-at.field-0.0) (λ x stopped counted. λ b screen.
    counted b ∙ ap (λ es. c.args.builds.now + built_among B.defaults b.old b.marks es)
    (sym (c.first_phases_go_on_from_elements.ensures.fault B screen b.old (next_at c.args.t.now.tree) (shared c.args.root.now) x small (stopped b)).1)) c.in_err-at.ensures.fault c.in_err-at.ensures.builds_at_fault)

pub commit_whole-requires : goal.commit_whole-requires
commit_whole-requires g c =
    let C = plain_checked c.args.checked.now in
    let B = blueprint_of C in
    let t0 = c.args.t.now.tree in
    let r0 = c.args.r.now.tree in
    let g0 = c.args.g.now in
    let b = c.requires.stands in
    let w = shared c.args.root.now in
    let t1 = c.walk_first.new.t.tree in
    let r1 = c.walk_first.new.r.tree in
    let g1 = c.walk_first.new.g in
    let walk = c.walk_first.new.walk in
    let at = c.in_ok-at.at in
    let p = c.in_ok-at.ensures.walked b in
    let node = new_node C t0 r0 g0 b w t1 r1 g1 walk at p in
    let s = progress_of (frame_of C t0 r0 g0 b) walk g1 t1 in
    let well = c.builds_are_well_built.ensures.first C b.old (next_at t0) w node s c.in_ok-at.ensures.checked b.stands.elements.well c.requires.root p.is in
    can_commit C t0 r0 g0 b w t1 r1 g1 walk at p (c.survivors.ensures.first B b.old (next_at t0) w node s b.stands.elements.numbered p.is).differ
    (c.built_trees_have_one_top.ensures (declarations_of C) r1 b.scrolled at p.entered.value p.entered.kids well p.entered.walked.drawn)

pub returns-then-len-eq0-clause-whole : goal.returns-then-len-eq0-clause-whole
returns-then-len-eq0-clause-whole g c = λ nothing. λ b screen.
    let none = spots_none _ nothing in
    let C = plain_checked c.args.checked.now in
    let B = blueprint_of C in
    let t0 = c.args.t.now.tree in
    let r0 = c.args.r.now.tree in
    let g0 = c.args.g.now in
    let w = shared c.args.root.now in
    let t1 = c.walk_first.new.t.tree in
    let r1 = c.walk_first.new.r.tree in
    let g1 = c.walk_first.new.g in
    let walk = c.walk_first.new.walk in
    let at = c.in_ok-at.at in
    let t2 = c.commit_whole.new.t.tree in
    let r2 = c.commit_whole.new.r.tree in
    let g2 = c.commit_whole.new.g in
    let checked = c.in_ok-at.ensures.checked in
    let p = c.in_ok-at.ensures.walked b in
    let node = new_node C t0 r0 g0 b w t1 r1 g1 walk at p in
    let s = progress_of (frame_of C t0 r0 g0 b) walk g1 t1 in
    let old = b.stands.elements in
    let well = c.builds_are_well_built.ensures.first C b.old (next_at t0) w node s checked old.well c.requires.root p.is in
    let differ = (c.survivors.ensures.first B b.old (next_at t0) w node s old.numbered p.is).differ in
    let top = c.built_trees_have_one_top.ensures (declarations_of C) r1 b.scrolled at p.entered.value p.entered.kids well p.entered.walked.drawn in
    let can = can_commit C t0 r0 g0 b w t1 r1 g1 walk at p differ top in
    let done = c.in_ok-commit_whole.ensures in
    let small = small_root c.args.root.now.value c.deref.result.now c.deref.ensures c.requires.size c.if-deref-gt-OUTPUT_LIMIT.false in
    let waits = none_wait (frame_of C t0 r0 g0 b) walk g1 t1 (sym (ap (λ x. x.items) done.spots) ∙ none) in
    let full = (c.first_phases_go_on_from_elements.ensures.whole B screen b.old (next_at t0) w node s small p.is waits).0 in
    let x = done.redrawn can in
    whole_build C t0 r0 g0 b w t1 r1 g1 walk at p screen t2 r2 g2 done.made full done.names p.since.renders p.makes x
    (c.builds_leave_standing_trees.ensures.elements C screen b.old (next_at t0) w b.scrolled t1 t2 at p.entered.value p.entered.kids checked old.numbered old.well c.requires.root full p.entered.walked.go_on p.entered.stored
    p.since.fresh (done.elements can) done.root done.made)
    (c.builds_leave_standing_trees.ensures.renders b.scrolled (Some node) (new_tree C t0 r0 g0 b w t1 r1 g1 walk at p) r1 x.committed x.laid_marked r2 x.nodes x.laid x.painted refl p.entered.walked.drawn x.updated x.is x.root
    x.layouts x.paints) (done.used can) (done.used_drawn can)

pub returns-then-len-eq0-clause-builds_whole : goal.returns-then-len-eq0-clause-builds_whole
returns-then-len-eq0-clause-builds_whole g c = λ nothing. λ b screen.
    let none = spots_none _ nothing in
    let C = plain_checked c.args.checked.now in
    let B = blueprint_of C in
    let t0 = c.args.t.now.tree in
    let r0 = c.args.r.now.tree in
    let g0 = c.args.g.now in
    let w = shared c.args.root.now in
    let t1 = c.walk_first.new.t.tree in
    let r1 = c.walk_first.new.r.tree in
    let g1 = c.walk_first.new.g in
    let walk = c.walk_first.new.walk in
    let p = c.in_ok-at.ensures.walked b in
    let small = small_root c.args.root.now.value c.deref.result.now c.deref.ensures c.requires.size c.if-deref-gt-OUTPUT_LIMIT.false in
    let waits = none_wait (frame_of C t0 r0 g0 b) walk g1 t1 (sym (ap (λ x. x.items) c.in_ok-commit_whole.ensures.spots) ∙ none) in
    c.in_ok-at.ensures.builds b
    ∙ ap (λ es. c.args.builds.now + built_among B.defaults b.old b.marks es)
    (sym (c.first_phases_go_on_from_elements.ensures.whole B screen b.old (next_at t0) w (new_node C t0 r0 g0 b w t1 r1 g1 walk c.in_ok-at.at p) (progress_of (frame_of C t0 r0 g0 b) walk g1 t1) small p.is waits).1)

pub redraw_part-requires : goal.redraw_part-requires
redraw_part-requires g c =
    let C = plain_checked c.args.checked.now in
    let t0 = c.args.t.now.tree in
    let r0 = c.args.r.now.tree in
    let g0 = c.args.g.now in
    let b = c.requires.stands in
    let w = shared c.args.root.now in
    let t1 = c.walk_first.new.t.tree in
    let r1 = c.walk_first.new.r.tree in
    let g1 = c.walk_first.new.g in
    let walk = c.walk_first.new.walk in
    let at = c.in_ok-at.at in
    let p = c.in_ok-at.ensures.walked b in
    let node = new_node C t0 r0 g0 b w t1 r1 g1 walk at p in
    let s = progress_of (frame_of C t0 r0 g0 b) walk g1 t1 in
    let well = c.builds_are_well_built.ensures.first C b.old (next_at t0) w node s c.in_ok-at.ensures.checked b.stands.elements.well c.requires.root p.is in
    let can = can_commit C t0 r0 g0 b w t1 r1 g1 walk at p (c.survivors.ensures.first (blueprint_of C) b.old (next_at t0) w node s b.stands.elements.numbered p.is).differ
    (c.built_trees_have_one_top.ensures (declarations_of C) r1 b.scrolled at p.entered.value p.entered.kids well p.entered.walked.drawn) in (
      whole_drawn can,
      can_draw t1 r1 g1 walk at can (first_plan_bare C t0 r0 g0 b w t1 r1 g1 walk at p)
          (render_plan t1 r1 g1 walk at can can.top refl (c.one_forest_plans_both_trees.ensures.drawn r1 (Some can.top) [] b.scrolled (whole_tree can) can.drawn_is can.differ (sym can.one_top))),
    )

pub returns-clause-first : goal.returns-clause-first
returns-clause-first g c = λ some. λ b.
    let C = plain_checked c.args.checked.now in
    let t0 = c.args.t.now.tree in
    let r0 = c.args.r.now.tree in
    let g0 = c.args.g.now in
    let w = shared c.args.root.now in
    let t1 = c.walk_first.new.t.tree in
    let r1 = c.walk_first.new.r.tree in
    let g1 = c.walk_first.new.g in
    let walk = c.walk_first.new.walk in
    let at = c.in_ok-at.at in
    let r2 = c.redraw_part.new.r.tree in
    let p = c.in_ok-at.ensures.walked b in
    let node = new_node C t0 r0 g0 b w t1 r1 g1 walk at p in
    let s = progress_of (frame_of C t0 r0 g0 b) walk g1 t1 in
    let well = c.builds_are_well_built.ensures.first C b.old (next_at t0) w node s c.in_ok-at.ensures.checked b.stands.elements.well c.requires.root p.is in
    let can = can_commit C t0 r0 g0 b w t1 r1 g1 walk at p (c.survivors.ensures.first (blueprint_of C) b.old (next_at t0) w node s b.stands.elements.numbered p.is).differ
    (c.built_trees_have_one_top.ensures (declarations_of C) r1 b.scrolled at p.entered.value p.entered.kids well p.entered.walked.drawn) in
    let bare = first_plan_bare C t0 r0 g0 b w t1 r1 g1 walk at p in
    let plan = render_plan t1 r1 g1 walk at can can.top refl (c.one_forest_plans_both_trees.ensures.drawn r1 (Some can.top) [] b.scrolled (whole_tree can) can.drawn_is can.differ (sym can.one_top)) in
    let x = c.in_ok-redraw_part.ensures.redrawn (whole_drawn can) (can_draw t1 r1 g1 walk at can bare plan) in
    record {
      checked = c.in_ok-at.ensures.checked;
      typed = c.requires.root;
      lists = refl;
      small = small_root c.args.root.now.value c.deref.result.now c.deref.ensures c.requires.size c.if-deref-gt-OUTPUT_LIMIT.false;
      made = r1;
      made_is = c.root.ensures.tree;
      walked = p;
      redrawn = x;
      stand =
          with_items_stand r0 r1 r2 (made_count t0) (made_count t1) p.makes c.root.ensures.tree.0 c.root.ensures.tree.1 (new_tree C t0 r0 g0 b w t1 r1 g1 walk at p) b.scrolled p.entered.walked.drawn plan.plan.live bare x
          (λ g up. c.one_forest_plans_both_trees.ensures.renders r1 b.scrolled (new_tree C t0 r0 g0 b w t1 r1 g1 walk at p) g p.entered.walked.drawn up) (Some node) refl;
    }

pub returns-then-len-eq0-clause-few : goal.returns-then-len-eq0-clause-few
returns-then-len-eq0-clause-few g c =
    let made = c.in_ok-commit_whole.ensures.made in
    omega (arith, (c.in_ok-at.ensures.walked c.requires.stands).makes.few, c.in_ok-commit_whole.ensures.inserted, made)

pub returns-clause-few : goal.returns-clause-few
returns-clause-few g c = omega (arith, (c.in_ok-at.ensures.walked c.requires.stands).makes.few, c.in_ok-redraw_part.ensures.inserted)

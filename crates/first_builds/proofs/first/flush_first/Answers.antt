use Rattle.std.proofs.Common.{◌+◌, map, refl, sym, ap, ◌∙◌}
use Rattle.fx_expr.specs.Value.{type_of}
use Rattle.node_tree.specs.Forest.Forest.{none}
use Rattle.program_check.specs.CheckedView.{plain_checked}
use Rattle.widget_model.specs.View.{shared}
use Rattle.build_form.specs.FaultView.{fault_of}
use Rattle.build_form.specs.Program.{blueprint_of}
use Rattle.build_form.proofs.Outcomes.{some_map}
use Rattle.build_form.proofs.Started.{large_root, small_root}
use Rattle.build_walk.specs.Kept.{node_over}
use Rattle.build_walk.specs.Standing.{built_among, pasts_from}
use Rattle.build_owner.specs.Standing.{next_at}
use Rattle.build_owner.proofs.Firstly.{none_more}
use Rattle.first_builds.specs.Inflated.{progress_at}
use Rattle.first_builds.proofs.Anew.{some_with, no_elements, no_render_nodes, no_render_root, none_inactive, no_root, ready_first, step_same, count_same, inflated_from_start, root_there, few_made}
use Rattle.first_builds.proofs.first.flush_first.Goals as goal

pub returns-then-deref-gt-OUTPUT_LIMIT-clause-fault : goal.returns-then-deref-gt-OUTPUT_LIMIT-clause-fault
returns-then-deref-gt-OUTPUT_LIMIT-clause-fault g c = λ b screen.
    (c.first_phases_go_on_from_elements.ensures.large (blueprint_of (plain_checked c.args.checked.now)) screen b.old (next_at c.args.t.now.tree) (shared c.args.root.now)
    (large_root c.args.root.now.value c.deref.result.now c.deref.ensures c.requires.size c.if-deref-gt-OUTPUT_LIMIT.true)).0

pub returns-then-deref-gt-OUTPUT_LIMIT-clause-builds_at_fault : goal.returns-then-deref-gt-OUTPUT_LIMIT-clause-builds_at_fault
returns-then-deref-gt-OUTPUT_LIMIT-clause-builds_at_fault g c = λ b screen.
    let B = blueprint_of (plain_checked c.args.checked.now) in
    none_more c.args.builds.now _ (ap (built_among B.defaults b.old b.marks)
    (c.first_phases_go_on_from_elements.ensures.large B screen b.old (next_at c.args.t.now.tree) (shared c.args.root.now)
    (large_root c.args.root.now.value c.deref.result.now c.deref.ensures c.requires.size c.if-deref-gt-OUTPUT_LIMIT.true)).1)

pub inflate-requires-clause-ready : goal.inflate-requires-clause-ready
inflate-requires-clause-ready g c =
    let C = plain_checked c.args.checked.now in
    ready_first C c.args.t.now.tree c.args.r.now.tree c.args.g.now c.requires.stands c.requires.none c.begin.new.self c.begin.ensures.recorded (blueprint_of C).nodes c.requires.room

pub inflate-requires-clause-values : goal.inflate-requires-clause-values
inflate-requires-clause-values g c = ap (map type_of) c.as_mut_slice-values.ensures.value ∙ c.in-Ok.ensures.typed

pub inflate-requires-clause-parent : goal.inflate-requires-clause-parent
inflate-requires-clause-parent g c = no_root (plain_checked c.args.checked.now) c.args.t.now.tree c.args.r.now.tree c.args.g.now c.requires.stands c.requires.none

pub inflate-requires-clause-above : goal.inflate-requires-clause-above
inflate-requires-clause-above g c = no_render_root (plain_checked c.args.checked.now) c.args.t.now.tree c.args.r.now.tree c.args.g.now c.requires.stands c.requires.none

pub inflate-requires-clause-bodies : goal.inflate-requires-clause-bodies
inflate-requires-clause-bodies g c = c.requires.listless.0

pub inflate-requires-clause-listless : goal.inflate-requires-clause-listless
inflate-requires-clause-listless g c = c.requires.listless.1

pub returns-clause-fault : goal.returns-clause-fault
returns-clause-fault g c =
    let C = plain_checked c.args.checked.now in
    let B = blueprint_of C in
    let t0 = c.args.t.now.tree in
    let w = shared c.args.root.now in
    let law = c.first_phases_go_on_from_elements.ensures in
    let small = small_root c.args.root.now.value c.deref.result.now c.deref.ensures c.requires.size c.if-deref-gt-OUTPUT_LIMIT.false in
    some_map _ _ (fault_of c.in-Err.fault) (λ x stopped. λ b screen.
    let pasts = pasts_from C b.stands.elements.forest in
    let first = step_same C t0 c.args.r.now.tree c.args.g.now b c.requires.none c.begin.new.self c.begin.ensures.recorded w pasts c.as_mut_slice-values.result.now (c.as_mut_slice-values.ensures.value ∙ c.in-Ok.ensures.values)
    (law.same C b.marks b.old b.scrolled t0 w c.in-Ok.ensures.checked b.stands.elements) in
    (law.fault B screen b.old (next_at t0) w x small (sym first ∙ stopped pasts)).0) c.in-Err.ensures.fault

pub returns-clause-builds_at_fault : goal.returns-clause-builds_at_fault
returns-clause-builds_at_fault g c =
    let C = plain_checked c.args.checked.now in
    let B = blueprint_of C in
    let t0 = c.args.t.now.tree in
    let r0 = c.args.r.now.tree in
    let w = shared c.args.root.now in
    let law = c.first_phases_go_on_from_elements.ensures in
    let small = small_root c.args.root.now.value c.deref.result.now c.deref.ensures c.requires.size c.if-deref-gt-OUTPUT_LIMIT.false in
    some_with _ _ _ (fault_of c.in-Err.fault) (λ x stopped counted. λ b screen.
    let pasts = pasts_from C b.stands.elements.forest in
    let first = step_same C t0 r0 c.args.g.now b c.requires.none c.begin.new.self c.begin.ensures.recorded w pasts c.as_mut_slice-values.result.now (c.as_mut_slice-values.ensures.value ∙ c.in-Ok.ensures.values)
    (law.same C b.marks b.old b.scrolled t0 w c.in-Ok.ensures.checked b.stands.elements) in
    counted pasts
    ∙ ap (λ n. c.args.builds.now + n) (count_same C t0 r0 c.args.g.now b c.requires.none c.begin.new.self c.begin.ensures.recorded w pasts c.as_mut_slice-values.result.now (c.as_mut_slice-values.ensures.value ∙ c.in-Ok.ensures.values)
    (law.builds C b.marks b.old b.scrolled t0 w c.in-Ok.ensures.checked b.stands.elements))
    ∙ ap (λ es. c.args.builds.now + built_among B.defaults b.old b.marks es) (sym (law.fault B screen b.old (next_at t0) w x small (sym first ∙ stopped pasts)).1))
    c.in-Err.ensures.fault c.in-Err.ensures.builds_at_fault

pub returns-in-Ok-inflate-clause-whole : goal.returns-in-Ok-inflate-clause-whole
returns-in-Ok-inflate-clause-whole g c = λ b screen.
    let C = plain_checked c.args.checked.now in
    let t0 = c.args.t.now.tree in
    let r0 = c.args.r.now.tree in
    let g0 = c.args.g.now in
    let k = c.begin.new.self in
    let w = shared c.args.root.now in
    let t1 = c.inflate.new.t.tree in
    let r1 = c.inflate.new.r.tree in
    let g1 = c.inflate.new.g in
    let h = c.in-Ok-inflate.field-0 in
    let grown = c.in-Ok-inflate.ensures.grown in
    let small = small_root c.args.root.now.value c.deref.result.now c.deref.ensures c.requires.size c.if-deref-gt-OUTPUT_LIMIT.false in
    let pasts = pasts_from C b.stands.elements.forest in
    let nothing = no_elements C t0 r0 g0 b c.requires.none in
    let p =
    inflated_from_start C t0 r0 g0 b c.requires.none k c.begin.ensures.recorded w pasts c.as_mut_slice-values.result.now (c.as_mut_slice-values.ensures.value ∙ c.in-Ok.ensures.values) (progress_at c.inflate.new.entered g1 t1) t1 r1 h
    (c.in-Ok-inflate.ensures.inflated pasts b.scrolled b.stands.elements.fresh) in
    c.inflated_roots_stand.ensures C t0 r0 g0 b screen w t1 r1 g1 h c.inflate.new.entered c.in-Ok.ensures.checked c.requires.root small nothing (no_render_nodes C t0 r0 g0 b c.requires.none)
    (no_render_root C t0 r0 g0 b c.requires.none) p (root_there C t0 r0 g0 b c.requires.none t1 h p.value p.kids grown.inactive (p.elements none nothing))
    (grown.inactive_drawn ∙ none_inactive C t0 r0 g0 b c.requires.none) c.in-Ok-inflate.ensures.ready.names grown.makes

pub returns-in-Ok-inflate-clause-few : goal.returns-in-Ok-inflate-clause-few
returns-in-Ok-inflate-clause-few g c =
    few_made (plain_checked c.args.checked.now) c.args.t.now.tree c.args.r.now.tree c.args.g.now c.requires.stands c.requires.none c.inflate.new.t.tree c.inflate.new.r.tree c.in-Ok-inflate.ensures.grown

pub returns-in-Ok-inflate-clause-builds : goal.returns-in-Ok-inflate-clause-builds
returns-in-Ok-inflate-clause-builds g c = λ b screen.
    let C = plain_checked c.args.checked.now in
    let B = blueprint_of C in
    let t0 = c.args.t.now.tree in
    let r0 = c.args.r.now.tree in
    let g0 = c.args.g.now in
    let k = c.begin.new.self in
    let w = shared c.args.root.now in
    let law = c.first_phases_go_on_from_elements.ensures in
    let small = small_root c.args.root.now.value c.deref.result.now c.deref.ensures c.requires.size c.if-deref-gt-OUTPUT_LIMIT.false in
    let pasts = pasts_from C b.stands.elements.forest in
    let after = progress_at c.inflate.new.entered c.inflate.new.g c.inflate.new.t.tree in
    let p = c.in-Ok-inflate.ensures.inflated pasts b.scrolled b.stands.elements.fresh in
    let first = step_same C t0 r0 g0 b c.requires.none k c.begin.ensures.recorded w pasts c.as_mut_slice-values.result.now (c.as_mut_slice-values.ensures.value ∙ c.in-Ok.ensures.values)
    (law.same C b.marks b.old b.scrolled t0 w c.in-Ok.ensures.checked b.stands.elements) in
    c.in-Ok-inflate.ensures.builds pasts
    ∙ ap (λ n. c.args.builds.now + n) (count_same C t0 r0 g0 b c.requires.none k c.begin.ensures.recorded w pasts c.as_mut_slice-values.result.now (c.as_mut_slice-values.ensures.value ∙ c.in-Ok.ensures.values)
    (law.builds C b.marks b.old b.scrolled t0 w c.in-Ok.ensures.checked b.stands.elements))
    ∙ ap (λ es. c.args.builds.now + built_among B.defaults b.old b.marks es)
    (sym (law.whole B screen b.old (next_at t0) w (node_over b.scrolled p.value p.kids) after small (sym first ∙ p.is) refl).1)

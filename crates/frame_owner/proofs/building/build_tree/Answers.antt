use Rattle.std.proofs.Common.{◌≡◌, ◌+◌, ◌≤◌, sym, subst, refl, inl, inr, arith}
use Rattle.std.proofs.lemmas.Result.{err_from_is_err_and, on_ok_weaker}
use Rattle.fx_handles.specs.Arena.{used_count}
use Rattle.fx_geom.specs.declared.scales.Scale.{Scale}
use Rattle.delegates.specs.Table.{meant_in}
use Rattle.node_tree.specs.Tree.{Tree}
use Rattle.element_tree.specs.Element.{Element}
use Rattle.program_check.specs.CheckedView.{plain_checked}
use Rattle.template_build.specs.Program.{declarations_of}
use Rattle.widget_model.specs.View.{shared}
use Rattle.kept_layouts.specs.Here.{KeepsLayouts}
use Rattle.layout_form.specs.Object.{setting_of}
use Rattle.build_form.specs.FaultView.{fault_of}
use Rattle.build_form.specs.FullBuild.{full_build, failed}
use Rattle.build_form.specs.Program.{blueprint_of}
use Rattle.build_form.specs.ScreenView.{screen_on}
use Rattle.build_form.proofs.Outcomes.{some_map, fault_map}
use Rattle.build_walk.specs.Standing.{first_builds, all_builds}
use Rattle.build_owner.specs.Phases.{first_node_of}
use Rattle.build_owner.specs.Standing.{Beginning, next_at}
use Rattle.frame_owner.specs.Building.{BuildsItems}
use Rattle.frame_owner.specs.Working.{CountsLists}
use Rattle.frame_owner.proofs.Built.{built_at_once, built_in_phases, first_layouts, lays_lists}
use Rattle.frame_owner.proofs.Waiting.{Laws, could, waits_for, lays_out}
use Rattle.frame_owner.proofs.Stopping.{second_fault}
use Rattle.frame_owner.proofs.Unfilled.{first_outer}
use Rattle.frame_owner.proofs.Working.{fault_anyhow, fault_both}
use Rattle.frame_owner.proofs.building.build_tree.Goals as goal

pub returns-in_err-lazy-clause-fault : goal.returns-in_err-lazy-clause-fault
returns-in_err-lazy-clause-fault g c =
    let q = err_from_is_err_and c.from_residual.result c.from_residual.ensures.1 in
    let screen = screen_on c.args.r.now.scale (meant_in c.args.table.now (λ v. (g.dyn-1.0.entry v).1)) c.args.view in
    rw (q.1, q.2) (some_map _ _ (fault_of c.in_err-lazy.field-0.0) (λ f is. λ b. is b screen) c.in_err-lazy.ensures.fault)

pub returns-in_err-lazy-clause-builds_at_fault : goal.returns-in_err-lazy-clause-builds_at_fault
returns-in_err-lazy-clause-builds_at_fault g c =
    let q = err_from_is_err_and c.from_residual.result c.from_residual.ensures.1 in
    let screen = screen_on c.args.r.now.scale (meant_in c.args.table.now (λ v. (g.dyn-1.0.entry v).1)) c.args.view in
    rw (q.1, q.2) (some_map _ _ (fault_of c.in_err-lazy.field-0.0) (λ f counted. λ b. counted b screen) c.in_err-lazy.ensures.builds_at_fault)

pub returns-then-not-waits-clause-tree : goal.returns-then-not-waits-clause-tree
returns-then-not-waits-clause-tree g c = λ b.
    let C = plain_checked c.args.checked.now in
    let t = c.flush.new.t.tree in
    let r = c.flush.new.r.tree in
    let k = c.flush.new.g in
    let w = shared c.args.root.now in
    let screen = screen_on c.args.r.now.scale (meant_in c.args.table.now (λ v. (g.dyn-1.0.entry v).1)) c.args.view in
    let p = c.in_ok-lazy.ensures.whole (c.waits.ensures.none c.if-not-waits.true) b screen in
    built_at_once C c.args.t.now.tree c.args.r.now.tree c.args.g.now b screen w t r k c.projection_keeps_numbers_apart.ensures p c.redraws_keep_layouts.ensures c.redraws_keep_layers.ensures
    (c.survivors.ensures.whole C c.args.t.now.tree c.args.r.now.tree c.args.g.now b screen w c.args.r.now.tree t r k p).1
    (c.one_root_is_laid_out.ensures p.tree (c.built_trees_vanish_alone.ensures (declarations_of C) p.tree p.stands.elements.well)) c.requires.layouts c.args.layouts.now c.args.layouts.now refl

pub returns-then-not-waits-clause-builds : goal.returns-then-not-waits-clause-builds
returns-then-not-waits-clause-builds g c = λ b.
    let screen = screen_on c.args.r.now.scale (meant_in c.args.table.now (λ v. (g.dyn-1.0.entry v).1)) c.args.view in
    c.in_ok-lazy.ensures.builds_whole (c.waits.ensures.none c.if-not-waits.true) b screen

pub returns-in_err-lazy-clause-laid_at_fault : goal.returns-in_err-lazy-clause-laid_at_fault
returns-in_err-lazy-clause-laid_at_fault g c = fault_anyhow _ c.from_residual.result (λ b. inl refl)

pub build_items-requires-clause-waits : goal.build_items-requires-clause-waits
build_items-requires-clause-waits g c =
    let C = plain_checked c.args.checked.now in
    let t0 = c.args.t.now.tree in
    let r0 = c.args.r.now.tree in
    let g0 = c.args.g.now in
    let w = shared c.args.root.now in
    let t = c.flush.new.t.tree in
    let mid = c.flush.new.r.tree in
    let k = c.flush.new.g in
    let ds = meant_in c.args.table.now (λ v. (g.dyn-1.0.entry v).1) in
    let few = subst (λ (x : Tree Element). used_count x.nodes ≤ 4194304) c.tree.ensures (let all = c.count_laws.ensures.few in omega (arith, all)) in
    let waits = λ (b : Beginning C t0 r0 g0).
    waits_for C t0 r0 g0 b w t mid k c.in_ok-lazy.lazy (c.in_ok-lazy.ensures.first (c.waits.ensures.some c.if-not-waits.false) b) (could C t0 r0 g0 b c.built_trees_can_be_laid_out.ensures few) c.requires.unasked in
    waits c.requires.stands

pub build_items-requires-clause-layouts : goal.build_items-requires-clause-layouts
build_items-requires-clause-layouts g c =
    let C = plain_checked c.args.checked.now in
    let t0 = c.args.t.now.tree in
    let r0 = c.args.r.now.tree in
    let g0 = c.args.g.now in
    let w = shared c.args.root.now in
    let t = c.flush.new.t.tree in
    let mid = c.flush.new.r.tree in
    let k = c.flush.new.g in
    let ds = meant_in c.args.table.now (λ v. (g.dyn-1.0.entry v).1) in
    let few = subst (λ (x : Tree Element). used_count x.nodes ≤ 4194304) c.tree.ensures (let all = c.count_laws.ensures.few in omega (arith, all)) in
    let waits = λ (b : Beginning C t0 r0 g0).
    waits_for C t0 r0 g0 b w t mid k c.in_ok-lazy.lazy (c.in_ok-lazy.ensures.first (c.waits.ensures.some c.if-not-waits.false) b) (could C t0 r0 g0 b c.built_trees_can_be_laid_out.ensures few) c.requires.unasked in
    let x = waits c.requires.stands in
    let s = setting_of c.args.r.now.scale (meant_in c.args.table.now (λ v. (g.dyn-1.0.entry v).1)) in
    subst (λ (scale : Scale). KeepsLayouts (setting_of scale (meant_in c.args.table.now (λ v. (g.dyn-1.0.entry v).1))) mid) (sym c.flush.ensures.scale)
    (first_layouts C t0 r0 g0 c.requires.stands w t mid k _ x.phase c.parts_are_redrawn.ensures c.redraws_keep_layouts.ensures s c.requires.layouts)

pub returns-clause-tree : goal.returns-clause-tree
returns-clause-tree g c =
    let C = plain_checked c.args.checked.now in
    let t0 = c.args.t.now.tree in
    let r0 = c.args.r.now.tree in
    let g0 = c.args.g.now in
    let w = shared c.args.root.now in
    let t = c.flush.new.t.tree in
    let mid = c.flush.new.r.tree in
    let k = c.flush.new.g in
    let ds = meant_in c.args.table.now (λ v. (g.dyn-1.0.entry v).1) in
    let few = subst (λ (x : Tree Element). used_count x.nodes ≤ 4194304) c.tree.ensures (let all = c.count_laws.ensures.few in omega (arith, all)) in
    let waits = λ (b : Beginning C t0 r0 g0).
    waits_for C t0 r0 g0 b w t mid k c.in_ok-lazy.lazy (c.in_ok-lazy.ensures.first (c.waits.ensures.some c.if-not-waits.false) b) (could C t0 r0 g0 b c.built_trees_can_be_laid_out.ensures few) c.requires.unasked in
    let laws : Laws = record {
      well = c.builds_are_well_built.ensures.first;
      few = c.trees_keep_to_the_limit.ensures.first;
      bare = c.waiting_lists_are_bare.ensures.first;
      vanish = c.built_trees_vanish_alone.ensures;
      one = c.one_root_is_laid_out.ensures;
      can = c.built_trees_can_be_laid_out.ensures;
      apart = c.projection_keeps_numbers_apart.ensures;
    } in
    let screen = screen_on c.args.r.now.scale (meant_in c.args.table.now (λ v. (g.dyn-1.0.entry v).1)) c.args.view in
    let s = setting_of screen.scale screen.delegates in
    on_ok_weaker c.build_items.result (λ items. λ b.
    let x = waits b in
    let q = x.phase in
    let i = subst (λ (scale : Scale). BuildsItems C (screen_on scale ds c.args.view) b.old (next_at t0) w b.scrolled mid c.build_items.new.t.tree c.build_items.new.r.tree c.build_items.new.g c.args.layouts.now c.build_items.new.layouts)
    c.flush.ensures.scale (items x) in
    let kept = first_layouts C t0 r0 g0 b w t mid k _ q c.parts_are_redrawn.ensures c.redraws_keep_layouts.ensures s c.requires.layouts in
    built_in_phases C t0 r0 g0 b w t mid k _ q c.parts_are_redrawn.ensures (record { trees = c.waiting_lists_are_in_the_tree.ensures.trees; renders = c.waiting_lists_are_in_the_tree.ensures.renders })
    (c.waits.ensures.some c.if-not-waits.false) c.projection_keeps_numbers_apart.ensures c.redraws_keep_layers.ensures
    (c.survivors.ensures.first C t0 r0 g0 b w t mid k _ q).1 screen kept (lays_out C t mid k _ x laws)
    (c.waiting_lists_are_bare.ensures.first (blueprint_of C) b.old (next_at t0) w (first_node_of q) _ q.walked.is) c.build_items.new.t.tree c.build_items.new.r.tree c.build_items.new.g c.args.layouts.now c.build_items.new.layouts i
    (c.states_survive.ensures.whole (blueprint_of C) screen b.old (next_at t0) (next_at c.build_items.new.t.tree) w i.gives.tree b.stands.elements.numbered i.gives.is)
    (c.one_root_is_laid_out.ensures i.gives.tree (c.built_trees_vanish_alone.ensures (declarations_of C) i.gives.tree i.gives.stands.elements.well))) c.build_items.ensures.items

pub returns-clause-laid_at_fault : goal.returns-clause-laid_at_fault
returns-clause-laid_at_fault g c =
    let C = plain_checked c.args.checked.now in
    let t0 = c.args.t.now.tree in
    let r0 = c.args.r.now.tree in
    let g0 = c.args.g.now in
    let w = shared c.args.root.now in
    let t = c.flush.new.t.tree in
    let mid = c.flush.new.r.tree in
    let k = c.flush.new.g in
    let ds = meant_in c.args.table.now (λ v. (g.dyn-1.0.entry v).1) in
    let few = subst (λ (x : Tree Element). used_count x.nodes ≤ 4194304) c.tree.ensures (let all = c.count_laws.ensures.few in omega (arith, all)) in
    let waits = λ (b : Beginning C t0 r0 g0).
    waits_for C t0 r0 g0 b w t mid k c.in_ok-lazy.lazy (c.in_ok-lazy.ensures.first (c.waits.ensures.some c.if-not-waits.false) b) (could C t0 r0 g0 b c.built_trees_can_be_laid_out.ensures few) c.requires.unasked in
    let laws : Laws = record {
      well = c.builds_are_well_built.ensures.first;
      few = c.trees_keep_to_the_limit.ensures.first;
      bare = c.waiting_lists_are_bare.ensures.first;
      vanish = c.built_trees_vanish_alone.ensures;
      one = c.one_root_is_laid_out.ensures;
      can = c.built_trees_can_be_laid_out.ensures;
      apart = c.projection_keeps_numbers_apart.ensures;
    } in
    let screen = screen_on c.args.r.now.scale (meant_in c.args.table.now (λ v. (g.dyn-1.0.entry v).1)) c.args.view in
    let s = setting_of screen.scale screen.delegates in
    fault_map _ _ c.build_items.result (λ f both. λ b.
    let x = waits b in
    let q = x.phase in
    let lays = lays_out C t mid k _ x laws in
    let bare = c.waiting_lists_are_bare.ensures.first (blueprint_of C) b.old (next_at t0) w (first_node_of q) _ q.walked.is in
    let kept = first_layouts C t0 r0 g0 b w t mid k _ q c.parts_are_redrawn.ensures c.redraws_keep_layouts.ensures s c.requires.layouts in
    inr (record {
      tree = first_node_of q;
      small = q.small;
      is = second_fault (blueprint_of C) screen b.old (next_at t0) w (first_node_of q) _ f q.small q.walked.is
          (subst (λ (scale : Scale). full_build (blueprint_of C) (screen_on scale ds c.args.view) b.old (next_at t0) w ≡ failed f) c.flush.ensures.scale (both.1 x));
      lists = lays_lists C t0 r0 g0 b w t mid k _ q c.parts_are_redrawn.ensures bare s c.args.view c.args.layouts.now c.build_items.new.layouts c.projection_keeps_numbers_apart.ensures (lays.good s kept)
          (subst (λ (scale : Scale). CountsLists (setting_of scale ds) c.args.view mid c.args.layouts.now c.build_items.new.layouts) c.flush.ensures.scale both.0);
      outer = first_outer (first_node_of q) mid bare lays;
    })) (fault_both _ _ c.build_items.result c.build_items.ensures.counts_at_fault c.build_items.ensures.fault)

pub returns-clause-few : goal.returns-clause-few
returns-clause-few g c =
    let first = c.in_ok-lazy.ensures.few in
    on_ok_weaker c.build_items.result (λ few. omega (arith, few, first)) c.build_items.ensures.few

pub returns-clause-fault : goal.returns-clause-fault
returns-clause-fault g c =
    let C = plain_checked c.args.checked.now in
    let t0 = c.args.t.now.tree in
    let r0 = c.args.r.now.tree in
    let g0 = c.args.g.now in
    let w = shared c.args.root.now in
    let t = c.flush.new.t.tree in
    let mid = c.flush.new.r.tree in
    let k = c.flush.new.g in
    let ds = meant_in c.args.table.now (λ v. (g.dyn-1.0.entry v).1) in
    let few = subst (λ (x : Tree Element). used_count x.nodes ≤ 4194304) c.tree.ensures (let all = c.count_laws.ensures.few in omega (arith, all)) in
    let waits = λ (b : Beginning C t0 r0 g0).
    waits_for C t0 r0 g0 b w t mid k c.in_ok-lazy.lazy (c.in_ok-lazy.ensures.first (c.waits.ensures.some c.if-not-waits.false) b) (could C t0 r0 g0 b c.built_trees_can_be_laid_out.ensures few) c.requires.unasked in
    fault_map _ _ c.build_items.result (λ f is. λ b.
    subst (λ (scale : Scale). full_build (blueprint_of C) (screen_on scale ds c.args.view) b.old (next_at t0) w ≡ failed f) c.flush.ensures.scale (is (waits b))) c.build_items.ensures.fault

pub returns-clause-builds : goal.returns-clause-builds
returns-clause-builds g c =
    let C = plain_checked c.args.checked.now in
    let t0 = c.args.t.now.tree in
    let r0 = c.args.r.now.tree in
    let g0 = c.args.g.now in
    let w = shared c.args.root.now in
    let t = c.flush.new.t.tree in
    let mid = c.flush.new.r.tree in
    let k = c.flush.new.g in
    let ds = meant_in c.args.table.now (λ v. (g.dyn-1.0.entry v).1) in
    let few = subst (λ (x : Tree Element). used_count x.nodes ≤ 4194304) c.tree.ensures (let all = c.count_laws.ensures.few in omega (arith, all)) in
    let waits = λ (b : Beginning C t0 r0 g0).
    waits_for C t0 r0 g0 b w t mid k c.in_ok-lazy.lazy (c.in_ok-lazy.ensures.first (c.waits.ensures.some c.if-not-waits.false) b) (could C t0 r0 g0 b c.built_trees_can_be_laid_out.ensures few) c.requires.unasked in
    on_ok_weaker c.build_items.result (λ counted. λ b.
    let all = subst (λ (scale : Scale). c.build_items.new.builds + first_builds (blueprint_of C) b.old b.marks (next_at t0) w
    ≡ c.flush.new.builds + all_builds (blueprint_of C) (screen_on scale ds c.args.view) b.old b.marks (next_at t0) w) c.flush.ensures.scale (counted (waits b)) in
    let first = c.in_ok-lazy.ensures.builds b in
    omega (arith, all, first)) c.build_items.ensures.builds

pub returns-clause-builds_at_fault : goal.returns-clause-builds_at_fault
returns-clause-builds_at_fault g c =
    let C = plain_checked c.args.checked.now in
    let t0 = c.args.t.now.tree in
    let r0 = c.args.r.now.tree in
    let g0 = c.args.g.now in
    let w = shared c.args.root.now in
    let t = c.flush.new.t.tree in
    let mid = c.flush.new.r.tree in
    let k = c.flush.new.g in
    let ds = meant_in c.args.table.now (λ v. (g.dyn-1.0.entry v).1) in
    let few = subst (λ (x : Tree Element). used_count x.nodes ≤ 4194304) c.tree.ensures (let all = c.count_laws.ensures.few in omega (arith, all)) in
    let waits = λ (b : Beginning C t0 r0 g0).
    waits_for C t0 r0 g0 b w t mid k c.in_ok-lazy.lazy (c.in_ok-lazy.ensures.first (c.waits.ensures.some c.if-not-waits.false) b) (could C t0 r0 g0 b c.built_trees_can_be_laid_out.ensures few) c.requires.unasked in
    fault_map _ _ c.build_items.result (λ f counted. λ b.
    let all = subst (λ (scale : Scale). c.build_items.new.builds + first_builds (blueprint_of C) b.old b.marks (next_at t0) w
    ≡ c.flush.new.builds + all_builds (blueprint_of C) (screen_on scale ds c.args.view) b.old b.marks (next_at t0) w) c.flush.ensures.scale (counted (waits b)) in
    let first = c.in_ok-lazy.ensures.builds b in
    omega (arith, all, first)) c.build_items.ensures.builds_at_fault

pub flush_first-requires-clause-none : goal.flush_first-requires-clause-none
flush_first-requires-clause-none g c = (c.is_first.ensures.0 c.if-is_first.true).0

pub flush_first-requires-clause-listless : goal.flush_first-requires-clause-listless
flush_first-requires-clause-listless g c = c.requires.listless (c.is_first.ensures.0 c.if-is_first.true).1

pub returns-then-is_first-clause-tree : goal.returns-then-is_first-clause-tree
returns-then-is_first-clause-tree g c =
    let C = plain_checked c.args.checked.now in
    let t = c.flush_first.new.t.tree in
    let r = c.flush_first.new.r.tree in
    let k = c.flush_first.new.g in
    let w = shared c.args.root.now in
    let screen = screen_on c.args.r.now.scale (meant_in c.args.table.now (λ v. (g.dyn-1.0.entry v).1)) c.args.view in
    on_ok_weaker c.flush_first.result (λ whole. λ b.
    let p = whole b screen in
    built_at_once C c.args.t.now.tree c.args.r.now.tree c.args.g.now b screen w t r k c.projection_keeps_numbers_apart.ensures p c.redraws_keep_layouts.ensures c.redraws_keep_layers.ensures
    (c.survivors.ensures.whole C c.args.t.now.tree c.args.r.now.tree c.args.g.now b screen w c.args.r.now.tree t r k p).1
    (c.one_root_is_laid_out.ensures p.tree (c.built_trees_vanish_alone.ensures (declarations_of C) p.tree p.stands.elements.well)) c.requires.layouts c.args.layouts.now c.args.layouts.now refl) c.flush_first.ensures.whole

pub returns-then-is_first-clause-laid_at_fault : goal.returns-then-is_first-clause-laid_at_fault
returns-then-is_first-clause-laid_at_fault g c = fault_anyhow _ c.flush_first.result (λ b. inl refl)

pub returns-then-is_first-clause-fault : goal.returns-then-is_first-clause-fault
returns-then-is_first-clause-fault g c =
    let screen = screen_on c.args.r.now.scale (meant_in c.args.table.now (λ v. (g.dyn-1.0.entry v).1)) c.args.view in
    fault_map _ _ c.flush_first.result (λ f is. λ b. is b screen) c.flush_first.ensures.fault

pub returns-then-is_first-clause-builds : goal.returns-then-is_first-clause-builds
returns-then-is_first-clause-builds g c =
    let screen = screen_on c.args.r.now.scale (meant_in c.args.table.now (λ v. (g.dyn-1.0.entry v).1)) c.args.view in
    on_ok_weaker c.flush_first.result (λ counted. λ b. counted b screen) c.flush_first.ensures.builds

pub returns-then-is_first-clause-builds_at_fault : goal.returns-then-is_first-clause-builds_at_fault
returns-then-is_first-clause-builds_at_fault g c =
    let screen = screen_on c.args.r.now.scale (meant_in c.args.table.now (λ v. (g.dyn-1.0.entry v).1)) c.args.view in
    fault_map _ _ c.flush_first.result (λ f counted. λ b. counted b screen) c.flush_first.ensures.builds_at_fault

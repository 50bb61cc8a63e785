use Rattle.std.proofs.Common.{arith}
use Rattle.std.proofs.lemmas.Result.{on_ok_weaker}
use Rattle.delegates.specs.Table.{meant_in}
use Rattle.program_check.specs.CheckedView.{plain_checked}
use Rattle.layout_form.specs.Object.{setting_of}
use Rattle.build_form.specs.ScreenView.{screen_on}
use Rattle.build_form.proofs.Outcomes.{fault_map}
use Rattle.frame_owner.proofs.Built.{gives, layers}
use Rattle.frame_owner.proofs.Steps.{whole_redraws}
use Rattle.frame_owner.proofs.Working.{fault_anyhow}
use Rattle.frame_owner.proofs.Waiting.{Laws, lays_out, laid_out, later_kinds, later_apart}
use Rattle.frame_owner.proofs.building.build_items.Goals as goal

pub flush_lists-requires-clause-root : goal.flush_lists-requires-clause-root
flush_lists-requires-clause-root g c =
    let C = plain_checked c.args.checked.now in
    let laws : Laws = record {
      well = c.builds_are_well_built.ensures.first;
      few = c.trees_keep_to_the_limit.ensures.first;
      bare = c.waiting_lists_are_bare.ensures.first;
      vanish = c.built_trees_vanish_alone.ensures;
      one = c.one_root_is_laid_out.ensures;
      can = c.built_trees_can_be_laid_out.ensures;
      apart = c.projection_keeps_numbers_apart.ensures;
    } in
    (lays_out C c.args.t.now.tree c.args.r.now.tree c.args.g.now c.args.lazy c.requires.waits laws).root

pub flush_lists-requires-clause-good : goal.flush_lists-requires-clause-good
flush_lists-requires-clause-good g c =
    let C = plain_checked c.args.checked.now in
    let s = setting_of c.args.r.now.scale (meant_in c.args.table.now (λ v. (g.dyn-1.0.entry v).1)) in
    let laws : Laws = record {
      well = c.builds_are_well_built.ensures.first;
      few = c.trees_keep_to_the_limit.ensures.first;
      bare = c.waiting_lists_are_bare.ensures.first;
      vanish = c.built_trees_vanish_alone.ensures;
      one = c.one_root_is_laid_out.ensures;
      can = c.built_trees_can_be_laid_out.ensures;
      apart = c.projection_keeps_numbers_apart.ensures;
    } in
    (lays_out C c.args.t.now.tree c.args.r.now.tree c.args.g.now c.args.lazy c.requires.waits laws).good s c.requires.layouts

pub flush_items-requires : goal.flush_items-requires
flush_items-requires g c =
    let C = plain_checked c.args.checked.now in
    let screen = screen_on c.args.r.now.scale (meant_in c.args.table.now (λ v. (g.dyn-1.0.entry v).1)) c.args.view in
    let laws : Laws = record {
      well = c.builds_are_well_built.ensures.first;
      few = c.trees_keep_to_the_limit.ensures.first;
      bare = c.waiting_lists_are_bare.ensures.first;
      vanish = c.built_trees_vanish_alone.ensures;
      one = c.one_root_is_laid_out.ensures;
      can = c.built_trees_can_be_laid_out.ensures;
      apart = c.projection_keeps_numbers_apart.ensures;
    } in
    let done = c.in_ok-flush_lists.ensures in
    record {
      phase = λ some. laid_out C c.args.t.now.tree c.args.r.now.tree c.args.g.now c.args.lazy c.requires.waits laws screen c.flush_lists.new.r.tree done.built done.ranges;
    }

pub returns-clause-items : goal.returns-clause-items
returns-clause-items g c =
    let C = plain_checked c.args.checked.now in
    let ds = meant_in c.args.table.now (λ v. (g.dyn-1.0.entry v).1) in
    let t = c.args.t.now.tree in
    let mid = c.args.r.now.tree in
    let k = c.args.g.now in
    let l = c.args.lazy in
    let r = c.flush_lists.new.r.tree in
    let t2 = c.flush_items.new.t.tree in
    let r2 = c.flush_items.new.r.tree in
    let g2 = c.flush_items.new.g in
    let screen = screen_on c.args.r.now.scale ds c.args.view in
    let laws : Laws = record {
      well = c.builds_are_well_built.ensures.first;
      few = c.trees_keep_to_the_limit.ensures.first;
      bare = c.waiting_lists_are_bare.ensures.first;
      vanish = c.built_trees_vanish_alone.ensures;
      one = c.one_root_is_laid_out.ensures;
      can = c.built_trees_can_be_laid_out.ensures;
      apart = c.projection_keeps_numbers_apart.ensures;
    } in
    let done = c.in_ok-flush_lists.ensures in
    let is = c.root.ensures.tree in
    on_ok_weaker c.flush_items.result (λ whole. λ w.
    let p = whole c.requires.some (laid_out C t mid k l w laws screen r done.built done.ranges) in
    let states = (c.survivors.ensures.whole C w.elements w.renders w.registry w.begun screen w.root r t2 r2 g2 p).1 in
    let kinds = later_kinds C t mid k l w laws screen r done.built done.ranges t2 r2 g2 p states in
    let kept = layers C w.elements w.renders w.registry w.begun screen w.root r t2 r2 g2 p c.redraws_keep_layers.ensures is kinds in
    record {
      gives = gives C w.elements w.renders w.registry w.begun screen w.root r t2 r2 g2 p c.redraws_keep_layouts.ensures is (done.layouts c.requires.layouts);
      layers = λ o had. kept o (done.layers screen.scale.cell ds o had);
      ranged = r;
      stays = done.built;
      flushes = done.flushes;
      counts = record { ticks = done.ticks; due = done.due };
      second = whole_redraws C w.elements w.renders w.registry w.begun screen w.root r t2 r2 g2 p;
      apart = later_apart C t mid k l w laws screen r done.built done.ranges t2 r2 g2 p;
    }) c.flush_items.ensures.whole

pub returns-clause-counts_at_fault : goal.returns-clause-counts_at_fault
returns-clause-counts_at_fault g c =
    let done = c.in_ok-flush_lists.ensures in
    fault_anyhow _ c.flush_items.result (record { ticks = done.ticks; due = done.due })

pub returns-clause-few : goal.returns-clause-few
returns-clause-few g c =
    let inserted = c.in_ok-flush_lists.ensures.built.handles.inserted in
    on_ok_weaker c.flush_items.result (λ few. omega (arith, few, inserted)) c.flush_items.ensures.few

pub returns-clause-fault : goal.returns-clause-fault
returns-clause-fault g c =
    let C = plain_checked c.args.checked.now in
    let screen = screen_on c.args.r.now.scale (meant_in c.args.table.now (λ v. (g.dyn-1.0.entry v).1)) c.args.view in
    let laws : Laws = record {
      well = c.builds_are_well_built.ensures.first;
      few = c.trees_keep_to_the_limit.ensures.first;
      bare = c.waiting_lists_are_bare.ensures.first;
      vanish = c.built_trees_vanish_alone.ensures;
      one = c.one_root_is_laid_out.ensures;
      can = c.built_trees_can_be_laid_out.ensures;
      apart = c.projection_keeps_numbers_apart.ensures;
    } in
    let done = c.in_ok-flush_lists.ensures in
    fault_map _ _ c.flush_items.result
    (λ f is. λ w. is (laid_out C c.args.t.now.tree c.args.r.now.tree c.args.g.now c.args.lazy w laws screen c.flush_lists.new.r.tree done.built done.ranges)) c.flush_items.ensures.fault

pub returns-clause-builds : goal.returns-clause-builds
returns-clause-builds g c =
    let C = plain_checked c.args.checked.now in
    let screen = screen_on c.args.r.now.scale (meant_in c.args.table.now (λ v. (g.dyn-1.0.entry v).1)) c.args.view in
    let laws : Laws = record {
      well = c.builds_are_well_built.ensures.first;
      few = c.trees_keep_to_the_limit.ensures.first;
      bare = c.waiting_lists_are_bare.ensures.first;
      vanish = c.built_trees_vanish_alone.ensures;
      one = c.one_root_is_laid_out.ensures;
      can = c.built_trees_can_be_laid_out.ensures;
      apart = c.projection_keeps_numbers_apart.ensures;
    } in
    let done = c.in_ok-flush_lists.ensures in
    on_ok_weaker c.flush_items.result
    (λ counted. λ w. counted c.requires.some (laid_out C c.args.t.now.tree c.args.r.now.tree c.args.g.now c.args.lazy w laws screen c.flush_lists.new.r.tree done.built done.ranges)) c.flush_items.ensures.builds

pub returns-clause-builds_at_fault : goal.returns-clause-builds_at_fault
returns-clause-builds_at_fault g c =
    let C = plain_checked c.args.checked.now in
    let screen = screen_on c.args.r.now.scale (meant_in c.args.table.now (λ v. (g.dyn-1.0.entry v).1)) c.args.view in
    let laws : Laws = record {
      well = c.builds_are_well_built.ensures.first;
      few = c.trees_keep_to_the_limit.ensures.first;
      bare = c.waiting_lists_are_bare.ensures.first;
      vanish = c.built_trees_vanish_alone.ensures;
      one = c.one_root_is_laid_out.ensures;
      can = c.built_trees_can_be_laid_out.ensures;
      apart = c.projection_keeps_numbers_apart.ensures;
    } in
    let done = c.in_ok-flush_lists.ensures in
    fault_map _ _ c.flush_items.result
    (λ f counted. λ w. counted (laid_out C c.args.t.now.tree c.args.r.now.tree c.args.g.now c.args.lazy w laws screen c.flush_lists.new.r.tree done.built done.ranges)) c.flush_items.ensures.builds_at_fault

use Rattle.std.proofs.Common.{◌≡◌, ◌<◌, ◌≤◌, ◌∙◌, ap, refl, sym, subst, arith, Option, Some, None, List, map, length, get_or}
use Rattle.delegates.specs.Table.{meant_in}
use Rattle.plain_tree.specs.Laid.{Laid}
use Rattle.plain_tree.specs.Render.{Render}
use Rattle.layout_form.specs.declared.asks.Ask.{Ask}
use Rattle.layout_form.specs.Fits.{data_of}
use Rattle.layout_form.specs.Protocol.{answer, present}
use Rattle.layout_form.specs.Layout.{object}
use Rattle.layout_form.specs.Object.{setting_of, only_of}
use Rattle.layout_form.specs.Frames.{frames_in}
use Rattle.kind_rules.specs.Few.{items_of}
use Rattle.kind_rules.specs.Asks.{asks_of}
use Rattle.kind_rules.specs.Asked.{liked_for, found_of, ruling_for}
use Rattle.kind_rules.specs.Cursor.{look_of, count_in, children_of}
use Rattle.plain_layout.specs.Computed.{number_of, scroll_of, laid_by}
use Rattle.plain_layout.specs.Slivers.{viewed, across, kept_slots, first_frames, target_of, next_slot, IsReady, IsTask}
use Rattle.plain_layout.proofs.Trees.{node_with, below_fit, counted, item_fits, item_below, none_below}
use Rattle.plain_layout.proofs.Asking.{first_tasks, was_answered, offset_of}
use Rattle.plain_layout.proofs.RoundSteps.{kept_length, set_twice, length_kept, stays_on, moves_on, over, task_here, tasks_stay, tasks_on, nobody_stays, somebody_answers, target_ready, target_fits}
use Rattle.plain_layout.proofs.Runs.{run_is, rest_ready, sizes_are, found_is, walks, done_is}
use Rattle.plain_layout.proofs.layout.+lay.Goals as goal

pub returns-then-is_answered : goal.returns-then-is_answered
returns-then-is_answered g t c =
    was_answered (setting_of c.args.scale (meant_in c.args.table.now (λ v. (g.dyn-1.0.entry v).1))) c.args.ask c.args.slot.now c.args.node.now c.requires.ready (sym c.is_answered.ensures ∙ c.if-is_answered.true)

pub loop-i-init : goal.loop-i-init
loop-i-init g t c =
    let s = (setting_of c.args.scale (meant_in c.args.table.now (λ v. (g.dyn-1.0.entry v).1))) in
    let node = c.args.node.now in
    let rs = c.children_of-children.result.now in
    let view = c.across-view.result in
    let l = look_of node in
    let kept : items_of c.in_ok-slots.slots ≡ kept_slots l c.args.ask c.args.slot.now rs =
    c.in_ok-slots.ensures ∙ ap (λ x. kept_slots x c.args.ask c.args.slot.now rs) c.kind_of-2.ensures in
    record {
      same = refl;
      ready = first_tasks s (number_of node) l (data_of node) (scroll_of node) (count_in node) rs c.args.ask c.args.slot.now
          (liked_for l c.args.ask (only_of (map (object s) (children_of node)))) (map data_of (children_of node)) node view (asks_of c.in_ok-round.round) (items_of c.in_ok-slots.slots)
          (node_with node rs c.children_of-children.ensures) c.requires.ready
          (c.across-view.ensures ∙ ap across (c.viewed.ensures ∙ ap (λ x. viewed x c.args.ask) c.kind_of.ensures)) c.in_ok-round.ensures kept;
      slots = ap length kept ∙ kept_length l c.args.ask c.args.slot.now rs;
    }

pub loop-i-preserved-in-None : goal.loop-i-preserved-in-None
loop-i-preserved-in-None g t c =
    let s = (setting_of c.args.scale (meant_in c.args.table.now (λ v. (g.dyn-1.0.entry v).1))) in
    let node = c.args.node.now in
    let rs = c.children_of-children.result.now in
    let view = c.across-view.result in
    let asks = asks_of c.in_ok-round.round in
    let slots = items_of c.loop-i.slots in
    let i = c.loop-i.i in
    let r = c.index-children-i.result in
    let long : i < length slots = omega (arith, c.loop-i.invariant.slots, c.loop-i-test.true) in
    let task = task_here s view i asks slots rs r long c.loop-i-test.true c.index-children-i.is c.loop-i.invariant.ready in
    record {
      same = stays_on s view i asks slots rs r _ long c.loop-i-test.true c.index-children-i.is
          (nobody_stays s view (get_or asks i None) (get_or slots i None) r task (c.in-None.ensures ∙ ap (λ (a : Option Ask). target_of view a r) c.at.ensures)) c.loop-i.invariant.same;
      ready = tasks_stay s view i asks slots rs long c.loop-i-test.true c.loop-i.invariant.ready;
      slots = c.loop-i.invariant.slots;
    }

pub loop-i-2-init : goal.loop-i-2-init
loop-i-2-init g t c =
    let s = (setting_of c.args.scale (meant_in c.args.table.now (λ v. (g.dyn-1.0.entry v).1))) in
    let node = c.args.node.now in
    let rs = c.children_of-children.result.now in
    let view = c.across-view.result in
    let asks = asks_of c.in_ok-round.round in
    let slots = items_of c.loop-i.slots in
    let before = items_of c.in_ok-slots.slots in
    let told = map data_of rs in
    let frames = first_frames view rs slots in
    let rest = asks_of c.in_ok-then.then.asks in
    let found = found_of c.in_ok-then.then.found in
    let long : length slots ≤ c.loop-i.i = omega (arith, c.loop-i.invariant.slots, c.loop-i-test.false) in
    let run = run_is s node rs c.args.ask c.args.slot.now view c.viewed.result asks rest before slots found _ _
    c.children_of-children.ensures c.across-view.ensures c.viewed.ensures c.kind_of.ensures c.kind_of-2.ensures
    c.in_ok-round.ensures c.in_ok-slots.ensures (over s view c.loop-i.i asks slots rs _ long c.loop-i.invariant.same)
    c.in_ok-then.ensures.found c.in_ok-then.ensures.asks in
    record {
      same = refl;
      ready = rest_ready s (look_of node) (scroll_of node) (count_in node) rs c.args.ask c.args.slot.now told view asks rest before slots frames found run c.slivers_are_measured_by_their_boxes.ensures;
      slots = c.loop-i.invariant.slots;
    }

pub loop-i-2-preserved-in-None-at : goal.loop-i-2-preserved-in-None-at
loop-i-2-preserved-in-None-at g t c =
    let s = (setting_of c.args.scale (meant_in c.args.table.now (λ v. (g.dyn-1.0.entry v).1))) in
    let node = c.args.node.now in
    let rs = c.children_of-children.result.now in
    let rest = asks_of c.in_ok-then.then.asks in
    let slots = items_of c.loop-i-2.slots in
    let i = c.loop-i-2.i in
    let r = c.index-children-i-in-loop-i-2.result in
    let long : i < length slots = omega (arith, c.loop-i-2.invariant.slots, c.loop-i-2-test.true) in
    record {
      same = stays_on s None i rest slots rs r _ long c.loop-i-2-test.true c.index-children-i-in-loop-i-2.is
          (ap (λ (a : Option Ask). next_slot s None a (get_or slots i None) r) (sym c.in-None-at.ensures)) c.loop-i-2.invariant.same;
      ready = tasks_stay s None i rest slots rs long c.loop-i-2-test.true c.loop-i-2.invariant.ready;
      slots = c.loop-i-2.invariant.slots;
    }

pub finish-requires : goal.finish-requires
finish-requires g t c =
    let s = (setting_of c.args.scale (meant_in c.args.table.now (λ v. (g.dyn-1.0.entry v).1))) in
    let node = c.args.node.now in
    let rs = c.children_of-children.result.now in
    let view = c.across-view.result in
    let asks = asks_of c.in_ok-round.round in
    let slots = items_of c.loop-i.slots in
    let before = items_of c.in_ok-slots.slots in
    let told = map data_of rs in
    let frames = first_frames view rs slots in
    let rest = asks_of c.in_ok-then.then.asks in
    let found = found_of c.in_ok-then.then.found in
    let long : length slots ≤ c.loop-i.i = omega (arith, c.loop-i.invariant.slots, c.loop-i-test.false) in
    let run = run_is s node rs c.args.ask c.args.slot.now view c.viewed.result asks rest before slots found _ _
    c.children_of-children.ensures c.across-view.ensures c.viewed.ensures c.kind_of.ensures c.kind_of-2.ensures
    c.in_ok-round.ensures c.in_ok-slots.ensures (over s view c.loop-i.i asks slots rs _ long c.loop-i.invariant.same)
    c.in_ok-then.ensures.found c.in_ok-then.ensures.asks in
    let end = items_of c.loop-i-2.slots in
    let last : length end ≤ c.loop-i-2.i = omega (arith, c.loop-i-2.invariant.slots, c.loop-i-2-test.false) in
    let ends = over s None c.loop-i-2.i rest end rs _ last c.loop-i-2.invariant.same in
    let by = c.slivers_are_measured_by_their_boxes.ensures in
    let follow = c.slivers_follow_their_scroll_extents.ensures in
    record {
      fits = c.requires.fits;
      sizes = sizes_are s (look_of node) (scroll_of node) (count_in node) rs c.args.ask c.args.slot.now told view asks rest before slots frames found run by follow end ends;
      stack = found_is s (look_of node) (scroll_of node) (count_in node) rs c.args.ask c.args.slot.now told view asks rest before slots frames found run by follow end ends;
      offset = offset_of s c.args.ask c.args.slot.now node c.requires.ready;
      walk = walks s (look_of node) (scroll_of node) (count_in node) rs c.args.ask c.args.slot.now told view asks rest before slots frames found run by follow end ends;
    }

pub returns : goal.returns
returns g t c =
    let s = (setting_of c.args.scale (meant_in c.args.table.now (λ v. (g.dyn-1.0.entry v).1))) in
    let node = c.args.node.now in
    let rs = c.children_of-children.result.now in
    let view = c.across-view.result in
    let asks = asks_of c.in_ok-round.round in
    let slots = items_of c.loop-i.slots in
    let before = items_of c.in_ok-slots.slots in
    let told = map data_of rs in
    let frames = first_frames view rs slots in
    let rest = asks_of c.in_ok-then.then.asks in
    let found = found_of c.in_ok-then.then.found in
    let long : length slots ≤ c.loop-i.i = omega (arith, c.loop-i.invariant.slots, c.loop-i-test.false) in
    let run = run_is s node rs c.args.ask c.args.slot.now view c.viewed.result asks rest before slots found _ _
    c.children_of-children.ensures c.across-view.ensures c.viewed.ensures c.kind_of.ensures c.kind_of-2.ensures
    c.in_ok-round.ensures c.in_ok-slots.ensures (over s view c.loop-i.i asks slots rs _ long c.loop-i.invariant.same)
    c.in_ok-then.ensures.found c.in_ok-then.ensures.asks in
    let end = items_of c.loop-i-2.slots in
    let last : length end ≤ c.loop-i-2.i = omega (arith, c.loop-i-2.invariant.slots, c.loop-i-2-test.false) in
    let ends = over s None c.loop-i-2.i rest end rs _ last c.loop-i-2.invariant.same in
    let by = c.slivers_are_measured_by_their_boxes.ensures in
    let follow = c.slivers_follow_their_scroll_extents.ensures in
    c.in_ok-finish.ensures
    ∙ ap (λ (x : Laid). Some x)
    (done_is s (look_of node) (scroll_of node) (count_in node) rs c.args.ask c.args.slot.now told view asks rest before slots frames found run by follow end ends c.rules_see_frames.ensures.boxes c.rules_see_frames.ensures.slivers c.viewports_need_scroll_extents.ensures (number_of node) (data_of node) node _
    (node_with node rs c.children_of-children.ensures)
    (ap (λ (xs : List Render). laid_by s (number_of node) (look_of node) (ruling_for s (look_of node) (count_in node) c.args.ask found (map data_of xs) (frames_in end)) (present end))
    (sym c.children_of-children.ensures)))

pub lay-requires : goal.lay-requires
lay-requires g t c =
    let s = (setting_of c.args.scale (meant_in c.args.table.now (λ v. (g.dyn-1.0.entry v).1))) in
    let node = c.args.node.now in
    let rs = c.children_of-children.result.now in
    let view = c.across-view.result in
    let asks = asks_of c.in_ok-round.round in
    let slots = items_of c.loop-i.slots in
    let i = c.loop-i.i in
    let r = c.index-children-i.result in
    let long : i < length slots = omega (arith, c.loop-i.invariant.slots, c.loop-i-test.true) in
    let task = task_here s view i asks slots rs r long c.loop-i-test.true c.index-children-i.is c.loop-i.invariant.ready in
    let p = c.in-Some.place.node.now in
    let inner = c.in-Some.inner in
    let is = c.in-Some.ensures ∙ ap (λ (a : Option Ask). target_of view a r) c.at.ensures in
    let can = item_fits rs i r c.loop-i-test.true c.index-children-i.is (below_fit node rs c.children_of-children.ensures c.requires.fits) in
    let both = target_fits view (get_or asks i None) r p inner is can in (
      omega (arith, both.1, item_below rs i r c.loop-i-test.true c.index-children-i.is, counted node rs c.children_of-children.ensures, c.decreases),
      (
        both.0,
        subst (λ (x : Option Laid). IsReady s inner x p) (sym c.take_slot-below.ensures.value) (target_ready s view (get_or asks i None) (get_or slots i None) r p inner is task),
      ),
    )

pub loop-i-preserved : goal.loop-i-preserved
loop-i-preserved g t c =
    let s = (setting_of c.args.scale (meant_in c.args.table.now (λ v. (g.dyn-1.0.entry v).1))) in
    let node = c.args.node.now in
    let rs = c.children_of-children.result.now in
    let view = c.across-view.result in
    let asks = asks_of c.in_ok-round.round in
    let slots = items_of c.loop-i.slots in
    let i = c.loop-i.i in
    let r = c.index-children-i.result in
    let long : i < length slots = omega (arith, c.loop-i.invariant.slots, c.loop-i-test.true) in
    let task = task_here s view i asks slots rs r long c.loop-i-test.true c.index-children-i.is c.loop-i.invariant.ready in
    let p = c.in-Some.place.node.now in
    let inner = c.in-Some.inner in
    let is = c.in-Some.ensures ∙ ap (λ (a : Option Ask). target_of view a r) c.at.ensures in
    let mid = items_of c.take_slot-below.new.slots in
    let after = items_of c.put_slot.new.slots in
    let new = c.lay.new.slot in
    let sets = set_twice i slots mid after None new c.take_slot-below.ensures.slots c.put_slot.ensures in
    record {
      same = moves_on s view i asks slots after rs r new _ long c.loop-i-test.true c.index-children-i.is sets
          (somebody_answers s view (get_or asks i None) (get_or slots i None) new r p inner is c.in_ok-lay-in-Some.ensures) c.loop-i.invariant.same;
      ready = tasks_on s view i asks slots after rs new long c.loop-i-test.true sets c.loop-i.invariant.ready;
      slots = length_kept i slots after new _ sets c.loop-i.invariant.slots;
    }

pub lay-requires-in-Some-at : goal.lay-requires-in-Some-at
lay-requires-in-Some-at g t c =
    let s = (setting_of c.args.scale (meant_in c.args.table.now (λ v. (g.dyn-1.0.entry v).1))) in
    let node = c.args.node.now in
    let rs = c.children_of-children.result.now in
    let rest = asks_of c.in_ok-then.then.asks in
    let slots = items_of c.loop-i-2.slots in
    let i = c.loop-i-2.i in
    let r = c.index-children-i-in-loop-i-2.result in
    let long : i < length slots = omega (arith, c.loop-i-2.invariant.slots, c.loop-i-2-test.true) in
    let inner = c.in-Some-at.inner.now in
    let task = task_here s None i rest slots rs r long c.loop-i-2-test.true c.index-children-i-in-loop-i-2.is c.loop-i-2.invariant.ready in
    let mine : IsTask s None (Some inner) (get_or slots i None) r = subst (λ (a : Option Ask). IsTask s None a (get_or slots i None) r) (sym c.in-Some-at.ensures) task in (
      omega (arith, item_below rs i r c.loop-i-2-test.true c.index-children-i-in-loop-i-2.is, counted node rs c.children_of-children.ensures, c.decreases),
      (
        item_fits rs i r c.loop-i-2-test.true c.index-children-i-in-loop-i-2.is (below_fit node rs c.children_of-children.ensures c.requires.fits),
        subst (λ (x : Option Laid). IsReady s inner x r) (sym c.take_slot-below-in-Some-at.ensures.value) mine,
      ),
    )

pub loop-i-2-preserved : goal.loop-i-2-preserved
loop-i-2-preserved g t c =
    let s = (setting_of c.args.scale (meant_in c.args.table.now (λ v. (g.dyn-1.0.entry v).1))) in
    let node = c.args.node.now in
    let rs = c.children_of-children.result.now in
    let rest = asks_of c.in_ok-then.then.asks in
    let slots = items_of c.loop-i-2.slots in
    let i = c.loop-i-2.i in
    let r = c.index-children-i-in-loop-i-2.result in
    let long : i < length slots = omega (arith, c.loop-i-2.invariant.slots, c.loop-i-2-test.true) in
    let inner = c.in-Some-at.inner.now in
    let mid = items_of c.take_slot-below-in-Some-at.new.slots in
    let after = items_of c.put_slot-in-Some-at.new.slots in
    let new = c.lay-in-Some-at.new.slot in
    let gives : new ≡ next_slot s None (get_or rest i None) (get_or slots i None) r =
    c.in_ok-lay-in-Some-at.ensures ∙ ap (λ (a : Option Ask). next_slot s None a (get_or slots i None) r) c.in-Some-at.ensures in
    let sets = set_twice i slots mid after None new c.take_slot-below-in-Some-at.ensures.slots c.put_slot-in-Some-at.ensures in
    record {
      same = moves_on s None i rest slots after rs r new _ long c.loop-i-2-test.true c.index-children-i-in-loop-i-2.is sets gives c.loop-i-2.invariant.same;
      ready = tasks_on s None i rest slots after rs new long c.loop-i-2-test.true sets c.loop-i-2.invariant.ready;
      slots = length_kept i slots after new _ sets c.loop-i-2.invariant.slots;
    }

pub bare_at-requires : goal.bare_at-requires
bare_at-requires g t c =
    let s = (setting_of c.args.scale (meant_in c.args.table.now (λ v. (g.dyn-1.0.entry v).1))) in
    let node = c.args.node.now in
    let rs = c.children_of-children.result.now in
    let view = c.across-view.result in
    let asks = asks_of c.in_ok-round.round in
    let slots = items_of c.loop-i.slots in
    let i = c.loop-i.i in
    let r = c.index-children-i.result in
    let long : i < length slots = omega (arith, c.loop-i.invariant.slots, c.loop-i-test.true) in
    let task = task_here s view i asks slots rs r long c.loop-i-test.true c.index-children-i.is c.loop-i.invariant.ready in
    let p = c.in-Some.place.node.now in
    let inner = c.in-Some.inner in
    let is = c.in-Some.ensures ∙ ap (λ (a : Option Ask). target_of view a r) c.at.ensures in
    let can = item_fits rs i r c.loop-i-test.true c.index-children-i.is (below_fit node rs c.children_of-children.ensures c.requires.fits) in
    let both = target_fits view (get_or asks i None) r p inner is can in record {
      there = long;
      nobody = none_below p c.children_of.result.now c.is_empty.result c.children_of.ensures c.is_empty.ensures c.if-is_empty.true;
      fits = both.0;
      ready = target_ready s view (get_or asks i None) (get_or slots i None) r p inner is task;
    }

pub loop-i-preserved-then-is_empty : goal.loop-i-preserved-then-is_empty
loop-i-preserved-then-is_empty g t c =
    let s = (setting_of c.args.scale (meant_in c.args.table.now (λ v. (g.dyn-1.0.entry v).1))) in
    let node = c.args.node.now in
    let rs = c.children_of-children.result.now in
    let view = c.across-view.result in
    let asks = asks_of c.in_ok-round.round in
    let slots = items_of c.loop-i.slots in
    let i = c.loop-i.i in
    let r = c.index-children-i.result in
    let long : i < length slots = omega (arith, c.loop-i.invariant.slots, c.loop-i-test.true) in
    let p = c.in-Some.place.node.now in
    let inner = c.in-Some.inner in
    let is = c.in-Some.ensures ∙ ap (λ (a : Option Ask). target_of view a r) c.at.ensures in
    let after = items_of c.bare_at.new.slots in
    let new = Some (answer (object s p) inner) in
    let sets = c.in_ok-bare_at-in-Some.ensures in
    record {
      same = moves_on s view i asks slots after rs r new _ long c.loop-i-test.true c.index-children-i.is sets
          (somebody_answers s view (get_or asks i None) (get_or slots i None) new r p inner is refl) c.loop-i.invariant.same;
      ready = tasks_on s view i asks slots after rs new long c.loop-i-test.true sets c.loop-i.invariant.ready;
      slots = length_kept i slots after new _ sets c.loop-i.invariant.slots;
    }

pub bare_at-requires-then-is_empty-2 : goal.bare_at-requires-then-is_empty-2
bare_at-requires-then-is_empty-2 g t c =
    let s = (setting_of c.args.scale (meant_in c.args.table.now (λ v. (g.dyn-1.0.entry v).1))) in
    let node = c.args.node.now in
    let rs = c.children_of-children.result.now in
    let rest = asks_of c.in_ok-then.then.asks in
    let slots = items_of c.loop-i-2.slots in
    let i = c.loop-i-2.i in
    let r = c.index-children-i-in-loop-i-2.result in
    let long : i < length slots = omega (arith, c.loop-i-2.invariant.slots, c.loop-i-2-test.true) in
    let inner = c.in-Some-at.inner.now in
    let task = task_here s None i rest slots rs r long c.loop-i-2-test.true c.index-children-i-in-loop-i-2.is c.loop-i-2.invariant.ready in
    let mine : IsTask s None (Some inner) (get_or slots i None) r = subst (λ (a : Option Ask). IsTask s None a (get_or slots i None) r) (sym c.in-Some-at.ensures) task in record {
      there = long;
      nobody = none_below r c.children_of-in-Some-at.result.now c.is_empty-in-Some-at.result c.children_of-in-Some-at.ensures c.is_empty-in-Some-at.ensures c.if-is_empty-2.true;
      fits = item_fits rs i r c.loop-i-2-test.true c.index-children-i-in-loop-i-2.is (below_fit node rs c.children_of-children.ensures c.requires.fits);
      ready = mine;
    }

pub loop-i-2-preserved-then-is_empty-2 : goal.loop-i-2-preserved-then-is_empty-2
loop-i-2-preserved-then-is_empty-2 g t c =
    let s = (setting_of c.args.scale (meant_in c.args.table.now (λ v. (g.dyn-1.0.entry v).1))) in
    let node = c.args.node.now in
    let rs = c.children_of-children.result.now in
    let rest = asks_of c.in_ok-then.then.asks in
    let slots = items_of c.loop-i-2.slots in
    let i = c.loop-i-2.i in
    let r = c.index-children-i-in-loop-i-2.result in
    let long : i < length slots = omega (arith, c.loop-i-2.invariant.slots, c.loop-i-2-test.true) in
    let inner = c.in-Some-at.inner.now in
    let after = items_of c.bare_at-then-is_empty-2.new.slots in
    let new = Some (answer (object s r) inner) in
    let gives : new ≡ next_slot s None (get_or rest i None) (get_or slots i None) r = ap (λ (a : Option Ask). next_slot s None a (get_or slots i None) r) c.in-Some-at.ensures in
    let sets = c.in_ok-bare_at-in-Some-at.ensures in
    record {
      same = moves_on s None i rest slots after rs r new _ long c.loop-i-2-test.true c.index-children-i-in-loop-i-2.is sets gives c.loop-i-2.invariant.same;
      ready = tasks_on s None i rest slots after rs new long c.loop-i-2-test.true sets c.loop-i-2.invariant.ready;
      slots = length_kept i slots after new _ sets c.loop-i-2.invariant.slots;
    }

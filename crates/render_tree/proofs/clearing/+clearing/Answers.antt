use Rattle.std.proofs.Common.{◌≡◌, ◌<◌, ◌≤◌, ◌∙◌, length, take, get_or, refl, sym, ap, arith, false}
use Rattle.fx_handles.specs.declared.Handle.{Handle}
use Rattle.fx_handles.specs.Handle.{same}
use Rattle.node_tree.specs.Tree.{children_at}
use Rattle.render_tree.specs.Users.{is_at_or_below}
use Rattle.render_tree.proofs.Used.{live_from_stands}
use Rattle.render_tree.proofs.Dropped.{Walks, among_at}
use Rattle.render_tree.proofs.Ranged.{clear_set, clears-node, clears-next, clears-all, clears_none, clears_children, size-clears}
use Rattle.render_tree.proofs.clearing.+clearing.Goals as goal

pub clear_at-returns : goal.clear_at-returns
clear_at-returns t c =
    let walks : Walks = record {
      holds = c.walk_laws.ensures.holds;
      subtree = c.walk_laws.ensures.subtree;
      opened = c.child_laws.ensures.opened;
      stands = c.child_laws.ensures.stands;
      listed = c.child_laws.ensures.listed;
    } in
    clears-node walks c.args.tree.now c.write_live.new.tree c.clear_below.new.tree c.args.h c.root.ensures.tree c.requires (clear_set c.args.tree.now c.write_live.new.tree c.args.h c.write_live.ensures) c.clear_below.ensures

pub clear_at-clear_below-requires : goal.clear_at-clear_below-requires
clear_at-clear_below-requires t c =
    let same_size = size-clears c.args.tree.now c.write_live.new.tree (same c.args.h) c.args.h (clear_set c.args.tree.now c.write_live.new.tree c.args.h c.write_live.ensures) in
    let d = c.decreases in
    (omega arith, tt)

pub clear_below-loop-i-init : goal.clear_below-loop-i-init
clear_below-loop-i-init t c = clears_none c.args.tree.now (λ k. false) (λ k. refl)

pub clear_below-clear_at-requires : goal.clear_below-clear_at-requires
clear_below-clear_at-requires t c =
    let cs = children_at c.args.tree.now c.args.h in
    let nowhere : Handle = record { index = 0; generation = 0 } in
    let done = is_at_or_below c.args.tree.now (take c.loop-i.i cs) in
    let kept = clears_children c.args.tree.now c.loop-i.tree done c.args.h c.loop-i.invariant in
    let same_list : c.children.result.now ≡ c.children-i-end.result.now = c.children.ensures.value ∙ kept ∙ sym c.children-i-end.ensures.value in
    let within : c.loop-i.i < length c.children.result.now = omega (arith, ap length same_list, c.loop-i-test.true) in
    let there = among_at c.children.result.now c.loop-i.i nowhere within in
    let smaller = c.children.ensures.smaller (get_or c.children.result.now c.loop-i.i nowhere) there in
    let same_size = size-clears c.args.tree.now c.loop-i.tree done c.args.h c.loop-i.invariant in
    let d = c.decreases in
    (omega arith, live_from_stands c.loop-i.tree (get_or c.children.result.now c.loop-i.i nowhere) _ (c.children.ensures.holds (get_or c.children.result.now c.loop-i.i nowhere) there))

pub clear_below-loop-i-preserved : goal.clear_below-loop-i-preserved
clear_below-loop-i-preserved t c =
    let cs = children_at c.args.tree.now c.args.h in
    let nowhere : Handle = record { index = 0; generation = 0 } in
    let done = is_at_or_below c.args.tree.now (take c.loop-i.i cs) in
    let kept = clears_children c.args.tree.now c.loop-i.tree done c.args.h c.loop-i.invariant in
    let same_list : c.children.result.now ≡ cs = c.children.ensures.value ∙ kept in
    let within : c.loop-i.i < length cs = omega (arith, ap length c.children-i-end.ensures.value, c.loop-i-test.true) in
    clears-next c.args.tree.now c.loop-i.tree c.clear_at.new.tree c.loop-i.i cs (get_or c.children.result.now c.loop-i.i nowhere) nowhere within (ap (λ xs. get_or xs c.loop-i.i nowhere) same_list) c.loop-i.invariant c.clear_at.ensures

pub clear_below-returns : goal.clear_below-returns
clear_below-returns t c =
    let all : length (children_at c.args.tree.now c.args.h) ≤ c.loop-i.i = omega (arith, c.loop-i-test.false, ap length c.children-i-end.ensures.value) in
    clears-all c.args.tree.now c.loop-i.tree c.loop-i.i (children_at c.args.tree.now c.args.h) all c.loop-i.invariant

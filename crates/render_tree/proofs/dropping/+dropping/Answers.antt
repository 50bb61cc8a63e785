use Rattle.std.proofs.Common.{◌<◌, ◌≤◌, length, get_or, refl, ap, arith, false}
use Rattle.fx_handles.specs.declared.Handle.{Handle}
use Rattle.node_tree.specs.Forest.{size}
use Rattle.node_tree.specs.Tree.{children_at, subtree_at}
use Rattle.render_tree.proofs.Used.{live_from_stands}
use Rattle.render_tree.proofs.Dropped.{Walks, drops-node, drops-next, drops-none, drops-all, among_at}
use Rattle.render_tree.proofs.dropping.+dropping.Goals as goal

pub drop_at-returns : goal.drop_at-returns
drop_at-returns t c =
    let walks : Walks = record {
      holds = c.walk_laws.ensures.holds;
      subtree = c.walk_laws.ensures.subtree;
      opened = c.child_laws.ensures.opened;
      stands = c.child_laws.ensures.stands;
      listed = c.child_laws.ensures.listed;
    } in
    drops-node walks c.args.tree.now c.args.h c.args.users.now c.drop_one.new.users c.drop_below.new.users c.root.ensures.tree c.requires c.drop_one.ensures c.drop_below.ensures

pub drop_below-loop-child-init : goal.drop_below-loop-child-init
drop_below-loop-child-init t c = drops-none c.args.tree.now c.args.users.now (λ k. false) (λ k. refl)

pub drop_below-drop_at-requires : goal.drop_below-drop_at-requires
drop_below-drop_at-requires t c =
    let nowhere : Handle = record { index = 0; generation = 0 } in
    let child : Handle = get_or c.children-child-items.result.now c.loop-child.child-index nowhere in
    let there = among_at c.children-child-items.result.now c.loop-child.child-index nowhere c.loop-child-test.true in
    let smaller : size (subtree_at c.args.tree.now child) < size (subtree_at c.args.tree.now c.args.h) = c.children-child-items.ensures.smaller child there in
    let d = c.decreases in
    (omega (arith, smaller), live_from_stands c.args.tree.now child _ (c.children-child-items.ensures.holds child there))

pub drop_below-loop-child-preserved : goal.drop_below-loop-child-preserved
drop_below-loop-child-preserved t c =
    drops-next c.args.tree.now c.loop-child.child-index (children_at c.args.tree.now c.args.h) c.children-child-items.result.now c.args.users.now c.loop-child.users c.drop_at.new.users
    c.children-child-items.ensures.value c.loop-child-test.true c.loop-child.invariant c.drop_at.ensures

pub drop_below-returns : goal.drop_below-returns
drop_below-returns t c =
    let all : length (children_at c.args.tree.now c.args.h) ≤ c.loop-child.child-index = omega (arith, c.loop-child-test.false, ap length c.children-child-items.ensures.value) in
    drops-all c.args.tree.now c.loop-child.child-index (children_at c.args.tree.now c.args.h) c.args.users.now c.loop-child.users all c.loop-child.invariant

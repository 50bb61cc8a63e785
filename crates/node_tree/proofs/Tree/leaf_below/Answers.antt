use Rattle.std.proofs.Common.{sym, ◌∙◌}
use Rattle.node_tree.specs.Tree.{IsTree}
use Rattle.node_tree.proofs.EditLemmas.{if_some_at, if_none_from}
use Rattle.node_tree.proofs.TreeEdits.{node_inside, child_in, child_live}
use Rattle.node_tree.proofs.Tree.leaf_below.Goals as goal

pub loop-child-init : goal.loop-child-init
loop-child-init g c =
    let is : IsTree c.args.self.now = rw c.self.view_is at c.self.invariant in
    (is, c.requires, node_inside _ is.0 c.args.h is.1 c.requires)

pub loop-child-smaller : goal.loop-child-smaller
loop-child-smaller g c = c.children.ensures.smaller c.in-Some.child (if_some_at _ _ _ c.in-Some.is c.last_of.ensures.among)

pub loop-child-preserved : goal.loop-child-preserved
loop-child-preserved g c =
    let is = c.loop-child.invariant.0 in
    let among = rw c.children.ensures.value at (if_some_at _ _ _ c.in-Some.is c.last_of.ensures.among) in
    (is, child_live _ is.0 c.loop-child.at c.in-Some.child is.1 among, child_in _ is.0 c.args.h c.loop-child.at c.in-Some.child is.1 c.requires c.loop-child.invariant.2 among)

pub returns-clause-leaf : goal.returns-clause-leaf
returns-clause-leaf g c = record {
  live = c.loop-child.invariant.1;
  childless = sym c.children.ensures.value ∙ if_none_from _ _ c.in_default.not-Some c.last_of.ensures.empty;
}

pub returns-clause-inside : goal.returns-clause-inside
returns-clause-inside g c = c.loop-child.invariant.2

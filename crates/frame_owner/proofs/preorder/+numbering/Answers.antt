use Rattle.std.proofs.Common.{◌≡◌, ◌<◌, get_or, arith, Some, None, rules}
use Rattle.fx_handles.specs.declared.Handle.{Handle}
use Rattle.node_tree.proofs.Children.{among_at}
use Rattle.node_tree.specs.Forest.{below, skip, size}
use Rattle.node_tree.specs.Tree.{subtree_at}
use Rattle.element_tree.specs.Element.{number_at}
use Rattle.frame_owner.proofs.Numbering.{nth_of, one_more, none_left, all_there, first_number, has_number, zero_handle}
use Rattle.frame_owner.proofs.preorder.+numbering.Goals as goal

pub push_numbers-requires : goal.push_numbers-requires
push_numbers-requires t c =
    let tree = c.args.tree.now.tree in
    let n = nth_of tree c.args.h c.children-children.result.now c.loop-child.child-index (λ i z. c.child_laws.ensures.nth tree c.args.h i z c.requires) c.children-children.ensures.value c.loop-child-test.true in
    let k : Handle = get_or c.children-children.result.now c.loop-child.child-index zero_handle in
    let smaller : size (subtree_at tree k) < size (subtree_at tree c.args.h) =
    c.children-children.ensures.smaller k (among_at c.children-children.result.now c.loop-child.child-index zero_handle c.loop-child-test.true) in
    let d = c.decreases in
    (omega (arith, smaller, d), n.holds)

pub loop-child-init : goal.loop-child-init
loop-child-init t c =
    let tree = c.args.tree.now.tree in
    let said : Some c.in-Some.number ≡ number_at tree c.args.h = search rules in
    first_number tree c.args.h c.in-Some.number c.requires (λ e is. c.child_laws.ensures.opened tree c.args.h e c.requires is) said _ _ c.in_ok-push.ensures.items

pub loop-child-preserved : goal.loop-child-preserved
loop-child-preserved t c =
    let tree = c.args.tree.now.tree in
    let n = nth_of tree c.args.h c.children-children.result.now c.loop-child.child-index (λ i z. c.child_laws.ensures.nth tree c.args.h i z c.requires) c.children-children.ensures.value c.loop-child-test.true in
    one_more tree (below (subtree_at tree c.args.h)) c.loop-child.child-index _ n _ _ _ c.in_ok-push_numbers.ensures c.loop-child.invariant

pub returns-in_default : goal.returns-in_default
returns-in_default t c =
    let said : None ≡ number_at c.args.tree.now.tree c.args.h = search rules in
    absurd (has_number c.args.tree.now.tree c.args.h c.requires said)

pub returns : goal.returns
returns t c =
    let tree = c.args.tree.now.tree in
    all_there _ _ (skip c.loop-child.child-index (below (subtree_at tree c.args.h)))
    (none_left tree c.args.h c.children-children.result.now c.loop-child.child-index c.child_laws.ensures.all (c.child_laws.ensures.listed tree c.args.h c.requires) c.children-children.ensures.value
    (omega (arith, c.loop-child-test.false))) c.loop-child.invariant

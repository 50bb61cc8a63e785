use Rattle.std.proofs.Common.{◌≡◌, ◌<◌, arith, get_or, true, rules}
use Rattle.fx_handles.specs.declared.Handle.{Handle}
use Rattle.node_tree.proofs.Children.{among_at}
use Rattle.node_tree.specs.Forest.{below, size}
use Rattle.node_tree.specs.Tree.{subtree_at}
use Rattle.paint_owner.proofs.Children.{nth_of, zero_handle}
use Rattle.paint_owner.proofs.Searching.{more_stale, more_flagged, more_quiet, more_seen, child_marked, marked_below, at_stale, at_flagged, at_quiet, at_seen}
use Rattle.paint_owner.proofs.finding.+finding.Goals as goal

pub find-returns-clause-stale : goal.find-returns-clause-stale
find-returns-clause-stale t c =
    let o = c.object_of-object.result.now in
    let shown : c.object_of-object.result.now.shown ≡ true = search rules in
    at_stale c.args.tree.now.tree c.args.h o (c.child_laws.ensures.opened c.args.tree.now.tree c.args.h o c.requires.holds c.object_of-object.ensures) shown c.requires.marked _ c.in_ok-inner.ensures.seen _ _ _
    c.in_ok-inner.ensures.stale c.in_ok-seen.ensures.stale

pub find-returns-clause-flagged : goal.find-returns-clause-flagged
find-returns-clause-flagged t c =
    let o = c.object_of-object.result.now in
    let shown : c.object_of-object.result.now.shown ≡ true = search rules in
    at_flagged c.args.tree.now.tree c.args.h o (c.child_laws.ensures.opened c.args.tree.now.tree c.args.h o c.requires.holds c.object_of-object.ensures) shown c.requires.marked _ c.in_ok-inner.ensures.seen _ _ _
    c.in_ok-inner.ensures.flagged c.in_ok-seen.ensures.flagged

pub find-returns-clause-quiet : goal.find-returns-clause-quiet
find-returns-clause-quiet t c =
    let o = c.object_of-object.result.now in
    let shown : c.object_of-object.result.now.shown ≡ true = search rules in
    at_quiet c.args.tree.now.tree c.args.h o (c.child_laws.ensures.opened c.args.tree.now.tree c.args.h o c.requires.holds c.object_of-object.ensures) shown c.requires.marked _ c.in_ok-inner.ensures.seen _ _ _
    c.in_ok-inner.ensures.quiet c.in_ok-seen.ensures.quiet

pub find-returns-clause-seen : goal.find-returns-clause-seen
find-returns-clause-seen t c =
    let o = c.object_of-object.result.now in
    let shown : c.object_of-object.result.now.shown ≡ true = search rules in
    at_seen c.args.tree.now.tree c.args.h o (c.child_laws.ensures.opened c.args.tree.now.tree c.args.h o c.requires.holds c.object_of-object.ensures) shown c.requires.marked _ c.in_ok-inner.ensures.seen _
    c.in_ok-seen.ensures.seen

pub find_below-find-requires : goal.find_below-find-requires
find_below-find-requires t c =
    let tree = c.args.tree.now.tree in
    let n = nth_of tree c.args.h c.children-children.result.now c.loop-child.child-index (λ i z. c.child_laws.ensures.nth tree c.args.h i z c.requires.holds) c.children-children.ensures.value c.loop-child-test.true in
    let k : Handle = get_or c.children-children.result.now c.loop-child.child-index zero_handle in
    let smaller : size (subtree_at tree k) < size (subtree_at tree c.args.h) =
    c.children-children.ensures.smaller k (among_at c.children-children.result.now c.loop-child.child-index zero_handle c.loop-child-test.true) in
    let d = c.decreases in
    (omega (arith, smaller, d), (n.holds, child_marked tree (below (subtree_at tree c.args.h)) c.loop-child.child-index _ n (marked_below (subtree_at tree c.args.h) c.requires.marked)))

pub find_below-loop-child-preserved : goal.find_below-loop-child-preserved
find_below-loop-child-preserved t c =
    let tree = c.args.tree.now.tree in
    let f = below (subtree_at tree c.args.h) in
    let n = nth_of tree c.args.h c.children-children.result.now c.loop-child.child-index (λ i z. c.child_laws.ensures.nth tree c.args.h i z c.requires.holds) c.children-children.ensures.value c.loop-child-test.true in (
      more_stale tree f c.loop-child.child-index _ n _ _ _ c.in_ok-here.ensures.stale c.loop-child.invariant.0,
      more_flagged tree f c.loop-child.child-index _ n _ _ _ c.in_ok-here.ensures.flagged c.loop-child.invariant.1,
      more_quiet tree f c.loop-child.child-index _ n _ _ _ c.in_ok-here.ensures.quiet c.loop-child.invariant.2,
      rw c.both_seen-seen.ensures (more_seen tree f c.loop-child.child-index _ n _ _ _ c.in_ok-here.ensures.seen c.loop-child.invariant.3),
    )

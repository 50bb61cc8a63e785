use Rattle.std.proofs.Common.{◌<◌, arith, get_or, sym, ◌∙◌}
use Rattle.std.proofs.lemmas.List.{append-nil}
use Rattle.fx_handles.specs.declared.Handle.{Handle}
use Rattle.node_tree.proofs.Children.{among_at}
use Rattle.node_tree.specs.Forest.{below, size}
use Rattle.node_tree.specs.Tree.{subtree_at}
use Rattle.layout_rules.proofs.Running.{on_ok}
use Rattle.kept_phases.proofs.Offsets.{zero_handle, nth_of, more_viewports, viewports_all}
use Rattle.kept_phases.proofs.lists.+offsets.Goals as goal

pub offsets_at-returns-in_ok-push-in-Some : goal.offsets_at-returns-in_ok-push-in-Some
offsets_at-returns-in_ok-push-in-Some t c =
    let tree = c.args.r.now.tree in
    on_ok c.offsets_below.result _ _ (λ e.
    viewports_all tree c.args.h c.requires (λ o is. c.child_laws.ensures.opened tree c.args.h o c.requires is) _ (sym c.scroll.ensures ∙ c.in-Some.is) c.args.offsets.now.items _ _
    c.in_ok-push-in-Some.ensures.items e) c.offsets_below.ensures

pub offsets_at-returns-in-None : goal.offsets_at-returns-in-None
offsets_at-returns-in-None t c =
    let tree = c.args.r.now.tree in
    on_ok c.offsets_below-in-None.result _ _ (λ e.
    viewports_all tree c.args.h c.requires (λ o is. c.child_laws.ensures.opened tree c.args.h o c.requires is) _ (sym c.scroll.ensures ∙ c.in-None.is) c.args.offsets.now.items _ _
    (sym (append-nil _)) e) c.offsets_below-in-None.ensures

pub offsets_below-offsets_at-requires : goal.offsets_below-offsets_at-requires
offsets_below-offsets_at-requires t c =
    let tree = c.args.r.now.tree in
    let n = nth_of tree c.args.h c.children-children.result.now c.loop-child.child-index (λ i z. c.child_laws.ensures.nth tree c.args.h i z c.requires) c.children-children.ensures.value c.loop-child-test.true in
    let k : Handle = get_or c.children-children.result.now c.loop-child.child-index zero_handle in
    let smaller : size (subtree_at tree k) < size (subtree_at tree c.args.h) =
    c.children-children.ensures.smaller k (among_at c.children-children.result.now c.loop-child.child-index zero_handle c.loop-child-test.true) in
    let d = c.decreases in
    (omega (arith, smaller, d), n.holds)

pub offsets_below-loop-child-preserved : goal.offsets_below-loop-child-preserved
offsets_below-loop-child-preserved t c =
    let tree = c.args.r.now.tree in
    let f = below (subtree_at tree c.args.h) in
    let n = nth_of tree c.args.h c.children-children.result.now c.loop-child.child-index (λ i z. c.child_laws.ensures.nth tree c.args.h i z c.requires) c.children-children.ensures.value c.loop-child-test.true in
    more_viewports tree f c.loop-child.child-index _ n _ _ _ c.in_ok-offsets_at.ensures c.loop-child.invariant

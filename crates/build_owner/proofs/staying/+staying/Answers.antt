use Rattle.std.proofs.Common.{◌<◌, ◌+◌, ◌++◌, Bool, Some, get_or, refl, sym, ap, ◌∙◌, arith}
use Rattle.fx_handles.specs.declared.Handle.{Handle}
use Rattle.fx_handles.specs.Handle.{same}
use Rattle.indexmap.specs.IndexSet.{contains_by}
use Rattle.node_tree.proofs.Children.{among_at}
use Rattle.node_tree.specs.Forest.{tops, below, size}
use Rattle.node_tree.specs.Plan.{entries}
use Rattle.node_tree.specs.Tree.{subtree_at}
use Rattle.build_owner.specs.Staying.{left_of, left_items}
use Rattle.build_owner.proofs.Leaving.{zero_handle, nth_of, past_all, more_tops, more_entries, all_planned, stay_tops, stay_entries, gone_tops, gone_entries}
use Rattle.build_owner.proofs.staying.+staying.Goals as goal

pub stay_at-returns-then-contains-clause-children : goal.stay_at-returns-then-contains-clause-children
unfolding same
stay_at-returns-then-contains-clause-children t c =
    let named : Handle → Bool = λ k. contains_by (same k) c.args.named.now in
    gone_tops c.args.r.now.tree named c.args.h c.requires (sym c.contains.ensures ∙ c.if-contains.true) c.args.children.now.items

pub stay_at-returns-then-contains-clause-entries : goal.stay_at-returns-then-contains-clause-entries
unfolding same
stay_at-returns-then-contains-clause-entries t c =
    let named : Handle → Bool = λ k. contains_by (same k) c.args.named.now in
    gone_entries c.args.r.now.tree named c.args.h c.requires (sym c.contains.ensures ∙ c.if-contains.true) (Some c.args.parent) c.args.out.now.items

pub stay_at-returns-clause-children : goal.stay_at-returns-clause-children
unfolding same
stay_at-returns-clause-children t c =
    let named : Handle → Bool = λ k. contains_by (same k) c.args.named.now in
    stay_tops c.args.r.now.tree named c.args.h c.requires (sym c.contains.ensures ∙ c.if-contains.false) c.args.children.now.items c.push-2.new.self.items c.in_ok-push-2.ensures.items

pub stay_at-returns-clause-entries : goal.stay_at-returns-clause-entries
unfolding same
stay_at-returns-clause-entries t c =
    let named : Handle → Bool = λ k. contains_by (same k) c.args.named.now in
    stay_entries c.args.r.now.tree named c.args.h c.requires (sym c.contains.ensures ∙ c.if-contains.false) c.args.parent c.args.out.now.items c.stay_below.new.out.items c.push.new.self.items c.new.result
    c.new.ensures.at c.new.ensures.parent (c.new.ensures.children ∙ c.in_ok-below.ensures.children) (λ o at. c.new.ensures.update ∙ c.in_ok-update.ensures o at) c.in_ok-below.ensures.entries c.in_ok-push.ensures.items

pub stay_below-loop-child-init : goal.stay_below-loop-child-init
stay_below-loop-child-init t c =
    let named : Handle → Bool = λ k. contains_by (same k) c.args.named.now in
    (ap (λ l. l ++ tops (left_items c.args.r.now.tree named c.args.h)) c.new-children.ensures.items, refl)

pub stay_below-stay_at-requires : goal.stay_below-stay_at-requires
stay_below-stay_at-requires t c =
    let r = c.args.r.now.tree in
    let cs = c.children-child-items.result.now in
    let i = c.loop-child.child-index in
    let n = nth_of r c.args.h cs i c.requires c.children-child-items.ensures.value c.loop-child-test.true in
    let k : Handle = get_or cs i zero_handle in
    let smaller : size (subtree_at r k) < size (subtree_at r c.args.h) = c.children-child-items.ensures.smaller k (among_at cs i zero_handle c.loop-child-test.true) in
    let d = c.decreases in
    (omega (arith, smaller, d), n.holds)

pub stay_below-loop-child-preserved : goal.stay_below-loop-child-preserved
stay_below-loop-child-preserved t c =
    let named : Handle → Bool = λ k. contains_by (same k) c.args.named.now in
    let r = c.args.r.now.tree in
    let f = below (subtree_at r c.args.h) in
    let cs = c.children-child-items.result.now in
    let i = c.loop-child.child-index in
    let k : Handle = get_or cs i zero_handle in
    let n = nth_of r c.args.h cs i c.requires c.children-child-items.ensures.value c.loop-child-test.true in (
      more_tops r named f i k n c.loop-child.children.items c.stay_at.new.children.items (tops (left_items r named c.args.h)) c.in_ok-stay_at.ensures.children c.loop-child.invariant.0,
      more_entries r named f i k n (Some c.args.h) c.loop-child.out.items c.stay_at.new.out.items (c.args.out.now.items ++ entries (Some c.args.h) (left_items r named c.args.h)) c.in_ok-stay_at.ensures.entries c.loop-child.invariant.1,
    )

pub stay_below-returns-clause-children : goal.stay_below-returns-clause-children
stay_below-returns-clause-children t c =
    let named : Handle → Bool = λ k. contains_by (same k) c.args.named.now in
    let past = past_all c.args.r.now.tree c.args.h c.children-child-items.result.now c.loop-child.child-index c.requires c.children-child-items.ensures.value c.loop-child-test.false in
    all_planned c.loop-child.children.items _ _ (ap (λ f. tops (left_of named f)) past) c.loop-child.invariant.0

pub stay_below-returns-clause-entries : goal.stay_below-returns-clause-entries
stay_below-returns-clause-entries t c =
    let named : Handle → Bool = λ k. contains_by (same k) c.args.named.now in
    let past = past_all c.args.r.now.tree c.args.h c.children-child-items.result.now c.loop-child.child-index c.requires c.children-child-items.ensures.value c.loop-child-test.false in
    all_planned c.loop-child.out.items _ _ (ap (λ f. entries (Some c.args.h) (left_of named f)) past) c.loop-child.invariant.1

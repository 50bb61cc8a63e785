use Rattle.std.proofs.Common.{◌≡◌, ◌<◌, ◌++◌, arith, get_or, true, false, sym, ap, ◌∙◌, rules}
use Rattle.std.proofs.lemmas.List.{append-nil}
use Rattle.fx_handles.specs.declared.Handle.{Handle}
use Rattle.node_tree.proofs.Children.{among_at}
use Rattle.node_tree.specs.Forest.{below, size}
use Rattle.node_tree.specs.Tree.{subtree_at}
use Rattle.render_tree.specs.Readings.{shown_of}
use Rattle.render_tree.specs.Tree.{object_at}
use Rattle.layout_rules.proofs.Running.{on_ok}
use Rattle.layout_owner.proofs.Listing.{nth_of, zero_handle, list_more, listed}
use Rattle.layout_owner.proofs.ranges.+listing.Goals as goal

false_true : false ≡ true → ⊥
false_true e = cc

pub list_at-returns-then-not-shown : goal.list_at-returns-then-not-shown
list_at-returns-then-not-shown t c =
    let tree = c.args.r.now.tree in
    let shown : shown_of (object_at tree c.args.h) ≡ false = search rules in
    sym (append-nil _) ∙ ap (λ xs. c.args.lists.now.items ++ xs)
    (sym (listed tree c.args.h c.requires (λ o holds is. c.child_laws.ensures.opened tree c.args.h o holds is) false false shown (λ e. absurd (false_true e))))

pub list_at-returns-then-is_list : goal.list_at-returns-then-is_list
list_at-returns-then-is_list t c =
    let tree = c.args.r.now.tree in
    let shown : shown_of (object_at tree c.args.h) ≡ true = search rules in
    c.in_ok-push.ensures.items
    ∙ ap (λ xs. c.args.lists.now.items ++ xs)
    (sym (listed tree c.args.h c.requires (λ o holds is. c.child_laws.ensures.opened tree c.args.h o holds is) true true shown (λ e o is. sym c.if-is_list.true ∙ c.is_list.ensures o is)))

pub list_at-returns : goal.list_at-returns
list_at-returns t c =
    let tree = c.args.r.now.tree in
    let shown : shown_of (object_at tree c.args.h) ≡ true = search rules in
    on_ok c.list_below.result _ _ (λ e. e
    ∙ ap (λ xs. c.args.lists.now.items ++ xs)
    (sym (listed tree c.args.h c.requires (λ o holds is. c.child_laws.ensures.opened tree c.args.h o holds is) true false shown (λ f o is. sym c.if-is_list.false ∙ c.is_list.ensures o is)))) c.list_below.ensures

pub list_below-list_at-requires : goal.list_below-list_at-requires
list_below-list_at-requires t c =
    let tree = c.args.r.now.tree in
    let n = nth_of tree c.args.h c.children-children.result.now c.loop-child.child-index (λ i z. c.child_laws.ensures.nth tree c.args.h i z c.requires) c.children-children.ensures.value c.loop-child-test.true in
    let k : Handle = get_or c.children-children.result.now c.loop-child.child-index zero_handle in
    let smaller : size (subtree_at tree k) < size (subtree_at tree c.args.h) =
    c.children-children.ensures.smaller k (among_at c.children-children.result.now c.loop-child.child-index zero_handle c.loop-child-test.true) in
    let d = c.decreases in
    (omega (arith, smaller, d), n.holds)

pub list_below-loop-child-preserved : goal.list_below-loop-child-preserved
list_below-loop-child-preserved t c =
    let tree = c.args.r.now.tree in
    let f = below (subtree_at tree c.args.h) in
    let n = nth_of tree c.args.h c.children-children.result.now c.loop-child.child-index (λ i z. c.child_laws.ensures.nth tree c.args.h i z c.requires) c.children-children.ensures.value c.loop-child-test.true in
    list_more tree f c.loop-child.child-index _ n _ _ _ c.in_ok-list_at.ensures c.loop-child.invariant

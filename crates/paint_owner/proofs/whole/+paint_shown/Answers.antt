use Rattle.std.proofs.Common.{◌≡◌, ◌≢◌, ◌<◌, map, refl, get_or, true, false, rules, arith}
use Rattle.fx_handles.specs.declared.Handle.{Handle}
use Rattle.delegates.specs.Table.{meant_in}
use Rattle.layer_tree.specs.View.{item_of}
use Rattle.node_tree.proofs.Children.{among_at}
use Rattle.node_tree.specs.Forest.{below, size}
use Rattle.node_tree.specs.Tree.{subtree_at}
use Rattle.screen_form.specs.declared.paint_role.PaintRole.TheVariants.{Hides}
use Rattle.paint_owner.proofs.Children.{nth_of, nth_with, none_left, zero_handle}
use Rattle.paint_owner.proofs.WholePaint.{items_end, item_out, item_hidden, item_painted}
use Rattle.paint_owner.proofs.whole.+paint_shown.Goals as goal

pub loop-child-init : goal.loop-child-init
loop-child-init g t c = (refl, refl)

pub object_of-object-requires : goal.object_of-object-requires
object_of-object-requires g t c =
    let tree = c.args.tree.now.tree in
    let n = nth_of tree c.args.h c.children-children.result.now c.loop-child.child-index (λ i z. c.child_laws.ensures.nth tree c.args.h i z c.requires) c.children-children.ensures.value c.loop-child-test.true in
    n.holds

pub loop-child-preserved-then-not-shown : goal.loop-child-preserved-then-not-shown
loop-child-preserved-then-not-shown g t c =
    let tree = c.args.tree.now.tree in
    let n = nth_with tree (below (subtree_at tree c.args.h)) c.loop-child.child-index _
    (nth_of tree c.args.h c.children-children.result.now c.loop-child.child-index (λ i z. c.child_laws.ensures.nth tree c.args.h i z c.requires) c.children-children.ensures.value c.loop-child-test.true)
    c.object_of-object.result.now c.object_of-object.ensures in
    let out : c.object_of-object.result.now.shown ≡ false = search rules in
    item_out c.args.tree.now.scale.cell (meant_in c.args.table.now (λ v. (g.dyn-1.0.entry v).1)) tree (below (subtree_at tree c.args.h)) c.loop-child.child-index _ n c.args.from
    (map item_of c.loop-child.items.items) _ c.loop-child.invariant.0 c.loop-child.paints _ c.loop-child.invariant.1 out

pub loop-child-preserved-then-eq : goal.loop-child-preserved-then-eq
loop-child-preserved-then-eq g t c =
    let tree = c.args.tree.now.tree in
    let n = nth_with tree (below (subtree_at tree c.args.h)) c.loop-child.child-index _
    (nth_of tree c.args.h c.children-children.result.now c.loop-child.child-index (λ i z. c.child_laws.ensures.nth tree c.args.h i z c.requires) c.children-children.ensures.value c.loop-child-test.true)
    c.object_of-object.result.now c.object_of-object.ensures in
    let shown : c.object_of-object.result.now.shown ≡ true = search rules in
    let hidden : c.role_at-role.result ≡ Hides = search rules in
    item_hidden c.args.tree.now.scale.cell (meant_in c.args.table.now (λ v. (g.dyn-1.0.entry v).1)) tree (below (subtree_at tree c.args.h)) c.loop-child.child-index _ n c.args.from
    (map item_of c.loop-child.items.items) _ c.loop-child.invariant.0 c.loop-child.paints _ c.loop-child.invariant.1 shown
    (c.child_laws.ensures.opened tree _ n.value n.holds n.value_is)
    c.place_of-at.result c.place_of-at.ensures c.role_at-role.result c.role_at-role.ensures (map item_of c.push_drawn.new.items.items) c.in_ok-push_drawn.ensures
    c.tick.new.self c.tick.ensures hidden

pub paint_shown-requires : goal.paint_shown-requires
paint_shown-requires g t c κs within =
    let tree = c.args.tree.now.tree in
    let n = nth_of tree c.args.h c.children-children.result.now c.loop-child.child-index (λ i z. c.child_laws.ensures.nth tree c.args.h i z c.requires) c.children-children.ensures.value c.loop-child-test.true in
    let k : Handle = get_or c.children-children.result.now c.loop-child.child-index zero_handle in
    let smaller : size (subtree_at tree k) < size (subtree_at tree c.args.h) =
    c.children-children.ensures.smaller k (among_at c.children-children.result.now c.loop-child.child-index zero_handle c.loop-child-test.true) in
    let d = c.decreases in
    (omega (arith, smaller, d), (within, n.holds))

pub loop-child-preserved : goal.loop-child-preserved
loop-child-preserved g t c =
    let tree = c.args.tree.now.tree in
    let n = nth_with tree (below (subtree_at tree c.args.h)) c.loop-child.child-index _
    (nth_of tree c.args.h c.children-children.result.now c.loop-child.child-index (λ i z. c.child_laws.ensures.nth tree c.args.h i z c.requires) c.children-children.ensures.value c.loop-child-test.true)
    c.object_of-object.result.now c.object_of-object.ensures in
    let shown : c.object_of-object.result.now.shown ≡ true = search rules in
    let seen : c.role_at-role.result ≢ Hides = search rules in
    item_painted c.args.tree.now.scale.cell (meant_in c.args.table.now (λ v. (g.dyn-1.0.entry v).1)) tree (below (subtree_at tree c.args.h)) c.loop-child.child-index _ n c.args.from
    (map item_of c.loop-child.items.items) _ c.loop-child.invariant.0 c.loop-child.paints _ c.loop-child.invariant.1 shown
    (c.child_laws.ensures.opened tree _ n.value n.holds n.value_is)
    c.place_of-at.result c.place_of-at.ensures c.role_at-role.result c.role_at-role.ensures (map item_of c.push_drawn.new.items.items) c.in_ok-push_drawn.ensures
    c.tick.new.self c.tick.ensures seen
    c.point_below.result c.point_below.ensures (map item_of c.begin_items-aside.result.items) (map item_of c.begin_items-aside.new.items.items)
    (map item_of c.paint_shown.new.items.items) (map item_of c.end_items.new.items.items)
    c.begin_items-aside.ensures.aside c.begin_items-aside.ensures.begun c.in_ok-paint_shown.ensures.items c.in_ok-end_items.ensures
    c.paint_shown.new.paints c.in_ok-paint_shown.ensures.paints

pub returns-clause-items : goal.returns-clause-items
returns-clause-items g t c =
    items_end c.args.tree.now.scale.cell (meant_in c.args.table.now (λ v. (g.dyn-1.0.entry v).1)) _
    (none_left c.args.tree.now.tree c.args.h c.children-children.result.now c.loop-child.child-index c.child_laws.ensures.all (c.child_laws.ensures.listed c.args.tree.now.tree c.args.h c.requires) c.children-children.ensures.value c.loop-child-test.false)
    c.args.from _ _ c.loop-child.invariant.0

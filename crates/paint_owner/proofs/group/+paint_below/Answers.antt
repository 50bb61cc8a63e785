use Rattle.std.proofs.Common.{◌≡◌, ◌≢◌, ◌<◌, false, map, refl, get_or, rules, arith}
use Rattle.fx_handles.specs.declared.Handle.{Handle}
use Rattle.delegates.specs.Table.{meant_in}
use Rattle.node_tree.proofs.Children.{among_at}
use Rattle.node_tree.specs.Forest.{below, size}
use Rattle.node_tree.specs.Tree.{subtree_at}
use Rattle.screen_form.specs.declared.paint_role.PaintRole.TheVariants.{Hides}
use Rattle.paint_owner.specs.View.{part_of}
use Rattle.paint_owner.proofs.Children.{nth_of, nth_with, zero_handle}
use Rattle.paint_owner.proofs.Painting.{left_out, itself, with_below}
use Rattle.paint_owner.proofs.group.+paint_below.Goals as goal

pub loop-child-init : goal.loop-child-init
loop-child-init g t c = (refl, refl)

pub object_of-object-requires : goal.object_of-object-requires
object_of-object-requires g t c =
    let tree = c.args.tree.now.tree in
    let n = nth_of tree c.args.h c.children-children.result.now c.loop-child.child-index (λ i z. c.child_laws.ensures.nth tree c.args.h i z c.requires) c.children-children.ensures.value c.loop-child-test.true in
    n.holds

pub loop-child-preserved-then-not-shown : goal.loop-child-preserved-then-not-shown
loop-child-preserved-then-not-shown g t c =
    let tree = c.args.tree.now.tree in
    let n = nth_with tree (below (subtree_at tree c.args.h)) c.loop-child.child-index _
    (nth_of tree c.args.h c.children-children.result.now c.loop-child.child-index (λ i z. c.child_laws.ensures.nth tree c.args.h i z c.requires) c.children-children.ensures.value c.loop-child-test.true)
    c.object_of-object.result.now c.object_of-object.ensures in
    let out : c.object_of-object.result.now.shown ≡ false = search rules in
    left_out c.args.tree.now.scale.cell (meant_in c.args.table.now (λ v. (g.dyn-1.0.entry v).1)) tree (below (subtree_at tree c.args.h)) c.loop-child.child-index _ n c.args.from
    (map part_of c.loop-child.parts.items) _ c.loop-child.invariant.0 c.loop-child.paints _ c.loop-child.invariant.1 out

pub loop-child-preserved-then-eq : goal.loop-child-preserved-then-eq
loop-child-preserved-then-eq g t c =
    let tree = c.args.tree.now.tree in
    let n = nth_with tree (below (subtree_at tree c.args.h)) c.loop-child.child-index _
    (nth_of tree c.args.h c.children-children.result.now c.loop-child.child-index (λ i z. c.child_laws.ensures.nth tree c.args.h i z c.requires) c.children-children.ensures.value c.loop-child-test.true)
    c.object_of-object.result.now c.object_of-object.ensures in
    let hidden : c.entered-role.result ≡ Hides = search rules in
    itself c.args.tree.now.scale.cell (meant_in c.args.table.now (λ v. (g.dyn-1.0.entry v).1)) tree (below (subtree_at tree c.args.h)) c.loop-child.child-index _ n c.args.from c.place_of-at.result
    c.place_of-at.ensures c.entered-role.result c.entered-role.ensures
    (map part_of c.loop-child.parts.items) (map part_of c.push_part.new.parts.items) _ c.in_ok-push_part.ensures c.loop-child.invariant.0
    c.loop-child.paints c.tick_own.new.paints _ c.tick_own.ensures c.loop-child.invariant.1 hidden

pub paint_below-requires : goal.paint_below-requires
paint_below-requires g t c κs within =
    let tree = c.args.tree.now.tree in
    let n = nth_of tree c.args.h c.children-children.result.now c.loop-child.child-index (λ i z. c.child_laws.ensures.nth tree c.args.h i z c.requires) c.children-children.ensures.value c.loop-child-test.true in
    let k : Handle = get_or c.children-children.result.now c.loop-child.child-index zero_handle in
    let smaller : size (subtree_at tree k) < size (subtree_at tree c.args.h) =
    c.children-children.ensures.smaller k (among_at c.children-children.result.now c.loop-child.child-index zero_handle c.loop-child-test.true) in
    let d = c.decreases in
    (omega (arith, smaller, d), (within, n.holds))

pub loop-child-preserved : goal.loop-child-preserved
loop-child-preserved g t c =
    let tree = c.args.tree.now.tree in
    let n = nth_with tree (below (subtree_at tree c.args.h)) c.loop-child.child-index _
    (nth_of tree c.args.h c.children-children.result.now c.loop-child.child-index (λ i z. c.child_laws.ensures.nth tree c.args.h i z c.requires) c.children-children.ensures.value c.loop-child-test.true)
    c.object_of-object.result.now c.object_of-object.ensures in
    let seen : c.entered-role.result ≢ Hides = search rules in
    with_below c.args.tree.now.scale.cell (meant_in c.args.table.now (λ v. (g.dyn-1.0.entry v).1)) tree (below (subtree_at tree c.args.h)) c.loop-child.child-index _ n c.args.from c.place_of-at.result
    c.place_of-at.ensures c.entered-role.result c.entered-role.ensures
    (map part_of c.loop-child.parts.items) (map part_of c.push_part.new.parts.items) _ c.in_ok-push_part.ensures c.loop-child.invariant.0
    c.loop-child.paints c.tick_own.new.paints _ c.tick_own.ensures c.loop-child.invariant.1 seen
    c.point_below.result c.point_below.ensures (map part_of c.begin-aside.result.items) (map part_of c.begin-aside.new.parts.items)
    (map part_of c.paint_below.new.parts.items) (map part_of c.end.new.parts.items)
    c.begin-aside.ensures.aside c.begin-aside.ensures.begun c.in_ok-paint_below.ensures.parts c.in_ok-end.ensures
    c.paint_below.new.paints c.in_ok-paint_below.ensures.paints

use Rattle.std.proofs.Common.{◌≡◌, ◌≢◌, map, rules, arith}
use Rattle.delegates.specs.Table.{meant_in}
use Rattle.layer_tree.specs.View.{item_of}
use Rattle.node_tree.specs.Tree.{Holds}
use Rattle.screen_form.specs.declared.paint_role.PaintRole.TheVariants.{Hides}
use Rattle.paint_owner.proofs.WholePaint.{node_painted, node_hidden, count_painted, count_hidden}
use Rattle.paint_owner.proofs.whole.paint_one.Goals as goal

pub returns-then-eq-clause-items : goal.returns-then-eq-clause-items
returns-then-eq-clause-items g c =
    let t = c.args.tree.now.tree in
    let h = c.args.h in
    let holds : Holds t h = c.walk_laws.ensures.holds t h c.root.ensures.tree c.requires in
    let o = c.object_of-object.result.now in
    let opened = c.child_laws.ensures.opened t h o holds c.object_of-object.ensures in
    let hidden : c.role_at-role.result ≡ Hides = search rules in
    node_hidden c.args.tree.now.scale.cell (meant_in c.args.table.now (λ v. (g.dyn-1.0.entry v).1)) t h o opened c.args.at c.role_at-role.result c.role_at-role.ensures _ (map item_of c.push_drawn.new.items.items) c.in_ok-push_drawn.ensures hidden

pub returns-then-eq-clause-paints : goal.returns-then-eq-clause-paints
returns-then-eq-clause-paints g c =
    let t = c.args.tree.now.tree in
    let h = c.args.h in
    let holds : Holds t h = c.walk_laws.ensures.holds t h c.root.ensures.tree c.requires in
    let o = c.object_of-object.result.now in
    let opened = c.child_laws.ensures.opened t h o holds c.object_of-object.ensures in
    let hidden : c.role_at-role.result ≡ Hides = search rules in
    let one = count_hidden c.args.tree.now.scale.cell (meant_in c.args.table.now (λ v. (g.dyn-1.0.entry v).1)) t h o opened c.args.at c.role_at-role.result c.role_at-role.ensures _ (map item_of c.push_drawn.new.items.items) c.in_ok-push_drawn.ensures hidden in omega (arith, one, c.tick.ensures)

pub returns-clause-items : goal.returns-clause-items
returns-clause-items g c =
    let t = c.args.tree.now.tree in
    let h = c.args.h in
    let holds : Holds t h = c.walk_laws.ensures.holds t h c.root.ensures.tree c.requires in
    let o = c.object_of-object.result.now in
    let opened = c.child_laws.ensures.opened t h o holds c.object_of-object.ensures in
    let seen : c.role_at-role.result ≢ Hides = search rules in
    node_painted c.args.tree.now.scale.cell (meant_in c.args.table.now (λ v. (g.dyn-1.0.entry v).1)) t h o opened c.args.at c.role_at-role.result c.role_at-role.ensures _ (map item_of c.push_drawn.new.items.items) c.in_ok-push_drawn.ensures seen c.point_below-from.result c.point_below-from.ensures (map item_of c.begin_items-aside.result.items) (map item_of c.begin_items-aside.new.items.items) (map item_of c.paint_shown.new.items.items) (map item_of c.end_items.new.items.items)
    c.begin_items-aside.ensures.aside c.begin_items-aside.ensures.begun c.in_ok-paint_shown.ensures.items c.in_ok-end_items.ensures

pub returns-clause-paints : goal.returns-clause-paints
returns-clause-paints g c =
    let t = c.args.tree.now.tree in
    let h = c.args.h in
    let holds : Holds t h = c.walk_laws.ensures.holds t h c.root.ensures.tree c.requires in
    let o = c.object_of-object.result.now in
    let opened = c.child_laws.ensures.opened t h o holds c.object_of-object.ensures in
    let seen : c.role_at-role.result ≢ Hides = search rules in
    let one = count_painted c.args.tree.now.scale.cell (meant_in c.args.table.now (λ v. (g.dyn-1.0.entry v).1)) t h o opened c.args.at c.role_at-role.result c.role_at-role.ensures _ (map item_of c.push_drawn.new.items.items) c.in_ok-push_drawn.ensures seen in omega (arith, one, c.tick.ensures, c.in_ok-paint_shown.ensures.paints)

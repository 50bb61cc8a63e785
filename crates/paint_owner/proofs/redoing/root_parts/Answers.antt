use Rattle.std.proofs.Common.{◌≢◌, ◌++◌, map, ap, ◌∙◌, rules, arith}
use Rattle.fx_geom.specs.Offset.{origin}
use Rattle.delegates.specs.Table.{meant_in}
use Rattle.node_tree.specs.Tree.{subtree_at}
use Rattle.screen_form.specs.declared.paint_role.PaintRole.TheVariants.{Hides}
use Rattle.paint_owner.specs.Grouping.{added}
use Rattle.paint_owner.specs.View.{part_of}
use Rattle.paint_owner.proofs.Flushing.{root_costs}
use Rattle.paint_owner.proofs.Painting.{root_painted, root_counted}
use Rattle.paint_owner.proofs.redoing.root_parts.Goals as goal

pub returns-clause-parts : goal.returns-clause-parts
returns-clause-parts g c =
    let t = c.args.tree.now.tree in
    let h = c.args.h in
    let o = c.object_of-object.result.now in
    let cell = c.args.tree.now.scale.cell in
    let ds = meant_in c.args.table.now (λ v. (g.dyn-1.0.entry v).1) in
    let seen : c.entered-role.result ≢ Hides = search rules in
    root_painted cell ds t h o (c.child_laws.ensures.opened t h o c.requires.holds c.object_of-object.ensures) c.requires.shown c.entered-role.result c.entered-role.ensures seen
    (map part_of c.push_part.new.parts.items) (c.in_ok-push_part.ensures ∙ ap (λ ps. map part_of ps ++ added cell ds h o origin) c.new-parts.ensures.items)
    c.point_below-from.result c.point_below-from.ensures (map part_of c.begin-aside.result.items) (map part_of c.begin-aside.new.parts.items)
    (map part_of c.paint_below.new.parts.items) (map part_of c.end.new.parts.items)
    c.begin-aside.ensures.aside c.begin-aside.ensures.begun c.in_ok-paint_below.ensures.parts c.in_ok-end.ensures

pub returns-clause-paints : goal.returns-clause-paints
returns-clause-paints g c =
    let t = c.args.tree.now.tree in
    let h = c.args.h in
    let o = c.object_of-object.result.now in
    let cell = c.args.tree.now.scale.cell in
    let ds = meant_in c.args.table.now (λ v. (g.dyn-1.0.entry v).1) in
    let seen : c.entered-role.result ≢ Hides = search rules in
    let one = root_counted cell ds t h o (c.child_laws.ensures.opened t h o c.requires.holds c.object_of-object.ensures) c.requires.shown c.entered-role.result c.entered-role.ensures seen in
    let all = root_costs (subtree_at t h) h c.requires.holds.top c.requires.shown in
    omega (arith, one, all, c.tick_own.ensures, c.in_ok-paint_below.ensures.paints)

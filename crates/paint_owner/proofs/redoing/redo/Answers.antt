use Rattle.std.proofs.Common.{◌≡◌, map, true, false, rules}
use Rattle.fx_geom.specs.Offset.{origin}
use Rattle.delegates.specs.Table.{meant_in}
use Rattle.node_tree.specs.Forest.{below}
use Rattle.node_tree.specs.Tree.{subtree_at}
use Rattle.render_tree.specs.Readings.{needs_paint_of}
use Rattle.render_tree.specs.Tree.{object_at}
use Rattle.kept_layers.specs.Group.{group_parts}
use Rattle.paint_owner.specs.Finding.{told}
use Rattle.paint_owner.specs.View.{part_of}
use Rattle.paint_owner.proofs.Keeping.{put_whole, put_group}
use Rattle.paint_owner.proofs.redoing.redo.Goals as goal

pub returns-then-needs_paint-clause-kept : goal.returns-then-needs_paint-clause-kept
returns-then-needs_paint-clause-kept g c =
    let on : needs_paint_of (object_at c.args.tree.now.tree c.args.h) ≡ true = search rules in
    let painted : map part_of c.paint_below.new.parts.items ≡ group_parts c.args.tree.now.scale.cell (meant_in c.args.table.now (λ v. (g.dyn-1.0.entry v).1)) (below (subtree_at c.args.tree.now.tree c.args.h)) origin = search rules in
    put_group (told c.args.tree.now.scale.cell (meant_in c.args.table.now (λ v. (g.dyn-1.0.entry v).1)) c.args.tree.now.tree) c.args.h on (map part_of c.paint_below.new.parts.items) painted _ c.in_ok-kept.ensures.parts
    _ _ _ _ _ c.in_ok-kept.ensures.items c.in_ok-keep.ensures.parts c.in_ok-keep.ensures.wholes

pub returns-clause-kept : goal.returns-clause-kept
returns-clause-kept g c =
    let off : needs_paint_of (object_at c.args.tree.now.tree c.args.h) ≡ false = search rules in
    put_whole (told c.args.tree.now.scale.cell (meant_in c.args.table.now (λ v. (g.dyn-1.0.entry v).1)) c.args.tree.now.tree) c.args.h off _ _ _ _ c.in_ok-items.ensures c.in_ok-put.ensures.ok

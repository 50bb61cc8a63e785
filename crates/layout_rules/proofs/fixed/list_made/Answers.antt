use Rattle.std.proofs.Common.{ap, ◌∙◌, List, length}
use Rattle.fx_geom.specs.declared.shapes.Offset.{Offset}
use Rattle.fx_handles.specs.declared.Handle.{Handle}
use Rattle.node_tree.specs.Tree.{children_at}
use Rattle.sliver_layout.specs.declared.protocol.Geometry.{Geometry}
use Rattle.sliver_layout.specs.Lists.{list_geometry_of}
use Rattle.kind_rules.specs.Ruling.{sliver_ruling}
use Rattle.layout_rules.proofs.fixed.list_made.Goals as goal

pub returns : goal.returns
returns c =
    let b = c.args.b in
    let extent = c.args.extent in
    let hs = children_at c.args.r.now.tree c.args.h in
    ap (λ (g : Geometry). sliver_ruling b (record { geometry = g; places = c.in_ok-places.places.items }))
    (c.list_geometry.ensures.value ∙ ap (λ (ks : List Handle). list_geometry_of b extent (length ks)) c.children.ensures.value)
    ∙ ap (λ (ps : List Offset). sliver_ruling b (record { geometry = list_geometry_of b extent (length hs); places = ps })) c.in_ok-places.ensures

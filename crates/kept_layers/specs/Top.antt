-- The root's own part of a frame's layer: its group where it is no RepaintBoundary, and else its place.
use Rattle.std.specs.Prelude.{◌≡◌, false, Option, Some, List, [], ◌++◌}
use Rattle.fx_geom.specs.declared.shapes.Size.{Size}
use Rattle.fx_geom.specs.Offset.{origin}
use Rattle.delegates.specs.Table.{Plug}
use Rattle.node_tree.specs.Forest.{Forest}
use Rattle.node_tree.specs.Forest.Forest.{none, tree}
use Rattle.screen_form.specs.Painted.{has_child}
use Rattle.render_tree.specs.Object.{RenderObject}
use Rattle.render_tree.specs.Plain.{laids_of}
use Rattle.kept_layers.specs.GroupPart.{GroupPart}
use Rattle.kept_layers.specs.Group.{is_boundary, own_parts, group_role, parts_below, group_parts}

-- the parts of the root's tree, which is painted at (0,0), wherever it is said to stand
abbrev pub root_parts : Size → List Plug → Forest RenderObject → List GroupPart
root_parts cell delegates none = []
root_parts cell delegates (tree h o below rest) =
    own_parts cell delegates h o origin
    ++ parts_below (group_role o (has_child (laids_of below)) origin) origin (λ r. group_parts cell delegates below r)

-- what is kept of the root's parts is as they are now, where the root isn't flagged; a RepaintBoundary keeps them as others do
abbrev pub IsTopFresh : Size → List Plug → Option (List GroupPart) → Forest RenderObject → Type 0
IsTopFresh cell delegates top none = Unit {0}
IsTopFresh cell delegates top (tree h o below rest) =
    is_boundary o ≡ false → o.needs_paint ≡ false → top ≡ Some (root_parts cell delegates (tree h o below rest))

-- What is painted of a part of the tree at a point, with all its boundaries.
use Rattle.std.specs.Prelude.{ℕ, suc, ◌+◌, if◌then◌else◌, List, [], Option, None, Some}
use Rattle.fx_geom.specs.declared.shapes.Offset.{Offset}
use Rattle.fx_geom.specs.declared.shapes.Size.{Size}
use Rattle.delegates.specs.Table.{Plug}
use Rattle.layer_tree.specs.LayerItem.{LayerItem}
use Rattle.node_tree.specs.Forest.{Forest}
use Rattle.node_tree.specs.Forest.Forest.{none, tree}
use Rattle.plain_tree.specs.Laid.{Laid}
use Rattle.screen_form.specs.Painted.{painted}
use Rattle.render_tree.specs.Object.{RenderObject}
use Rattle.kept_layers.specs.Group.{opens}

-- the items of a laid tree, if there is one
abbrev pub painted_at : Size → List Plug → Option Laid → Offset → List LayerItem
painted_at cell delegates None p = []
painted_at cell delegates (Some l) p = painted cell delegates l p

-- how many nodes of a forest are painted: those in the window that nothing hides
abbrev pub shown_count : Forest RenderObject → ℕ
shown_count none = 0
shown_count (tree h o below rest) = (if o.shown then suc (if opens o then shown_count below else 0) else 0) + shown_count rest

-- and of a node with what is below it, whether it is in the window or not
abbrev pub whole_count : Forest RenderObject → ℕ
whole_count none = 0
whole_count (tree h o below rest) = suc (if opens o then shown_count below else 0)

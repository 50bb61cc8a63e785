-- No definition of painting, but the shape of a program that paints a group into one list: where a node makes a layer of its own,
-- what stands before it is set aside, and the list goes on empty until the layer ends.
use Rattle.std.specs.Prelude.{Bool, not, ◌&&◌, if◌then◌else◌, ℕ, List, [], ◌∷◌, ◌++◌}
use Rattle.fx_handles.specs.declared.Handle.{Handle}
use Rattle.fx_geom.specs.declared.shapes.Offset.{Offset}
use Rattle.fx_geom.specs.declared.shapes.Size.{Size}
use Rattle.delegates.specs.Table.{Plug}
use Rattle.layer_tree.specs.LayerItem.{LayerItem, nested, items_of}
use Rattle.screen_form.specs.declared.paint_role.PaintRole.{PaintRole}
use Rattle.screen_form.specs.declared.paint_role.PaintRole.TheVariants.{Hides, Passes, Layers}
use Rattle.render_tree.specs.Object.{RenderObject}
use Rattle.kept_layers.specs.GroupPart.{GroupPart, layer_part, parts_of}
use Rattle.kept_layers.specs.Group.{is_boundary, own_parts, group_role}

-- how a group goes on below a node, which may be out of the window
abbrev pub entered : RenderObject → Bool → Offset → PaintRole
entered o has p = if o.shown then group_role o has p else Hides

-- what the node itself adds, and what it counts
abbrev pub added : Size → List Plug → Handle → RenderObject → Offset → List GroupPart
added cell delegates h o p = if o.shown then own_parts cell delegates h o p else []

abbrev pub own_count : RenderObject → ℕ
own_count o = if o.shown && not (is_boundary o) then 1 else 0

-- what is set aside of a list, and what it goes on with
abbrev pub set_aside : PaintRole → List GroupPart → List GroupPart
set_aside Hides before = []
set_aside Passes before = []
set_aside (Layers kind) before = before

abbrev pub begun : PaintRole → List GroupPart → List GroupPart
begun Hides before = before
begun Passes before = before
begun (Layers kind) before = []

-- the list after the layer, if there is one
abbrev pub ended : PaintRole → List GroupPart → List GroupPart → List GroupPart
ended Hides aside inside = inside
ended Passes aside inside = inside
ended (Layers kind) aside inside = aside ++ layer_part kind (parts_of inside) ∷ []

-- the same for a program that paints items
abbrev pub items_aside : PaintRole → List LayerItem → List LayerItem
items_aside Hides before = []
items_aside Passes before = []
items_aside (Layers kind) before = before

abbrev pub items_begun : PaintRole → List LayerItem → List LayerItem
items_begun Hides before = before
items_begun Passes before = before
items_begun (Layers kind) before = []

abbrev pub items_ended : PaintRole → List LayerItem → List LayerItem → List LayerItem
items_ended Hides aside inside = inside
items_ended Passes aside inside = inside
items_ended (Layers kind) aside inside = aside ++ nested kind (items_of inside) ∷ []

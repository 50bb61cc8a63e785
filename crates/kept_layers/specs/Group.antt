-- The group of a repaint boundary: the nodes below it down to the boundaries nested in it, and what is painted of them.
use Rattle.std.specs.Prelude.{ℕ, suc, ◌+◌, Bool, not, ◌&&◌, if◌then◌else◌, List, [], ◌∷◌, ◌++◌, map}
use Rattle.fx_handles.specs.declared.Handle.{Handle}
use Rattle.fx_geom.specs.declared.shapes.Offset.{Offset}
use Rattle.fx_geom.specs.declared.shapes.Size.{Size}
use Rattle.fx_geom.specs.Offset.{offset_sum}
use Rattle.delegates.specs.Table.{Plug}
use Rattle.node_tree.specs.Forest.{Forest}
use Rattle.node_tree.specs.Forest.Forest.{none, tree}
use Rattle.screen_form.specs.declared.paint_role.PaintRole.{PaintRole}
use Rattle.screen_form.specs.declared.paint_role.PaintRole.TheVariants.{Hides, Passes, Layers}
use Rattle.screen_form.specs.Hidden.{hides_below}
use Rattle.screen_form.specs.OwnRecords.{own_records}
use Rattle.screen_form.specs.PaintRole.{paint_role}
use Rattle.screen_form.specs.Painted.{has_child, point_in}
use Rattle.work_roles.specs.WorkRole.{is_repaint_boundary}
use Rattle.render_tree.specs.Object.{RenderObject, object_look}
use Rattle.render_tree.specs.Plain.{frame_or, offset_or, laids_of}
use Rattle.kept_layers.specs.GroupPart.{GroupPart, record_part, layer_part, place_part, parts_of}

-- the node is a RepaintBoundary
abbrev pub is_boundary : RenderObject → Bool
is_boundary o = is_repaint_boundary (object_look o)

-- what is below the node is seen where the node is
abbrev pub opens : RenderObject → Bool
opens o = not (hides_below (object_look o) (frame_or o.frame))

-- what is below the node is painted: it is in the window, and doesn't hide it
abbrev pub goes_in : RenderObject → Bool
goes_in o = o.shown && opens o

-- how painting goes on below the node at a point, with or without a child in the window
abbrev pub role_of : RenderObject → Bool → Offset → PaintRole
role_of o has p = paint_role (object_look o) (frame_or o.frame) has p

-- what a node at a point adds to its group itself: a boundary its place, any other what it draws
abbrev pub own_parts : Size → List Plug → Handle → RenderObject → Offset → List GroupPart
own_parts cell delegates h o p =
    if is_boundary o then place_part h p ∷ [] else map record_part (own_records cell delegates (object_look o) (frame_or o.frame) p)

-- how the group goes on below a node: a boundary's own group is another one
abbrev pub group_role : RenderObject → Bool → Offset → PaintRole
group_role o has p = if is_boundary o then Hides else role_of o has p

-- what comes of the parts below a node, which are painted from a point on
abbrev pub parts_below : PaintRole → Offset → (Offset → List GroupPart) → List GroupPart
parts_below Hides p paint = []
parts_below Passes p paint = paint p
parts_below (Layers kind) p paint = layer_part kind (parts_of (paint (point_in kind p))) ∷ []

-- the parts of the nodes of a group that stand in this forest: of those in the window alone, each at its offset from a point
abbrev pub group_parts : Size → List Plug → Forest RenderObject → Offset → List GroupPart
group_parts cell delegates none q = []
group_parts cell delegates (tree h o below rest) q =
    (if o.shown
    then own_parts cell delegates h o (offset_sum q (offset_or o.offset))
    ++ parts_below (group_role o (has_child (laids_of below)) (offset_sum q (offset_or o.offset))) (offset_sum q (offset_or o.offset)) (λ r. group_parts cell delegates below r)
    else [])
    ++ group_parts cell delegates rest q

-- how many nodes of a group are painted
abbrev pub group_count : Forest RenderObject → ℕ
group_count none = 0
group_count (tree h o below rest) =
    (if o.shown && not (is_boundary o) then suc (if opens o then group_count below else 0) else 0) + group_count rest

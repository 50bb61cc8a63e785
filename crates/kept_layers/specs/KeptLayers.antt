-- What is kept of the boundaries from one frame to the next, and when it is what a full painting would give.
use Rattle.std.specs.Prelude.{◌≡◌, true, false, Option, Some, None, List, [], map}
use Rattle.fx_handles.specs.declared.Handle.{Handle}
use Rattle.fx_geom.specs.declared.shapes.Size.{Size}
use Rattle.fx_geom.specs.Offset.{origin}
use Rattle.layer_tree.specs.LayerItem.{LayerItem}
use Rattle.delegates.specs.Table.{Plug}
use Rattle.node_tree.specs.Forest.{Forest}
use Rattle.node_tree.specs.Forest.Forest.{none, tree}
use Rattle.screen_form.specs.Painted.{painted_all}
use Rattle.render_tree.specs.Object.{RenderObject}
use Rattle.render_tree.specs.Plain.{laids_of}
use Rattle.kept_layers.specs.GroupPart.{GroupPart, fill}
use Rattle.kept_layers.specs.Group.{is_boundary, goes_in, group_parts}

-- by the handle of a boundary: the parts of its group, and the items of its layer, in which the nested layers stand
pub record KeptLayers : Type 0 where
  pub parts : Handle → Option (List GroupPart)
  pub wholes : Handle → Option (List LayerItem)

abbrev pub or_nil : {A : Type 0} → Option (List A) → List A
or_nil None = []
or_nil (Some xs) = xs

-- parts with the kept layers in their places
abbrev pub filled : (Handle → Option (List LayerItem)) → List GroupPart → List LayerItem
filled wholes ps = map (fill (λ k. or_nil (wholes k))) ps

module _ (cell : Size) (delegates : List Plug) where
  -- the boundary keeps the parts of its group as they are now, and its layer as these give it with the nested layers that are kept
  pub record KeepsGroup (s : KeptLayers) (h : Handle) (below : Forest RenderObject) : Type 0 where
    pub parts : s.parts h ≡ Some (group_parts cell delegates below origin)
    pub whole : s.wholes h ≡ Some (filled s.wholes (group_parts cell delegates below origin))

  -- every boundary that isn't flagged does, painted or not
  abbrev pub IsFresh : KeptLayers → Forest RenderObject → Type 0
  IsFresh s none = Unit {0}
  IsFresh s (tree h o below rest) =
      (is_boundary o ≡ true → o.needs_paint ≡ false → KeepsGroup s h below) × IsFresh s below × IsFresh s rest

  -- every boundary that is painted keeps exactly what a full painting gives below it
  abbrev pub IsRight : KeptLayers → Forest RenderObject → Type 0
  IsRight s none = Unit {0}
  IsRight s (tree h o below rest) =
      (goes_in o ≡ true
      → (is_boundary o ≡ true
      → (s.parts h ≡ Some (group_parts cell delegates below origin))
      × (s.wholes h ≡ Some (painted_all cell delegates (laids_of below) origin)))
      × IsRight s below)
      × IsRight s rest

-- no node of the forest is flagged
abbrev pub IsCalm : Forest RenderObject → Type 0
IsCalm none = Unit {0}
IsCalm (tree h o below rest) = (o.needs_paint ≡ false) × IsCalm below × IsCalm rest

-- where a node has no mark that something below it is flagged, nothing is
abbrev pub IsMarked : Forest RenderObject → Type 0
IsMarked none = Unit {0}
IsMarked (tree h o below rest) = (o.paint_below ≡ false → IsCalm below) × IsMarked below × IsMarked rest

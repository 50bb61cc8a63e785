-- When what is kept is what a paint flush was to leave.
use Rattle.std.specs.Prelude.{◌≡◌, true, false, Some, List}
use Rattle.fx_handles.specs.declared.Handle.{Handle}
use Rattle.fx_geom.specs.declared.shapes.Size.{Size}
use Rattle.fx_geom.specs.Offset.{origin}
use Rattle.delegates.specs.Table.{Plug}
use Rattle.node_tree.specs.Forest.{Forest, In}
use Rattle.node_tree.specs.Forest.Forest.{none, tree}
use Rattle.screen_form.specs.Painted.{painted_all}
use Rattle.render_tree.specs.Object.{RenderObject}
use Rattle.render_tree.specs.Plain.{laids_of}
use Rattle.kept_layers.specs.Group.{is_boundary, goes_in, group_parts}
use Rattle.kept_layers.specs.KeptLayers.{KeptLayers}
use Rattle.kept_layers.specs.Steps.{Told}

-- the same is kept for a handle
pub record AgreesAt (s t : KeptLayers) (h : Handle) : Type 0 where
  pub parts : s.parts h ≡ t.parts h
  pub whole : s.wholes h ≡ t.wholes h

-- and for each handle of a forest
abbrev pub Agrees : KeptLayers → KeptLayers → Forest RenderObject → Type 0
Agrees s t f = (k : Handle) → In k f → AgreesAt s t k

module _ (cell : Size) (delegates : List Plug) where
  -- what is told of each boundary is so in the tree
  abbrev pub IsTold : (Handle → Told) → Forest RenderObject → Type 0
  IsTold told none = Unit {0}
  IsTold told (tree h o below rest) =
      (is_boundary o ≡ true → told h ≡ record { flag = o.needs_paint; group = group_parts cell delegates below origin })
      × IsTold told below × IsTold told rest

  -- the boundary keeps exactly what a full painting gives below it
  pub record IsPainted (s : KeptLayers) (h : Handle) (below : Forest RenderObject) : Type 0 where
    pub parts : s.parts h ≡ Some (group_parts cell delegates below origin)
    pub whole : s.wholes h ≡ Some (painted_all cell delegates (laids_of below) origin)

  -- after a flush the painted boundaries keep what a full painting gives, and where nothing is painted the same is kept as before
  abbrev pub IsDone : KeptLayers → KeptLayers → Forest RenderObject → Type 0
  IsDone s t none = Unit {0}
  IsDone s t (tree h o below rest) =
      (goes_in o ≡ true → (is_boundary o ≡ true → IsPainted t h below) × IsDone s t below)
      × (goes_in o ≡ false → AgreesAt s t h × Agrees s t below)
      × IsDone s t rest

-- What is painted of a laid tree: the layers of a frame, in tree order.
use Rattle.std.specs.Prelude.{Bool, true, false, List, [], ◌∷◌, ◌++◌, map}
use Rattle.fx_geom.specs.declared.shapes.Offset.{Offset}
use Rattle.fx_geom.specs.declared.shapes.Size.{Size}
use Rattle.fx_geom.specs.Offset.{origin, offset_sum}
use Rattle.layer_tree.specs.declared.kind.LayerKind.{LayerKind}
use Rattle.layer_tree.specs.declared.kind.LayerKind.TheVariants as kind
use Rattle.layer_tree.specs.declared.layers.Layer.{Layer}
use Rattle.layer_tree.specs.LayerItem.{LayerItem, drawn, nested, items_of}
use Rattle.delegates.specs.Table.{Plug}
use Rattle.plain_tree.specs.Laid.{Laid, laid, Laids, no_laids, more_laids}
use Rattle.screen_form.specs.declared.paint_role.PaintRole.{PaintRole}
use Rattle.screen_form.specs.declared.paint_role.PaintRole.TheVariants.{Hides, Passes, Layers}
use Rattle.screen_form.specs.OwnRecords.{own_records}
use Rattle.screen_form.specs.PaintRole.{paint_role}

-- whether there is a child
abbrev pub has_child : Laids → Bool
has_child no_laids = false
has_child (more_laids at l ls) = true

-- where what stands in a layer begins: points in a layer that has a place of its own begin at (0,0), those in a clip go on
-- from the node's
abbrev pub point_in : LayerKind → Offset → Offset
point_in (kind.Offset at) p = origin
point_in (kind.Opacity at alpha) p = origin
point_in (kind.Clip rect) p = p

-- what comes of what is below a node, which is painted from a point on
abbrev pub passed_on : PaintRole → Offset → (Offset → List LayerItem) → List LayerItem
passed_on Hides p paint = []
passed_on Passes p paint = paint p
passed_on (Layers kind) p paint = nested kind (items_of (paint (point_in kind p))) ∷ []

-- a node at a point: what it draws of its own, and then what is below it, each child at its offset from its parent's point,
-- or from where a layer between them begins (PaintingContext.paintChild). A text cell has the size that is given, and the
-- delegates mean what is said
unfoldable mutual
  pub painted : Size → List Plug → Laid → Offset → List LayerItem
  painted cell delegates (laid number look facts children) p =
      map drawn (own_records cell delegates look facts.frame p)
      ++ passed_on (paint_role look facts.frame (has_child children) p) p (λ q. painted_all cell delegates children q)

  pub painted_all : Size → List Plug → Laids → Offset → List LayerItem
  painted_all cell delegates no_laids p = []
  painted_all cell delegates (more_laids at l ls) p = painted cell delegates l (offset_sum p at) ++ painted_all cell delegates ls p

-- the layer of a frame: the root is painted at (0,0), in a layer that stands there
abbrev pub layer_of : Size → List Plug → Laid → Layer
layer_of cell delegates root = record { kind = kind.Offset origin; items = painted cell delegates root origin }

-- What a contract sees of a `ScreenOwner`, and when what it keeps is right.
use Rattle.std.specs.Prelude.{Bool, Option, Some, List, refl}
use Rattle.std.specs.Coded.{Coded, code_by, coded×, coded_bool}
use Rattle.fx_geom.specs.declared.scales.Scale.{Scale}
use Rattle.fx_geom.specs.declared.shapes.Size.{Size}
use Rattle.fx_geom.specs.contracts.scales.Scale as scale_rows
use Rattle.delegates.specs.Table.{Plug}
use Rattle.layer_tree.specs.declared.layers.Layer.{Layer}
use Rattle.node_tree.specs.Tree.{Tree, tree_code}
use Rattle.plain_tree.specs.Laid.{Laid, laid}
use Rattle.layout_form.specs.Object.{setting_of}
use Rattle.render_tree.specs.Object.{RenderObject, object_code, size_in}
use Rattle.render_tree.specs.Plain.{root_tree}
use Rattle.render_readers.specs.Shown.{shown_laid}
use Rattle.kept_layouts.specs.Here.{KeepsLayouts}
use Rattle.paint_owner.specs.PaintOwner.{PaintOwner, paint_owner_code, IsKept}

-- the render nodes, the scale of their lengths, the layers that are kept, and whether it is spent: then it shows nothing any more
pub record KeptScreen : Type 0 where
  pub nodes : Tree RenderObject
  pub scale : Scale
  pub layers : PaintOwner
  pub spent : Bool

abbrev pub kept_screen_code : Coded KeptScreen
kept_screen_code =
    code_by
    (Tree RenderObject × (Scale × (PaintOwner × Bool)))
    (coded× (tree_code object_code) (coded× (scale_rows.the_row).coded (coded× paint_owner_code coded_bool)))
    (λ x. (x.nodes, (x.scale, (x.layers, x.spent))))
    (λ p. record { nodes = p.0; scale = p.1.0; layers = p.1.1.0; spent = p.1.1.1 })
    (λ _. refl)

-- the laid tree of the last frame, and its layer; before the first frame there is none
abbrev pub shown_in : KeptScreen → Option Laid
shown_in x = shown_laid x.nodes

abbrev pub layer_in : KeptScreen → Option Layer
layer_in x = x.layers.root

-- the size of a laid box
abbrev pub laid_size : Laid → Option Size
laid_size (laid number look facts children) = size_in (Some facts.frame)

-- the layouts and the layers that are kept are those of a full layout and a full painting, but for what is marked, where the delegates
-- mean this
pub record IsRight (delegates : List Plug) (x : KeptScreen) : Type 0 where
  pub layouts : KeepsLayouts (setting_of x.scale delegates) x.nodes
  pub layers : IsKept x.scale.cell delegates x.layers (root_tree x.nodes)

-- What a contract sees of a `PaintOwner`, and when what it keeps is what a full painting would give.
use Rattle.std.specs.Prelude.{◌≡◌, Bool, false, List, Option, Some, refl}
use Rattle.std.specs.Coded.{Coded, code_by, coded×, coded_bool, coded_option}
use Rattle.fx_geom.specs.declared.shapes.Size.{Size}
use Rattle.fx_geom.specs.Offset.{origin}
use Rattle.delegates.specs.Table.{Plug}
use Rattle.handle_shelf.specs.Shelf.{Shelf, shelf_code, kept_at}
use Rattle.layer_tree.specs.LayerItem.{LayerItem}
use Rattle.layer_tree.specs.LayerItemCode.{coded_items}
use Rattle.layer_tree.specs.declared.kind.LayerKind.TheVariants as kind
use Rattle.layer_tree.specs.declared.layers.Layer.{Layer}
use Rattle.layer_tree.specs.contracts.layers.Layer as layer_rows
use Rattle.node_tree.specs.Forest.{Forest}
use Rattle.node_tree.specs.Forest.Forest.{none, tree}
use Rattle.render_tree.specs.Object.{RenderObject}
use Rattle.kept_layers.specs.GroupPart.{GroupPart}
use Rattle.kept_layers.specs.KeptLayers.{KeptLayers, IsFresh, IsMarked, filled}
use Rattle.kept_layers.specs.Top.{root_parts}
use Rattle.paint_owner.specs.PartCode.{coded_parts}

-- what is kept of the root's own parts, if anything is; by handle what is kept of each boundary, its parts and the items of its
-- layer; the layer of the last frame, if there was one; and whether it is spent: then it takes no memory any more
pub record PaintOwner : Type 0 where
  pub top : Option (List GroupPart)
  pub parts : Shelf (List GroupPart)
  pub wholes : Shelf (List LayerItem)
  pub root : Option Layer
  pub spent : Bool

abbrev pub paint_owner_code : Coded PaintOwner
paint_owner_code =
    code_by
    (Option (List GroupPart) × (Shelf (List GroupPart) × (Shelf (List LayerItem) × (Option Layer × Bool))))
    (coded× (coded_option coded_parts) (coded× (shelf_code coded_parts) (coded× (shelf_code coded_items) (coded× (coded_option (layer_rows.the_row).coded) coded_bool))))
    (λ o. (o.top, (o.parts, (o.wholes, (o.root, o.spent)))))
    (λ p. record { top = p.0; parts = p.1.0; wholes = p.1.1.0; root = p.1.1.1.0; spent = p.1.1.1.1 })
    (λ _. refl)

-- what two shelves keep of the boundaries
abbrev pub kept_in : Shelf (List GroupPart) → Shelf (List LayerItem) → KeptLayers
kept_in parts wholes = record { parts = kept_at parts; wholes = kept_at wholes }

abbrev pub kept_of : PaintOwner → KeptLayers
kept_of o = kept_in o.parts o.wholes

-- the layer of a frame with these items
abbrev pub frame_layer : List LayerItem → Layer
frame_layer items = record { kind = kind.Offset origin; items = items }

module _ (cell : Size) (delegates : List Plug) where
  -- the root's own parts are kept as they are now, and the layer as these give it with the nested layers that are kept
  pub record KeepsRoot (o : PaintOwner) (f : Forest RenderObject) : Type 0 where
    pub top : o.top ≡ Some (root_parts cell delegates f)
    pub root : o.root ≡ Some (frame_layer (filled (kept_at o.wholes) (root_parts cell delegates f)))

  -- so it is where the root isn't flagged
  abbrev pub IsRootFresh : PaintOwner → Forest RenderObject → Type 0
  IsRootFresh o none = Unit {0}
  IsRootFresh o (tree h v below rest) = v.needs_paint ≡ false → KeepsRoot o (tree h v below rest)

  -- what is kept is what a full painting would give of the tree, but for what is flagged: each boundary without a flag, painted or
  -- not, keeps the parts of its group and its layer; so does the root; and nothing is flagged below a node without a mark
  pub record IsKept (o : PaintOwner) (f : Forest RenderObject) : Type 0 where
    pub boundaries : IsFresh cell delegates (kept_of o) f
    pub root : IsRootFresh o f
    pub marks : IsMarked f

-- What may change in a tree without a mark for painting: what painting doesn't read.
use Rattle.std.specs.Prelude.{◌≡◌, Bool, false, Option, Some, option_map, List}
use Rattle.fx_handles.specs.declared.Handle.{Handle}
use Rattle.fx_geom.specs.declared.shapes.Offset.{Offset}
use Rattle.fx_geom.specs.declared.shapes.Size.{Size}
use Rattle.delegates.specs.Table.{Plug}
use Rattle.node_tree.specs.Forest.{TreeNode, Forest, tops}
use Rattle.node_tree.specs.Forest.Forest.{none, tree}
use Rattle.plain_tree.specs.declared.laid.Frame.{Frame}
use Rattle.widget_model.specs.Look.{Look}
use Rattle.screen_form.specs.OwnRecords.{own_records}
use Rattle.render_tree.specs.Object.{RenderObject, object_look}
use Rattle.render_tree.specs.Plain.{frame_or, offset_or}
use Rattle.kept_layers.specs.Group.{is_boundary}

-- what the group in which a node stands reads of its place there: where it is, whether it is in the window, and whether it is a
-- boundary
pub record PlacedNode : Type 0 where
  pub offset : Offset
  pub shown : Bool
  pub apart : Bool

abbrev pub placed_of : RenderObject → PlacedNode
placed_of o = record { offset = offset_or o.offset; shown = o.shown; apart = is_boundary o }

-- what painting reads of the node itself: its kind with its members, and the frame of its last layout
pub record DrawnNode : Type 0 where
  pub look : Look
  pub frame : Frame

abbrev pub drawn_of : RenderObject → DrawnNode
drawn_of o = record { look = object_look o; frame = frame_or o.frame }

module _ (cell : Size) (before after : List Plug) where
  -- the node draws by the delegates that there are now what it drew by those of before
  abbrev pub DrawsSame : RenderObject → Type 0
  DrawsSame o = (p : Offset) → own_records cell after (object_look o) (frame_or o.frame) p ≡ own_records cell before (object_look o) (frame_or o.frame) p

  -- the node that is stored now at a handle is drawn as this one was: painting reads of it what it read of this one, which draws the
  -- same, and it has the same children
  pub record StaysDrawn (now : Handle → Option (TreeNode RenderObject)) (h : Handle) (o : RenderObject) (below : Forest RenderObject) : Type 0 where
    pub drawn : option_map (λ (n : TreeNode RenderObject). drawn_of n.value) (now h) ≡ Some (drawn_of o)
    pub draws : DrawsSame o
    pub children : option_map (λ (n : TreeNode RenderObject). n.children) (now h) ≡ Some (tops below)

  -- a group of the tree of before, against the nodes that are stored now: each node has the place in the group that it had, and each
  -- but a nested boundary stays drawn
  abbrev pub IsUnmarked : (Handle → Option (TreeNode RenderObject)) → Forest RenderObject → Type 0
  IsUnmarked now none = Unit {0}
  IsUnmarked now (tree h o below rest) =
      (option_map (λ (n : TreeNode RenderObject). placed_of n.value) (now h) ≡ Some (placed_of o))
      × (is_boundary o ≡ false → StaysDrawn now h o below × IsUnmarked now below)
      × IsUnmarked now rest

  -- the same of the root's tree, wherever the root is said to stand
  abbrev pub IsRootUnmarked : (Handle → Option (TreeNode RenderObject)) → Forest RenderObject → Type 0
  IsRootUnmarked now none = Unit {0}
  IsRootUnmarked now (tree h o below rest) =
      (option_map (λ (n : TreeNode RenderObject). is_boundary n.value) (now h) ≡ Some (is_boundary o))
      × (is_boundary o ≡ false → StaysDrawn now h o below × IsUnmarked now below)

-- A tree in which all is flagged that is painted otherwise, beside the nodes as they were stored before: of each node what was, by its
-- handle. The old tree is a store, the new one a forest.
use Rattle.std.specs.Prelude.{◌≡◌, Bool, true, false, ◌&&◌, if◌then◌else◌, Option, Some, None, option_map, List}
use Rattle.fx_handles.specs.declared.Handle.{Handle}
use Rattle.fx_geom.specs.declared.shapes.Size.{Size}
use Rattle.delegates.specs.Table.{Plug}
use Rattle.node_tree.specs.Forest.{TreeNode, Forest, In}
use Rattle.node_tree.specs.Forest.Forest.{none, tree}
use Rattle.node_tree.specs.Tree.{Tree, IsNode, node_at}
use Rattle.tree_marks.specs.Marks.{listed}
use Rattle.render_tree.specs.Object.{RenderObject}
use Rattle.render_tree.specs.Plain.{root_tree}
use Rattle.kept_layers.specs.Group.{is_boundary}
use Rattle.kept_layers.specs.KeptLayers.{IsMarked}
use Rattle.kept_layers.specs.Unmarked.{placed_of, drawn_of, DrawsSame, StaysDrawn}

-- whether the group is flagged in which the nodes below a node stand, where this is so of the group in which the node stands
abbrev pub group_flag : Bool → RenderObject → Bool
group_flag above o = if is_boundary o then o.needs_paint else above

module _ (cell : Size) (before after : List Plug) (was : Handle → Option (TreeNode RenderObject)) where
  -- a node has the place in its group that it had, unless the group is flagged. Unless that is flagged in which the nodes below it
  -- stand, it was drawn as it is, and where it isn't flagged, it wasn't
  abbrev pub IsRepainted : Bool → Forest RenderObject → Type 0
  IsRepainted above none = Unit {0}
  IsRepainted above (tree h o below rest) =
      (above ≡ false → option_map (λ (n : TreeNode RenderObject). placed_of n.value) (was h) ≡ Some (placed_of o))
      × (group_flag above o ≡ false → StaysDrawn cell after before was h o below)
      × (is_boundary o ≡ true → o.needs_paint ≡ false → option_map (λ (n : TreeNode RenderObject). n.value.needs_paint) (was h) ≡ Some false)
      × IsRepainted (group_flag above o) below
      × IsRepainted above rest

  -- the same of the root's tree: the root's group has the root's flag, and where it isn't flagged, it was the root
  abbrev pub IsRootRepainted : Option Handle → Forest RenderObject → Type 0
  IsRootRepainted root none = Unit {0}
  IsRootRepainted root (tree h o below rest) =
      (o.needs_paint ≡ false
      → (root ≡ Some h) × StaysDrawn cell after before was h o below
      × (option_map (λ (n : TreeNode RenderObject). n.value.needs_paint) (was h) ≡ Some false))
      × IsRepainted o.needs_paint below

module _ (cell : Size) (before after : List Plug) where
  -- a tree in which all is flagged that is painted otherwise than it was in another, with the delegates of then. No node has come
  -- into it that was beside the root's tree, and nothing is flagged below a node without a mark
  pub record FlagsChanges (old new : Tree RenderObject) : Type 0 where
    pub inside : (h : Handle) → In h (root_tree new) → IsNode old h → In h (root_tree old)
    pub groups : IsRootRepainted cell before after (node_at old) old.root (root_tree new)
    pub marks : IsMarked (root_tree new)

  -- ---- changes before their marks

  -- a node, as it was and as it is, where the nodes of a list are to be marked for painting, "also" with "something below": it has its
  -- flag and its mark. If it isn't listed, it is drawn as it was; if its parent isn't, it has the place that it had; and it has the
  -- same children, unless it is to be marked with "something below"
  pub record KeepsPaint (also : Bool) (hs : List Handle) (k : Handle) (was is : TreeNode RenderObject) : Type 0 where
    pub flag : is.value.needs_paint ≡ was.value.needs_paint
    pub mark : is.value.paint_below ≡ was.value.paint_below
    pub drawn : listed k hs ≡ false → drawn_of is.value ≡ drawn_of was.value
    pub draws : listed k hs ≡ false → DrawsSame cell before after is.value
    pub placed : (p : Handle) → is.parent ≡ Some p → listed p hs ≡ false → placed_of is.value ≡ placed_of was.value
    pub children : (also && listed k hs) ≡ false → is.children ≡ was.children

  -- a new one has both marks
  abbrev pub CarriesPaint : Bool → List Handle → Handle → Option (TreeNode RenderObject) → TreeNode RenderObject → Type 0
  CarriesPaint also hs k None is = (is.value.needs_paint ≡ true) × (is.value.paint_below ≡ true)
  CarriesPaint also hs k (Some was) is = KeepsPaint also hs k was is

  -- so it is of each node of a changed tree, before these nodes are marked. A new root is listed, and no node has come into the root's
  -- tree that was beside it
  pub record ListsChanges (also : Bool) (hs : List Handle) (old new : Tree RenderObject) : Type 0 where
    pub nodes : (k : Handle) (is : TreeNode RenderObject) → node_at new k ≡ Some is → CarriesPaint also hs k (node_at old k) is
    pub root : (r : Handle) → new.root ≡ Some r → listed r hs ≡ false → old.root ≡ Some r
    pub inside : (h : Handle) → In h (root_tree new) → IsNode old h → In h (root_tree old)

-- each node was there, with the parent that it has
abbrev pub KeepsParents : Tree RenderObject → Tree RenderObject → Type 0
KeepsParents old new =
    (k : Handle) (n : TreeNode RenderObject) → node_at new k ≡ Some n → option_map (λ (x : TreeNode RenderObject). x.parent) (node_at old k) ≡ Some n.parent

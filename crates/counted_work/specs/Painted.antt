-- Where the paint flags of a tree of render nodes are, against what asks to be painted of the same nodes as plain data.
use Rattle.std.specs.Prelude.{◌≡◌, Bool, true, false, List}
use Rattle.fx_handles.specs.declared.Handle.{Handle}
use Rattle.node_tree.specs.Forest.{Forest}
use Rattle.node_tree.specs.Forest.Forest.{none, tree}
use Rattle.tree_marks.specs.Marking.{Above}
use Rattle.tree_marks.specs.Marks.{listed}
use Rattle.work_roles.specs.Place.{RegionPlace, at_root, below}
use Rattle.work_sets.specs.Paint.{Asks, group_asks}
use Rattle.kept_layers.specs.Group.{is_boundary, opens}
use Rattle.render_tree.specs.Object.{RenderObject, object_look}
use Rattle.build_walk.specs.Changing.{render_over}

-- what a node has above it, as its marks for painting see it
abbrev pub paint_above : Bool → Above
paint_above top = record { top = top; hidden = false; asked = false }

module _ (asks : Asks) where
  -- the group of each painted boundary that is flagged asks to be painted
  abbrev pub FlagsAsked : RegionPlace → Forest RenderObject → Type 0
  FlagsAsked p none = Unit {0}
  FlagsAsked p (tree h o kids rest) =
      (o.shown ≡ true
      → (is_boundary o ≡ true → o.needs_paint ≡ true → group_asks asks p (render_over o kids) ≡ true)
      × (opens o ≡ true → FlagsAsked (below p (object_look o)) kids))
      × FlagsAsked p rest

  -- the same of a root's tree: the root is a boundary, whatever its kind, and counts as in the window
  abbrev pub RootFlagsAsked : Forest RenderObject → Type 0
  RootFlagsAsked none = Unit {0}
  RootFlagsAsked (tree h o kids rest) =
      (o.needs_paint ≡ true → group_asks asks at_root (render_over o kids) ≡ true) × (opens o ≡ true → FlagsAsked (below at_root (object_look o)) kids)

  -- each of these nodes asks to be painted
  abbrev pub AreAsking : List Handle → RegionPlace → Forest RenderObject → Type 0
  AreAsking hs p none = Unit {0}
  AreAsking hs p (tree h o kids rest) =
      (listed h hs ≡ true → asks p (render_over o kids) ≡ true) × AreAsking hs (below p (object_look o)) kids × AreAsking hs p rest

-- Where the layout flags of a tree of render nodes are, against a layout region of the same nodes as plain data.
use Rattle.std.specs.Prelude.{◌≡◌, Bool, true, List}
use Rattle.fx_handles.specs.declared.Handle.{Handle}
use Rattle.node_tree.specs.Forest.{Forest}
use Rattle.node_tree.specs.Forest.Forest.{none, tree}
use Rattle.build_walk.specs.Changing.{render_over}
use Rattle.tree_marks.specs.Marking.{Above, is_boundary}
use Rattle.tree_marks.specs.Marks.{listed}
use Rattle.work_roles.specs.Place.{RegionPlace, at_root, below}
use Rattle.work_sets.specs.Region.{Judge, is_reached, is_inside, reaches_out}
use Rattle.render_tree.specs.Marks.{layout_marks}
use Rattle.render_tree.specs.Object.{RenderObject, object_look}

-- what a node has above it, as its marks see it
abbrev pub marks_above : RegionPlace → Above
marks_above p = record { top = p.top; hidden = p.below_offstage; asked = p.below_intrinsic }

module _ (judge : Judge) where
  -- each node in the window that has to be laid out is in the region
  abbrev pub FlagsInside : Bool → RegionPlace → Forest RenderObject → Type 0
  FlagsInside above p none = Unit {0}
  FlagsInside above p (tree h o kids rest) =
      (o.shown ≡ true
      → (o.needs_layout ≡ true → is_inside judge above p (render_over o kids) ≡ true)
      × FlagsInside (is_inside judge above p (render_over o kids)) (below p (object_look o)) kids)
      × FlagsInside above p rest

  -- the same of a root's tree, of which the root counts as in the window
  abbrev pub RootFlagsInside : Forest RenderObject → Type 0
  RootFlagsInside none = Unit {0}
  RootFlagsInside (tree h o kids rest) =
      let inside = is_inside judge (reaches_out judge at_root (render_over o kids)) at_root (render_over o kids) in
      (o.needs_layout ≡ true → inside ≡ true) × FlagsInside inside (below at_root (object_look o)) kids

  -- each of these nodes is changed, or a changed node below it has no firm boundary at or above it up to there
  abbrev pub AreReached : List Handle → RegionPlace → Forest RenderObject → Type 0
  AreReached hs p none = Unit {0}
  AreReached hs p (tree h o kids rest) =
      (listed h hs ≡ true → is_reached judge p (render_over o kids) ≡ true) × AreReached hs (below p (object_look o)) kids × AreReached hs p rest

  -- where a firm boundary is, marks for layout end
  abbrev pub FirmEndsMarks : RegionPlace → Forest RenderObject → Type 0
  FirmEndsMarks p none = Unit {0}
  FirmEndsMarks p (tree h o kids rest) =
      (judge.is_firm p (render_over o kids) ≡ true → is_boundary layout_marks (marks_above p) o ≡ true)
      × FirmEndsMarks (below p (object_look o)) kids × FirmEndsMarks p rest

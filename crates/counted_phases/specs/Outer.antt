-- Outer nodes, which aren't below a lazy list: how many of them may be laid out between the two phases of a build, and where their flags
-- are, against the layout region of the render tree of the whole build.
use Rattle.std.specs.Prelude.{◌≡◌, ℕ, ◌+◌, Bool, true, false, if◌then◌else◌, List}
use Rattle.fx_handles.specs.declared.Handle.{Handle}
use Rattle.node_tree.specs.Forest.{Forest}
use Rattle.node_tree.specs.Forest.Forest.{none, tree}
use Rattle.plain_tree.specs.Render.{Render, Renders, no_renders, more_renders}
use Rattle.tree_marks.specs.Marking.{is_boundary}
use Rattle.tree_marks.specs.Marks.{listed, some_climbs}
use Rattle.layout_walk.specs.Node.{LayoutNode}
use Rattle.layout_walk.specs.Rules.{is_list}
use Rattle.render_tree.specs.Marks.{layout_marks}
use Rattle.render_tree.specs.Object.{RenderObject, object_look}
use Rattle.render_tree.specs.Plain.{lazy_children}
use Rattle.work_roles.specs.Place.{RegionPlace, at_root, below}
use Rattle.work_sets.specs.InTree.{number_of, look_of, told_of, widget_count_of, children_of}
use Rattle.work_sets.specs.Region.{Judge, is_reached, is_inside, reaches_out}
use Rattle.build_walk.specs.Changing.{render_over}
use Rattle.counted_work.specs.Inside.{marks_above}

-- ---- how many there are

abbrev pub outer_size : Forest LayoutNode → ℕ
outer_size none = 0
outer_size (tree h v kids rest) = 1 + (if is_list v.look then 0 else outer_size kids) + outer_size rest

-- those in the window that have to be laid out, each with the outer nodes below it
abbrev pub outer_due : Forest LayoutNode → ℕ
outer_due none = 0
outer_due (tree h v kids rest) =
    (if v.shown
    then (if v.needs_layout
    then 1 + (if is_list v.look then 0 else outer_size kids)
    else (if is_list v.look then 0 else outer_due kids))
    else 0)
    + outer_due rest

-- ---- beside the render nodes of the whole build

-- this, but not of what is below a lazy list
abbrev pub UnlessList : Bool → Type 0 → Type 0
UnlessList true below = Unit {0}
UnlessList false below = below

-- this of what is below a lazy list, else that
abbrev pub ListOr : Bool → Type 0 → Type 0 → Type 0
ListOr true items others = items
ListOr false items others = others

-- a node is this render node, but for what is below it
pub record IsOuter (o : RenderObject) (r : Render) : Type 0 where
  pub number : o.number ≡ number_of r
  pub look : object_look o ≡ look_of r
  pub told : o.parent_data ≡ told_of r
  pub count : lazy_children o ≡ widget_count_of r

-- each outer node of a forest is the one of these render nodes that stands there
abbrev pub AreOuter : Forest RenderObject → Renders → Type 0
AreOuter none no_renders = Unit {0}
AreOuter none (more_renders r rs) = ⊥
AreOuter (tree h o kids rest) no_renders = ⊥
AreOuter (tree h o kids rest) (more_renders r rs) = IsOuter o r × UnlessList (is_list (object_look o)) (AreOuter kids (children_of r)) × AreOuter rest rs

module _ (judge : Judge) where
  -- each outer node in the window that has to be laid out is in the region
  abbrev pub OuterFlagsInside : Bool → RegionPlace → Forest RenderObject → Renders → Type 0
  OuterFlagsInside above p none rs = Unit {0}
  OuterFlagsInside above p (tree h o kids rest) no_renders = ⊥
  OuterFlagsInside above p (tree h o kids rest) (more_renders r rs) =
      (o.shown ≡ true
      → (o.needs_layout ≡ true → is_inside judge above p r ≡ true)
      × UnlessList (is_list (object_look o)) (OuterFlagsInside (is_inside judge above p r) (below p (object_look o)) kids (children_of r)))
      × OuterFlagsInside above p rest rs

  -- the same of a root's tree, of which the root counts as in the window
  abbrev pub RootOuterInside : Forest RenderObject → Render → Type 0
  RootOuterInside none top = Unit {0}
  RootOuterInside (tree h o kids rest) top =
      let inside = is_inside judge (reaches_out judge at_root top) at_root top in
      (o.needs_layout ≡ true → inside ≡ true) × UnlessList (is_list (object_look o)) (OuterFlagsInside inside (below at_root (object_look o)) kids (children_of top))

  -- each of these nodes that is an outer one is in the region; and where a mark of one of them climbs out of the items of a list, the list is
  abbrev pub OuterListedInside : List Handle → Bool → RegionPlace → Forest RenderObject → Renders → Type 0
  OuterListedInside hs above p none rs = Unit {0}
  OuterListedInside hs above p (tree h o kids rest) no_renders = ⊥
  OuterListedInside hs above p (tree h o kids rest) (more_renders r rs) =
      (listed h hs ≡ true → is_inside judge above p r ≡ true)
      × ListOr (is_list (object_look o)) (some_climbs layout_marks hs (marks_above (below p (object_look o))) kids ≡ true → is_inside judge above p r ≡ true)
      (OuterListedInside hs (is_inside judge above p r) (below p (object_look o)) kids (children_of r))
      × OuterListedInside hs above p rest rs

  -- the same of what is changed, or a changed node below it has no firm boundary at or above it up to there
  abbrev pub AreOuterReached : List Handle → RegionPlace → Forest RenderObject → Renders → Type 0
  AreOuterReached hs p none rs = Unit {0}
  AreOuterReached hs p (tree h o kids rest) no_renders = ⊥
  AreOuterReached hs p (tree h o kids rest) (more_renders r rs) =
      (listed h hs ≡ true → is_reached judge p r ≡ true)
      × ListOr (is_list (object_look o)) (some_climbs layout_marks hs (marks_above (below p (object_look o))) kids ≡ true → is_reached judge p r ≡ true)
      (AreOuterReached hs (below p (object_look o)) kids (children_of r))
      × AreOuterReached hs p rest rs

  -- where an outer node is a firm boundary, marks for layout end, unless the node above is in the region
  abbrev pub OuterFirmEnds : Bool → RegionPlace → Forest RenderObject → Renders → Type 0
  OuterFirmEnds above p none rs = Unit {0}
  OuterFirmEnds above p (tree h o kids rest) no_renders = ⊥
  OuterFirmEnds above p (tree h o kids rest) (more_renders r rs) =
      (above ≡ false → judge.is_firm p r ≡ true → is_boundary layout_marks (marks_above p) o ≡ true)
      × UnlessList (is_list (object_look o)) (OuterFirmEnds (is_inside judge above p r) (below p (object_look o)) kids (children_of r)) × OuterFirmEnds above p rest rs

  -- ---- of all nodes

  -- each of these nodes is in the region
  abbrev pub ListedInside : List Handle → Bool → RegionPlace → Forest RenderObject → Type 0
  ListedInside hs above p none = Unit {0}
  ListedInside hs above p (tree h o kids rest) =
      (listed h hs ≡ true → is_inside judge above p (render_over o kids) ≡ true)
      × ListedInside hs (is_inside judge above p (render_over o kids)) (below p (object_look o)) kids × ListedInside hs above p rest

  -- where a firm boundary is, marks for layout end, unless the node above is in the region
  abbrev pub FirmEndsOutside : Bool → RegionPlace → Forest RenderObject → Type 0
  FirmEndsOutside above p none = Unit {0}
  FirmEndsOutside above p (tree h o kids rest) =
      (above ≡ false → judge.is_firm p (render_over o kids) ≡ true → is_boundary layout_marks (marks_above p) o ≡ true)
      × FirmEndsOutside (is_inside judge above p (render_over o kids)) (below p (object_look o)) kids × FirmEndsOutside above p rest

  -- whether a root's tree is in the region as a whole
  abbrev pub all_in_region : Forest RenderObject → Bool
  all_in_region none = false
  all_in_region (tree h o kids rest) = reaches_out judge at_root (render_over o kids)

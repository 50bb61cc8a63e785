-- What a layout reads of a node of the whole build, against the node of the last frame with its number.
use Rattle.std.specs.Prelude.{◌≡◌, Bool, true, ◌&&◌, Some, List}
use Rattle.fx_handles.specs.declared.Handle.{Handle}
use Rattle.node_tree.specs.Forest.{Forest}
use Rattle.node_tree.specs.Forest.Forest.{none, tree}
use Rattle.node_tree.specs.Tree.{Tree}
use Rattle.tree_marks.specs.Marks.{listed}
use Rattle.layout_walk.specs.Rules.{is_list}
use lib.Pointwise.{pointwise}
use Rattle.plain_tree.specs.Render.{Render, Renders, no_renders, more_renders}
use Rattle.work_roles.specs.ForLayout.{for_layout}
use Rattle.work_roles.specs.Place.{RegionPlace, below}
use Rattle.work_roles.specs.WorkRole.{is_offstage, is_viewport}
use Rattle.work_sets.specs.Before.{Before, bounds_in}
use Rattle.work_sets.specs.InTree.{Standing, standing, number_of, look_of, children_of, widget_count_of}
use Rattle.work_sets.specs.Layout.{is_child_same, list_below}
use Rattle.render_tree.specs.Marks.{has_say}
use Rattle.render_tree.specs.Object.{RenderObject, object_look}
use Rattle.build_walk.specs.Changing.{render_over}
use Rattle.counted_phases.specs.Left.{AreBereft, AreUnclaimed, AreLeftItems}
use Rattle.counted_phases.specs.Outer.{ListOr}

-- these render nodes stand at a place of the last frame's tree
abbrev pub StandBelow : Before → RegionPlace → Renders → Type 0
StandBelow before p no_renders = Unit {0}
StandBelow before p (more_renders r rs) = (standing before.tree (number_of r) ≡ Some (record { place = p; node = r })) × StandBelow before p rs

-- the sizes of these nodes follow from their bounds as before, where that has a say for a parent that is offstage, or isn't, in the bounds
-- of their last layouts
abbrev pub AreSizedSo : Before → Bool → Renders → Renders → Type 0
AreSizedSo before hidden no_renders rs = Unit {0}
AreSizedSo before hidden (more_renders w ws) no_renders = Unit {0}
AreSizedSo before hidden (more_renders w ws) (more_renders r rs) =
    let say = has_say hidden (bounds_in (before.frames (number_of r))) in
    ((say && is_viewport (look_of w)) ≡ (say && is_viewport (look_of r))) × ((say && is_offstage (look_of w)) ≡ (say && is_offstage (look_of r))) × AreSizedSo before hidden ws rs

-- a layout reads of a node and of its children what it read
pub record StaysAsRead (before : Before) (was r : Render) : Type 0 where
  pub look : for_layout (look_of was) ≡ for_layout (look_of r)
  pub count : widget_count_of was ≡ widget_count_of r
  pub lists : pointwise is_child_same (list_below (children_of was)) (list_below (children_of r)) ≡ true
  pub sized : AreSizedSo before (is_offstage (look_of was)) (children_of was) (children_of r)

-- a node differs from that of the last frame with its number; a root also where that was none
abbrev pub DiffersFromLast : Before → RegionPlace → Render → Type 0
DiffersFromLast before p r =
    (st : Standing) → standing before.tree (number_of r) ≡ Some st → (p.top ≡ true → st.place.top ≡ true) → StaysAsRead before st.node r → ⊥

-- each of these nodes does
abbrev pub AreDiffering : Before → List Handle → RegionPlace → Forest RenderObject → Type 0
AreDiffering before hs p none = Unit {0}
AreDiffering before hs p (tree h o kids rest) =
    (listed h hs ≡ true → DiffersFromLast before p (render_over o kids)) × AreDiffering before hs (below p (object_look o)) kids × AreDiffering before hs p rest

-- a list, if it was there, has the items that it had, without what is claimed, and those of them that are listed lost a child
abbrev pub IsBereft : Before → Tree RenderObject → (Handle → Bool) → List Handle → Forest RenderObject → Render → Type 0
IsBereft before old claimed hs kids r =
    (st : Standing) → standing before.tree (number_of r) ≡ Some st
    → (l : AreLeftItems before old claimed (number_of r) kids) × AreUnclaimed old claimed (children_of r) × AreBereft claimed hs l.items

-- each of these nodes that is an outer one differs; and so it is of the lists
abbrev pub AreOuterDiffering : Before → Tree RenderObject → (Handle → Bool) → List Handle → RegionPlace → Forest RenderObject → Renders → Type 0
AreOuterDiffering before old claimed hs p none rs = Unit {0}
AreOuterDiffering before old claimed hs p (tree h o kids rest) no_renders = ⊥
AreOuterDiffering before old claimed hs p (tree h o kids rest) (more_renders r rs) =
    (listed h hs ≡ true → DiffersFromLast before p r)
    × ListOr (is_list (object_look o)) (IsBereft before old claimed hs kids r) (AreOuterDiffering before old claimed hs (below p (object_look o)) kids (children_of r))
    × AreOuterDiffering before old claimed hs p rest rs

-- A Viewport with one lazy list between the phases, worked by hand.
use Rattle.std.specs.Prelude.{◌≡◌, ℕ, ◌==◌, Bool, true, false, Some, None, [], ◌∷◌, if◌then◌else◌}
use Rattle.fx_geom.specs.Bounds.{tight}
use Rattle.fx_geom.specs.Offset.{origin}
use Rattle.fx_geom.specs.declared.shapes.Axis.TheVariants.{Vertical}
use Rattle.fx_handles.specs.declared.Handle.{Handle}
use Rattle.fx_handles.specs.Handle.{same}
use Rattle.node_tree.specs.Forest.{Forest, pruned}
use Rattle.node_tree.specs.Forest.Forest.{none, tree}
use Rattle.widget_model.specs.Look.{Look, viewport, sliver_lazy}
use Rattle.plain_tree.specs.declared.laid.Frame.{Frame}
use Rattle.plain_tree.specs.declared.laid.Frame.TheVariants.{Boxed, Sliver}
use Rattle.plain_tree.specs.Laid.{Laid, laid, Laids, no_laids, more_laids}
use Rattle.plain_tree.specs.Render.{Render, render, Renders, no_renders, more_renders}
use Rattle.layout_form.specs.Object.{no_geometry, no_notes}
use Rattle.layout_form.specs.SliverRule.{unseen}
use Rattle.layout_rules.specs.Nodes.{layout_nodes}
use Rattle.tree_marks.specs.Marking.{at_top}
use Rattle.tree_marks.specs.Marks.{some_climbs, sweep}
use Rattle.render_tree.specs.Edits.{no_parent_data}
use Rattle.render_tree.specs.Marks.{layout_marks}
use Rattle.render_tree.specs.Object.{RenderObject}
use Rattle.work_sets.specs.Before.{Before, frames_after}
use Rattle.work_sets.specs.Layout.{frame_judge, layout_region}
use Rattle.counted_work.specs.Worked.{handle, object, inset, some_size, some_bounds}
use Rattle.counted_phases.specs.OuterLaid.{outer_laid}
use Rattle.counted_phases.specs.Outer.{outer_size, outer_due, AreOuter, RootOuterInside}
use Rattle.kept_phases.specs.Lists.{AreScrolledOtherwise}

abbrev pub list_look : Look
list_look = sliver_lazy 16

abbrev pub view_look : Look
view_look = viewport Vertical

-- ---- the render nodes of a build

abbrev pub node : ℕ → Look → Renders → Render
node number look below = render number look no_parent_data 0 0 below

abbrev pub alone : Render → Renders
alone r = more_renders r no_renders

-- the Viewport 1, its list 2, and these items
abbrev pub window : Renders → Render
window items = node 1 view_look (alone (node 2 list_look items))

-- an item 3 with these below it
abbrev pub item : Renders → Render
item below = node 3 inset below

abbrev pub part : Render
part = node 4 inset no_renders

abbrev pub other_item : Render
other_item = node 5 inset no_renders

-- the last frame had this tree; each box but the root might take another size
abbrev pub last : Render → Before
last root = record {
  tree = Some root;
  frames = λ n. Some (if n == 1 then Boxed (tight some_size) some_size else if n == 2 then Sliver (unseen Vertical 8) no_geometry else Boxed some_bounds some_size);
  same_view = true;
  touched = [];
}

-- ---- the render nodes between the phases

abbrev pub drawn : ℕ → Look → Bool → RenderObject
drawn number look flag = record (object number look flag true) { frame = (last (window no_renders)).frames number }

-- the Viewport and its list with these flags, and these items
abbrev pub between : Bool → Bool → Forest RenderObject → Forest RenderObject
between view list items = tree (handle 1) (drawn 1 view_look view) (tree (handle 2) (drawn 2 list_look list) items none) none

-- the item 3 above 4, as the last frame left them
abbrev pub items : Forest RenderObject
items = tree (handle 3) (drawn 3 inset false) (tree (handle 4) (drawn 4 inset false) none none) none

-- 4 is claimed by another part of the first phase's tree
abbrev pub takes_part : Handle → Bool
takes_part h = same h (handle 4)

-- ---- laid trees

abbrev pub laid_so : ℕ → Look → Frame → Laids → Laid
laid_so number look frame below = laid number look (record { frame = frame; notes = no_notes; plugged = false; scrolled = 0 }) below

-- the Viewport 1 and its list 2, each with what the last frame left of it, above these items
abbrev pub laid_window : Laids → Laid
laid_window items = laid_so 1 view_look (Boxed (tight some_size) some_size) (more_laids origin (laid_so 2 list_look (Sliver (unseen Vertical 8) no_geometry) items) no_laids)

abbrev pub laid_item : Laids
laid_item = more_laids origin (laid_so 3 inset (Boxed some_bounds some_size) no_laids) no_laids

pub record WorksOfPhases : Type 0 where
  -- what is below a list doesn't count, and is no matter of the whole build's tree
  pub size : outer_size (layout_nodes (between false false items)) ≡ 2
  pub due : outer_due (layout_nodes (between true true items)) ≡ 2
  pub due_list : outer_due (layout_nodes (between false true items)) ≡ 1
  pub outer : AreOuter (between false false items) (alone (window (alone other_item)))
  -- a list whose items stay: nothing is laid out, and a flag of the list would be out of the region
  pub stays : layout_region (last (window (alone (item (alone part))))) (window (alone (item (alone part)))) ≡ []
  pub stays_outside : RootOuterInside (frame_judge (last (window (alone (item (alone part)))))) (between false true items) (window (alone (item (alone part)))) → ⊥
  -- one that gets a new item: it and the Viewport above it are in the region, with all below them, whatever the list has between the phases
  pub grows : layout_region (last (window (alone (item (alone part))))) (window (more_renders (item (alone part)) (alone other_item))) ≡ 1 ∷ 2 ∷ 3 ∷ 4 ∷ 5 ∷ []
  pub grows_inside : RootOuterInside (frame_judge (last (window (alone (item (alone part)))))) (between true true items) (window (more_renders (item (alone part)) (alone other_item)))
  -- one of whose items another part of the tree claims a child: the item's mark climbs to the list and to the Viewport, where it ends, and the
  -- region has them, since the item has other children in the whole build
  pub left : pruned takes_part items ≡ tree (handle 3) (drawn 3 inset false) none none
  pub climbs : some_climbs layout_marks (handle 3 ∷ []) at_top (between false false (pruned takes_part items)) ≡ false
  pub flags : outer_due (layout_nodes (sweep layout_marks true (handle 3 ∷ []) at_top (between false false (pruned takes_part items)))) ≡ 2
  pub loses : layout_region (last (window (alone (item (alone part))))) (window (alone (item no_renders))) ≡ 1 ∷ 2 ∷ 3 ∷ []
  -- so it is where the item goes too
  pub goes : layout_region (last (window (alone (item (alone part))))) (window no_renders) ≡ 1 ∷ 2 ∷ []
  pub loses_inside : RootOuterInside (frame_judge (last (window (alone (item (alone part)))))) (sweep layout_marks true (handle 3 ∷ []) at_top (between false false (pruned takes_part items))) (window (alone (item no_renders)))
  -- a Viewport that a flush corrects stands scrolled otherwise, and nothing below its list does
  pub corrected : AreScrolledOtherwise (handle 1 ∷ []) (layout_nodes (between true false items)) (layout_nodes (tree (handle 1) (record (drawn 1 view_look false) { scroll = 7 }) (tree (handle 2) (drawn 2 list_look true) items none) none))
  -- of a laid tree the items of its list don't count, so the frames that their numbers had stay; those of the Viewport and the list count
  pub bare : outer_laid (laid_window laid_item) ≡ laid_window no_laids
  pub item_stays : frames_after (outer_laid (laid_window laid_item)) (λ n. None) 3 ≡ None
  pub list_counts : frames_after (outer_laid (laid_window laid_item)) (λ n. None) 2 ≡ Some (Sliver (unseen Vertical 8) no_geometry)
  pub item_counts : frames_after (laid_window laid_item) (λ n. None) 3 ≡ Some (Boxed some_bounds some_size)

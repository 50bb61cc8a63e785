-- A frame whose build goes in two phases, as far as its layouts go.
use Rattle.std.specs.Prelude.{◌≡◌, ℕ, ◌+◌, ◌≤◌, Bool, true, false, List}
use Rattle.fx_geom.specs.declared.shapes.Size.{Size}
use Rattle.fx_handles.specs.declared.Handle.{Handle}
use Rattle.node_tree.specs.Forest.{Forest}
use Rattle.node_tree.specs.Forest.Forest.{none, tree}
use Rattle.node_tree.specs.Tree.{Tree}
use Rattle.plain_tree.specs.Render.{Render, no_renders, more_renders}
use Rattle.tree_marks.specs.Marking.{at_top}
use Rattle.tree_marks.specs.Marks.{sweep}
use Rattle.work_roles.specs.Place.{at_root}
use Rattle.work_sets.specs.Before.{Before}
use Rattle.layout_form.specs.Object.{Setting}
use Rattle.layout_walk.specs.Flush.{ticks}
use Rattle.layout_walk.specs.Here.{HereAll}
use Rattle.layout_walk.specs.Rules.{parts_of}
use Rattle.layout_owner.specs.Roots.{rooted, view_asks, IsAskedAs}
use Rattle.layout_rules.specs.Nodes.{layout_nodes}
use Rattle.render_tree.specs.Marks.{layout_marks}
use Rattle.render_tree.specs.Object.{RenderObject}
use Rattle.build_walk.specs.Changing.{render_over}
use Rattle.screen_owner.specs.Standing.{StandsAlone}
use Rattle.counted_work.specs.Caused.{LayoutsAreCaused}
use Rattle.counted_work.specs.Windows.{WindowsStay}
use Rattle.counted_phases.specs.Outer.{AreOuter}
use Rattle.counted_phases.specs.Lists.{ListsLeft}
use Rattle.counted_phases.specs.Unreached.{AreDiffering, AreOuterDiffering}
use Rattle.layout_owner.specs.Undue.{RootUndue, RootAsked}
use Rattle.kept_phases.specs.Lists.{AreScrolledOtherwise, scrolled_as}
use Rattle.counted_phases.specs.Framed.{OuterHaveFrames, OuterAsBefore, AreKept, ItemsHaveFrames}

-- a root with what is below it
pub record Rooted : Type 0 where
  pub handle : Handle
  pub value : RenderObject
  pub kids : Forest RenderObject

abbrev pub forest_of : Rooted → Forest RenderObject
forest_of r = tree r.handle r.value r.kids none

abbrev pub render_of : Rooted → Render
render_of r = render_over r.value r.kids

-- with the marks of these nodes
abbrev pub marked_by : List Handle → Forest RenderObject → Forest RenderObject
marked_by hs f = sweep layout_marks true hs at_top f

-- The first phase is committed, and marks what it changes. An outer flush lays out its lists; the Viewports that it corrects are put back and
-- marked. Then the second phase, whose render nodes these are, is committed, and marks what it changes, and all is laid out. `old` are the
-- render nodes of the last frame.
pub record PhasedFrame (s : Setting) (view : Size) (before : Before) (old : Tree RenderObject) (whole : Rooted) (layouts_before layouts_after : ℕ) : Type 0 where
  -- flags of the last frame's tree have causes; Viewports stay Viewports
  pub alone : StandsAlone old
  pub caused : LayoutsAreCaused before old
  pub windows : WindowsStay before (render_of whole)
  -- the first phase's nodes: but for what is below lists they are the whole build's; each has the frame of its number's last layout, and is
  -- in the window, and has to be laid out, as before
  pub first : Rooted
  pub outer : AreOuter (forest_of first) (more_renders (render_of whole) no_renders)
  pub frames : OuterHaveFrames before.frames (forest_of first)
  pub as_before : OuterAsBefore old (forest_of first)
  -- which nodes it claims, and which it marks: those that differ, and items that lose a child
  pub claimed : Handle → Bool
  pub changed : List Handle
  pub differs : AreOuterDiffering before old claimed changed at_root (forest_of first) (more_renders (render_of whole) no_renders)
  pub here : HereAll (parts_of s) (layout_nodes (marked_by changed (forest_of first)))
  pub asked : before.same_view ≡ true → IsAskedAs view (marked_by changed (forest_of first))
  -- the outer flush
  pub laid : Rooted
  pub laid_outer : AreOuter (forest_of laid) (more_renders (render_of whole) no_renders)
  pub undue : RootUndue view (layout_nodes (marked_by changed (forest_of first))) (layout_nodes (forest_of laid))
  pub root_asked : RootAsked view (layout_nodes (forest_of laid))
  pub lists_after : ℕ
  pub lists : lists_after ≤ layouts_before + ticks (parts_of s) true (view_asks view) (rooted (marked_by changed (forest_of first)))
  -- the Viewports that it corrected
  pub corrected : List Handle
  pub otherwise : AreScrolledOtherwise corrected (layout_nodes (marked_by changed (forest_of first))) (layout_nodes (forest_of laid))
  pub scrolls : Handle → ℕ
  -- the second phase's nodes: outer ones as they are then, and items as they were left
  pub ranged : Tree RenderObject
  pub kept : AreKept (scrolled_as scrolls (marked_by corrected (forest_of laid))) (forest_of whole)
  pub left : ListsLeft old ranged claimed changed at_root (forest_of whole)
  pub item_frames : ItemsHaveFrames before.frames (forest_of whole)
  -- what it marks differs
  pub again : List Handle
  pub differs_again : AreDiffering before again at_root (forest_of whole)
  pub all : layouts_after ≤ lists_after + ticks (parts_of s) false (view_asks view) (rooted (marked_by again (forest_of whole)))

-- What is known of flags in both phases.
use Rattle.std.specs.Prelude.{◌≡◌, ℕ, ◌+◌, ◌≤◌, true, false, List}
use Rattle.fx_geom.specs.declared.shapes.Size.{Size}
use Rattle.fx_handles.specs.declared.Handle.{Handle}
use Rattle.plain_tree.specs.Render.{no_renders, more_renders}
use Rattle.work_roles.specs.Place.{at_root}
use Rattle.work_sets.specs.Before.{Before}
use Rattle.work_sets.specs.Layout.{frame_judge}
use Rattle.layout_form.specs.Object.{Setting}
use Rattle.layout_walk.specs.Flush.{ticks}
use Rattle.layout_walk.specs.Here.{HereAll}
use Rattle.layout_walk.specs.Rules.{parts_of}
use Rattle.layout_owner.specs.Roots.{rooted, view_asks, IsAskedAs}
use Rattle.layout_rules.specs.Nodes.{layout_nodes}
use Rattle.counted_work.specs.Inside.{AreReached}
use Rattle.counted_phases.specs.Framed.{OuterHaveFrames, AreKept, RootItemsInside, ItemsHaveFrames}
use Rattle.counted_phases.specs.Outer.{AreOuter, RootOuterInside, AreOuterReached}
use Rattle.counted_phases.specs.Phased.{Rooted, forest_of, render_of, marked_by}
use Rattle.layout_owner.specs.Undue.{RootUndue, RootAsked}
use Rattle.kept_phases.specs.Lists.{AreScrolledOtherwise, scrolled_as}

-- the flags of the first phase's nodes, and those that it marks; and the same of the second phase
pub record PhasedLayouts (s : Setting) (view : Size) (before : Before) (whole : Rooted) (layouts_before layouts_after : ℕ) : Type 0 where
  -- the first phase's nodes: but for what is below lists they are the whole build's; each has the frame of its number's last layout, and the
  -- flag that the last frame left or a line set
  pub first : Rooted
  pub outer : AreOuter (forest_of first) (more_renders (render_of whole) no_renders)
  pub frames : OuterHaveFrames before.frames (forest_of first)
  pub flags : RootOuterInside (frame_judge before) (forest_of first) (render_of whole)
  pub changed : List Handle
  pub reached : AreOuterReached (frame_judge before) changed at_root (forest_of first) (more_renders (render_of whole) no_renders)
  -- with their marks
  pub here : HereAll (parts_of s) (layout_nodes (marked_by changed (forest_of first)))
  pub asked : before.same_view ≡ true → IsAskedAs view (marked_by changed (forest_of first))
  -- the outer flush
  pub laid : Rooted
  pub laid_outer : AreOuter (forest_of laid) (more_renders (render_of whole) no_renders)
  pub undue : RootUndue view (layout_nodes (marked_by changed (forest_of first))) (layout_nodes (forest_of laid))
  pub root_asked : RootAsked view (layout_nodes (forest_of laid))
  pub lists_after : ℕ
  pub lists : lists_after ≤ layouts_before + ticks (parts_of s) true (view_asks view) (rooted (marked_by changed (forest_of first)))
  -- the Viewports that it corrected
  pub corrected : List Handle
  pub otherwise : AreScrolledOtherwise corrected (layout_nodes (marked_by changed (forest_of first))) (layout_nodes (forest_of laid))
  pub scrolls : Handle → ℕ
  -- the second phase's nodes
  pub kept : AreKept (scrolled_as scrolls (marked_by corrected (forest_of laid))) (forest_of whole)
  pub items : RootItemsInside (frame_judge before) (forest_of whole)
  pub item_frames : ItemsHaveFrames before.frames (forest_of whole)
  pub again : List Handle
  pub reached_again : AreReached (frame_judge before) again at_root (forest_of whole)
  pub all : layouts_after ≤ lists_after + ticks (parts_of s) false (view_asks view) (rooted (marked_by again (forest_of whole)))

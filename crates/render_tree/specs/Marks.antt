-- The marks of render nodes, for layout and for painting, and the parts of a node by which it is told what a change reaches.
use Rattle.std.specs.Prelude.{ℕ, Bool, true, false, not, ◌&&◌, ◌||◌, Option, Some, None}
use Rattle.fx_geom.specs.Bounds.{is_tight}
use Rattle.fx_geom.specs.declared.boxes.Bounds.{Bounds}
use Rattle.fx_geom.specs.declared.shapes.Offset.{Offset}
use Rattle.widget_model.specs.Look.{Look}
use Rattle.plain_tree.specs.declared.laid.Frame.{Frame}
use Rattle.plain_tree.specs.declared.laid.Notes.{Notes}
use Rattle.plain_tree.specs.declared.render.ParentData.{ParentData}
use Rattle.work_roles.specs.ForLayout.{for_layout}
use Rattle.work_roles.specs.WorkRole.{is_intrinsic, is_offstage, is_viewport, is_repaint_boundary}
use Rattle.work_roles.specs.Place.{ends_layout}
use Rattle.tree_marks.specs.Marking.{Marking}
use Rattle.tree_marks.specs.Commit.{Parts}
use Rattle.render_tree.specs.Object.{RenderObject, bounds_in, object_look}
use Rattle.render_tree.specs.Plain.{lazy_children}

-- whether the layout of a node tells nothing right above it, by the bounds of its last layout: a sliver, and a box that was
-- never laid out, always tell it
abbrev pub ends_in : Option Bounds → Bool → Bool → Look → Bool
ends_in None top below_offstage look = false
ends_in (Some bounds) top below_offstage look = ends_layout top below_offstage look bounds

-- a boundary of painting: nothing is above it, or it is a RepaintBoundary (RenderObject.isRepaintBoundary)
abbrev pub ends_painting : Bool → Look → Bool
ends_painting top look = top || is_repaint_boundary look

-- for a layout each node up to the nearest relayout boundary gets the flag, past all that stand below an intrinsic box
abbrev pub layout_marks : Marking RenderObject
layout_marks = record {
  flag = λ o. o.needs_layout;
  below = λ o. o.layout_below;
  marked = λ f b o. record o { needs_layout = o.needs_layout || f; layout_below = o.layout_below || b };
  ends = λ top hidden o. ends_in (bounds_in o.frame) top hidden (object_look o);
  hides = λ o. is_offstage (object_look o);
  asks = λ o. is_intrinsic (object_look o);
  takes = λ top o. true;
}

-- for painting the nearest boundary alone gets it: what is kept of a picture is kept a boundary
abbrev pub paint_marks : Marking RenderObject
paint_marks = record {
  flag = λ o. o.needs_paint;
  below = λ o. o.paint_below;
  marked = λ f b o. record o { needs_paint = o.needs_paint || f; paint_below = o.paint_below || b };
  ends = λ top hidden o. ends_painting top (object_look o);
  hides = λ o. false;
  asks = λ o. false;
  takes = λ top o. ends_painting top (object_look o);
}

-- what a layout reads of a node itself: its kind without the members that none reads, how far it is scrolled, and how many child
-- widgets a SliverLazy has
pub record LayoutOwn : Type 0 where
  pub look : Look
  pub scroll : ℕ
  pub count : ℕ

-- what a parent takes of a child beside its frame: what the widgets between them say, and how the child's size follows from its
-- bounds alone, which an Offstage may change; where that has no say, neither way
pub record LayoutTold : Type 0 where
  pub parent_data : ParentData
  pub is_viewport : Bool
  pub is_offstage : Bool

-- what the last layout left at a node
pub record LayoutStored : Type 0 where
  pub frame : Option Frame
  pub notes : Notes
  pub plugged : Bool
  pub scrolled : ℕ
  pub offset : Option Offset
  pub shown : Bool

abbrev pub layout_own : RenderObject → LayoutOwn
layout_own o = record { look = for_layout (object_look o); scroll = o.scroll; count = lazy_children o }

-- how a size follows from bounds has a say, but in tight ones, which leave one size, and for a parent that is offstage, to which it
-- makes no difference what its children come to
abbrev pub are_tight : Option Bounds → Bool
are_tight None = false
are_tight (Some bounds) = is_tight bounds

abbrev pub has_say : Bool → Option Bounds → Bool
has_say hidden bounds = not (hidden || are_tight bounds)

abbrev pub told_by : Bool → RenderObject → LayoutTold
told_by say o = record { parent_data = o.parent_data; is_viewport = say && is_viewport (object_look o); is_offstage = say && is_offstage (object_look o) }

-- by the bounds of the last layout, for a parent that is offstage or isn't
abbrev pub layout_told : Bool → RenderObject → LayoutTold
layout_told hidden o = told_by (has_say hidden (bounds_in o.frame)) o

abbrev pub layout_stored : RenderObject → LayoutStored
layout_stored o = record { frame = o.frame; notes = o.notes; plugged = o.plugged; scrolled = o.scrolled; offset = o.offset; shown = o.shown }

abbrev pub layout_parts : Parts RenderObject LayoutOwn LayoutTold LayoutStored
layout_parts = record { own = layout_own; told = layout_told; stored = layout_stored }

abbrev pub is_shown : RenderObject → Bool
is_shown o = o.shown

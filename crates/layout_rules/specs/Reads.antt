-- What is read of the children of a node, by their handles.
use Rattle.std.specs.Prelude.{ℕ, ◌+◌, Bool, true, false, ◌&&◌, ◌||◌, if◌then◌else◌, Option, Some, None, option_map, List, [], ◌∷◌, map}
use Rattle.fx_geom.specs.declared.shapes.Offset.{Offset}
use Rattle.fx_handles.specs.declared.Handle.{Handle}
use Rattle.node_tree.specs.Tree.{Tree}
use Rattle.widget_model.specs.Look.{Look, row, column, stack, viewport}
use Rattle.plain_tree.specs.declared.laid.Frame.{Frame}
use Rattle.plain_tree.specs.declared.laid.Notes.{Notes}
use Rattle.plain_tree.specs.declared.render.ParentData.{ParentData}
use Rattle.plain_tree.specs.Offsets.{rescrolled}
use Rattle.plain_tree.specs.Render.{Render}
use Rattle.plain_tree.specs.RenderRole.{render_role_of}
use Rattle.layout_form.specs.declared.asks.Ask.{Ask}
use Rattle.layout_form.specs.Layout.{object, is_plugged, delegate_of}
use Rattle.layout_form.specs.Object.{Setting, only_of}
use Rattle.kind_rules.specs.Asked.{liked_for, first_for, found_for, rest_for}
use Rattle.kind_rules.specs.Cursor.{look_of, count_in, children_of}
use Rattle.render_tree.specs.declared.layout_state.LayoutState.{LayoutState}
use Rattle.render_tree.specs.Edits.{no_notes, no_parent_data}
use Rattle.render_tree.specs.Object.{RenderObject}
use Rattle.render_tree.specs.LayoutState.{layout_state_of}
use Rattle.render_tree.specs.Tree.{object_at}
use Rattle.layout_walk.specs.Node.{frame_or, ask_in}
use Rattle.layout_walk.specs.Rule.{ask_of, later}

-- a handle that isn't live counts as a node that was never laid out
abbrev pub no_state : LayoutState
no_state = record {
  scroll = 0;
  frame = None;
  notes = no_notes;
  plugged = false;
  scrolled = 0;
  offset = None;
  shown = false;
  needs_layout = false;
  layout_below = false;
}

abbrev pub state_or : Option RenderObject → LayoutState
state_or None = no_state
state_or (Some o) = layout_state_of o

abbrev pub state_at : Tree RenderObject → Handle → LayoutState
state_at t h = state_or (object_at t h)

abbrev pub told_or : Option RenderObject → ParentData
told_or None = no_parent_data
told_or (Some o) = o.parent_data

abbrev pub told_at : Tree RenderObject → Handle → ParentData
told_at t h = told_or (object_at t h)

-- a state with this place, or out of the window
abbrev pub put_at : Option Offset → LayoutState → LayoutState
put_at None u = record u { shown = false }
put_at (Some at) u = record u { shown = true; offset = Some at }

-- a state with what a rule made, but for the mark of what is below
abbrev pub made_state : Setting → Look → Frame → Notes → ℕ → LayoutState → LayoutState
made_state s look frame notes scrolled u = record u {
  scroll = rescrolled (render_role_of look) (Some scrolled) u.scroll;
  frame = Some frame;
  notes = notes;
  plugged = is_plugged s.delegates (delegate_of look);
  scrolled = scrolled;
  needs_layout = false;
}

-- a state with its place, where it is asked
abbrev pub standing_as : Option Ask → Offset → LayoutState → LayoutState
standing_as None at u = record u { shown = false }
standing_as (Some ask) at u = record u { shown = true; offset = Some at }

-- how many places are taken then
abbrev pub past_in : Option Ask → ℕ → ℕ
past_in None j = j
past_in (Some ask) j = j + 1

-- the stored frames of those that are asked
abbrev pub frames_at : Tree RenderObject → List (Option Ask) → List Handle → List (Option Frame)
frames_at t asks [] = []
frames_at t asks (h ∷ hs) = option_map (λ ask. frame_or (state_at t h).frame) (ask_of asks) ∷ frames_at t (later asks) hs

-- one in the window is asked as it was, where it has a mark
abbrev pub kept_in : LayoutState → Option Ask
kept_in u = if u.shown && (u.needs_layout || u.layout_below) then option_map ask_in u.frame else None

abbrev pub kept_at : Tree RenderObject → List Handle → List (Option Ask)
kept_at t hs = map (λ h. kept_in (state_at t h)) hs

-- some of them has a mark
abbrev pub marks_at : Tree RenderObject → List Handle → Bool
marks_at t [] = false
marks_at t (h ∷ hs) = (state_at t h).needs_layout || ((state_at t h).layout_below || marks_at t hs)

-- whom a rule asks first and then, read off the arena
abbrev pub first_by : Setting → Render → Ask → List ParentData → List (Option Ask)
first_by s r ask ds = first_for s (look_of r) (count_in r) ask (liked_for (look_of r) ask (only_of (map (object s) (children_of r)))) ds

abbrev pub rest_by : Render → LayoutState → Ask → List ParentData → List (Option Frame) → List (Option Ask)
rest_by r u ask ds known = rest_for (look_of r) ask (found_for (look_of r) u.scroll ask known) ds known

-- the first answers tell these kinds something
abbrev pub finds_in : Look → Bool
finds_in (stack ax ay fit) = true
finds_in (viewport axis) = true
finds_in _ = false

-- and these ask others by them
abbrev pub asks_again : Look → Bool
asks_again (row main cross size) = true
asks_again (column main cross size) = true
asks_again (stack ax ay fit) = true
asks_again (viewport axis) = true
asks_again _ = false

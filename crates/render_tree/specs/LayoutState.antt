-- What a layout leaves at a node, as one.
use Rattle.std.specs.Prelude.{true, false, Option, Some, None}
use Rattle.fx_geom.specs.declared.shapes.Offset.{Offset}
use Rattle.render_tree.specs.declared.layout_state.LayoutState.{LayoutState}
use Rattle.render_tree.specs.Object.{RenderObject}

abbrev pub layout_state_of : RenderObject → LayoutState
layout_state_of o = record {
  scroll = o.scroll;
  frame = o.frame;
  notes = o.notes;
  plugged = o.plugged;
  scrolled = o.scrolled;
  offset = o.offset;
  shown = o.shown;
  needs_layout = o.needs_layout;
  layout_below = o.layout_below;
}

abbrev pub with_layout_state : LayoutState → RenderObject → RenderObject
with_layout_state u o = record o {
  scroll = u.scroll;
  frame = u.frame;
  notes = u.notes;
  plugged = u.plugged;
  scrolled = u.scrolled;
  offset = u.offset;
  shown = u.shown;
  needs_layout = u.needs_layout;
  layout_below = u.layout_below;
}

-- a node that stands at a place, if one is given, and else isn't in the window
abbrev pub with_standing : Option Offset → RenderObject → RenderObject
with_standing None o = record o { shown = false }
with_standing (Some at) o = record o { shown = true; offset = Some at }

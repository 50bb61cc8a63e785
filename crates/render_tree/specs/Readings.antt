-- What the readers of a single part answer: for a handle that isn't live nothing, 0 or false.
use Rattle.std.specs.Prelude.{ℕ, Bool, false, Option, Some, None, if◌then◌else◌}
use Rattle.sliver_layout.specs.declared.protocol.Window.{Window}
use Rattle.render_tree.specs.Object.{RenderObject, is_viewport, is_lazy}

-- how far a Viewport is scrolled
abbrev pub scroll_of : RenderObject → Option ℕ
scroll_of o = if is_viewport o then Some o.scroll else None

-- the live range of a SliverLazy
abbrev pub live_of : RenderObject → Option Window
live_of o = if is_lazy o then o.live else None

abbrev pub overflow_of : Option RenderObject → ℕ
overflow_of None = 0
overflow_of (Some o) = o.notes.overflow

abbrev pub unbounded_of : Option RenderObject → Bool
unbounded_of None = false
unbounded_of (Some o) = o.notes.unbounded

abbrev pub plugged_of : Option RenderObject → Bool
plugged_of None = false
plugged_of (Some o) = o.plugged

abbrev pub scrolled_of : Option RenderObject → ℕ
scrolled_of None = 0
scrolled_of (Some o) = o.scrolled

abbrev pub shown_of : Option RenderObject → Bool
shown_of None = false
shown_of (Some o) = o.shown

abbrev pub needs_layout_of : Option RenderObject → Bool
needs_layout_of None = false
needs_layout_of (Some o) = o.needs_layout

abbrev pub layout_below_of : Option RenderObject → Bool
layout_below_of None = false
layout_below_of (Some o) = o.layout_below

abbrev pub needs_paint_of : Option RenderObject → Bool
needs_paint_of None = false
needs_paint_of (Some o) = o.needs_paint

abbrev pub paint_below_of : Option RenderObject → Bool
paint_below_of None = false
paint_below_of (Some o) = o.paint_below

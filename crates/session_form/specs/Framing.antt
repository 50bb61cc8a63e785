-- The line `frame`.
use Rattle.std.specs.Prelude.{ℕ, ◌+◌, false, Some, None, List, [], ◌∷◌, ◌++◌, filter}
use Rattle.gesture_arena.specs.declared.gesture.ArenaEvent.{ArenaEvent}
use Rattle.gesture_arena.specs.declared.gesture.Member.{Member}
use Rattle.gesture_arena.specs.Pointers.{loses, members_of}
use Rattle.widget_model.specs.Look.{sized_box}
use Rattle.layout_form.specs.Layout.{lay_view}
use Rattle.layout_form.specs.Object.{setting_of}
use Rattle.plain_tree.specs.Laid.{Laid}
use Rattle.plain_tree.specs.Offsets.{corrected}
use Rattle.plain_tree.specs.PlainNode.{PlainNode}
use Rattle.plain_tree.specs.Projection.{render_of}
use Rattle.plain_tree.specs.Render.{Render, render, no_renders}
use Rattle.build_form.specs.Program.{blueprint_of}
use Rattle.build_form.specs.FullBuild.{Screen, Built, failed, built, full_build}
use Rattle.session_form.specs.EventText.{events_text}
use Rattle.session_form.specs.FrameText.{frame_text}
use Rattle.session_form.specs.Gestures.{events_given, given_moment}
use Rattle.session_form.specs.Handlers.{is_gone}
use Rattle.session_form.specs.Outcome.{Outcome, done, faulted}
use Rattle.session_form.specs.Program.{scale_of}
use Rattle.session_form.specs.State.{SessionState, Shown}

-- ---- the present configuration: program, tree, root widget, view and delegates

abbrev pub screen_of : SessionState → Screen
screen_of s = record { scale = scale_of s.program; delegates = s.delegates; view = s.view }

abbrev pub built_of : SessionState → Built
built_of s = full_build (blueprint_of s.program) (screen_of s) s.tree s.next s.root

-- ---- what is shown: the tree that was built, laid out in the view

-- the one render node of a tree; a tree that a build gives has one, and an empty box stands in for none
abbrev pub top_of : List Render → Render
top_of [] = render 0 (sized_box None None) (record { flex = 0; tight = false; placed = None; index = 0 }) 0 0 no_renders
top_of (r ∷ rs) = r

unfoldable pub laid_of : Screen → PlainNode → Laid
laid_of screen tree = lay_view (setting_of screen.scale screen.delegates) (top_of (render_of tree)) screen.view

abbrev pub shown_of : Screen → PlainNode → Shown
shown_of screen tree = record { laid = laid_of screen tree; delegates = screen.delegates }

-- ---- the state after the frame: the offsets of the tree are those that the layout corrected

abbrev pub framed : SessionState → PlainNode → ℕ → SessionState
framed s tree next = record s {
  tree = Some (corrected (laid_of (screen_of s) tree) tree);
  next = next;
  marks = [];
  touched = [];
  shown = Some (shown_of (screen_of s) tree);
  frames = s.frames + 1;
}

-- ---- what becomes of pointers: each that has a member that is gone gets one drop

abbrev pub gone_members : SessionState → List Member
gone_members s = filter (is_gone s.tree) (members_of s.pointers)

abbrev pub after_drops : SessionState → SessionState
after_drops s = given_moment (loses (gone_members s)) s

abbrev pub drop_events : SessionState → List ArenaEvent
drop_events s = events_given (loses (gone_members s)) s

-- ---- a fault gives its line; else the frame's text comes first, and then that of the drops

abbrev pub frame_by : Built → SessionState → Outcome
frame_by (failed fault) s = faulted fault
frame_by (built tree next) s =
    let now = framed s tree next in
    done (after_drops now)
    (frame_text now.frames (scale_of s.program).cell (shown_of (screen_of s) tree) ++ events_text (drop_events now))

abbrev pub frame_line : SessionState → Outcome
frame_line s = frame_by (built_of s) s

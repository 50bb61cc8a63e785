-- The handlers of detectors, and what they do.
use Rattle.std.specs.Prelude.{ℕ, ◌==◌, ℤ, pos, Bool, is_none, Option, Some, None, option_map, List, [], ◌∷◌, ◌++◌, if◌then◌else◌}
use Rattle.fx_expr.specs.declared.handlers.Handler.{Handler}
use Rattle.fx_expr.specs.Sets.{fields_after}
use Rattle.gesture_arena.specs.declared.gesture.Gesture.{Gesture}
use Rattle.gesture_arena.specs.declared.gesture.Gesture.TheVariants as gesture
use Rattle.gesture_arena.specs.declared.gesture.Member.{Member}
use Rattle.gesture_arena.specs.declared.gesture.ArenaEvent.{ArenaEvent}
use Rattle.gesture_arena.specs.declared.gesture.ArenaEvent.TheVariants as event
use Rattle.screen_form.specs.Members.{handler_in}
use Rattle.widget_model.specs.Plain.{look_of}
use Rattle.plain_tree.specs.At.{node_at, changed_at, having_fields}
use Rattle.plain_tree.specs.PlainNode.{PlainNode, widget_of, fields_of}
use Rattle.session_form.specs.State.{SessionState}

-- ---- the handlers of the last frame

-- the node of the last frame with a number; before the first frame there is none
abbrev pub node_in : Option PlainNode → ℕ → Option PlainNode
node_in None number = None
node_in (Some root) number = node_at number root

-- the handler that a node has for a gesture, if there is a node
abbrev pub handler_of_node : Option PlainNode → Gesture → Option Handler
handler_of_node None g = None
handler_of_node (Some n) g = handler_in (look_of (widget_of n)) g

-- the handler that the node with a number has for a gesture in the last frame: lines change neither widgets nor numbers
abbrev pub handler_at : Option PlainNode → ℕ → Gesture → Option Handler
handler_at tree number g = handler_of_node (node_in tree number) g

-- a member is gone where its detector is, or where this has no handler of its kind any more
abbrev pub is_gone : Option PlainNode → Member → Bool
is_gone tree m = is_none (handler_at tree m.node m.gesture)

-- ---- what a handler does

-- its sets, in order, each over the fields that the earlier ones left, at a node
abbrev pub set_by : Handler → ℤ → ℤ → PlainNode → PlainNode
set_by h dx dy n = having_fields (fields_after h.sets (fields_of n) dx dy) n

-- The owner's fields are set, and the owner is marked. Outside components a handler has owner 0: it sets and marks nothing.
abbrev pub handled : Handler → ℤ → ℤ → SessionState → SessionState
handled h dx dy s =
    if h.owner == 0 then s
    else record s { tree = option_map (changed_at (set_by h dx dy) h.owner) s.tree; marks = s.marks ++ h.owner ∷ [] }

-- where there is a handler
abbrev pub handled_by : Option Handler → ℤ → ℤ → SessionState → SessionState
handled_by None dx dy s = s
handled_by (Some h) dx dy s = handled h dx dy s

-- ---- what an event does: a tap, a long press and each update of a drag run the detector's handler of that kind

abbrev pub run_at : ℕ → Gesture → ℤ → ℤ → SessionState → SessionState
run_at node g dx dy s = handled_by (handler_at s.tree node g) dx dy s

abbrev pub after_event : ArenaEvent → SessionState → SessionState
after_event (event.Won pointer node g) s = s
after_event (event.Nobody pointer) s = s
after_event (event.Tap node) s = run_at node gesture.Tap (pos 0) (pos 0) s
after_event (event.Long node) s = run_at node gesture.Long (pos 0) (pos 0) s
after_event (event.Start node g) s = s
after_event (event.Update node g dx dy) s = run_at node g dx dy s
after_event (event.End node g) s = s

-- events, in order
abbrev pub after_events : List ArenaEvent → SessionState → SessionState
after_events [] s = s
after_events (e ∷ es) s = after_events es (after_event e s)

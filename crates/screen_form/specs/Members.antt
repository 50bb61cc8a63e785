-- Which gestures a point of a laid tree may begin: the members of a pointer's arena that goes down there.
use Rattle.std.specs.Prelude.{ℕ, Option, Some, None, List, [], ◌∷◌, ◌++◌}
use Rattle.fx_expr.specs.declared.handlers.Handler.{Handler}
use Rattle.fx_geom.specs.declared.shapes.Offset.{Offset}
use Rattle.gesture_arena.specs.declared.gesture.Gesture.{Gesture}
use Rattle.gesture_arena.specs.declared.gesture.Gesture.TheVariants as gesture
use Rattle.gesture_arena.specs.declared.gesture.Member.{Member}
use Rattle.widget_model.specs.Look.{Look, sized_box, constrained_box, padding, align, colored_box, text, row, column, wrap, table, stack, flexible, positioned, opacity, clip_rect, repaint_boundary, merge_semantics, intrinsic_width, intrinsic_height, offstage, ignore_pointer, absorb_pointer, detector, semantics, exclude_semantics, custom_paint, custom_layout, viewport, sliver_to_box, sliver_padding, sliver_fixed, sliver_lazy, keep, inherit, component}
use Rattle.plain_tree.specs.Laid.{Laid, laid}
use Rattle.screen_form.specs.Hits.{path_of}

-- of a Detector's handlers that of a gesture
abbrev pub handler_by : Option Handler → Option Handler → Option Handler → Option Handler → Option Handler → Gesture → Option Handler
handler_by tap long vertical horizontal pan gesture.Tap = tap
handler_by tap long vertical horizontal pan gesture.Long = long
handler_by tap long vertical horizontal pan gesture.Vertical = vertical
handler_by tap long vertical horizontal pan gesture.Horizontal = horizontal
handler_by tap long vertical horizontal pan gesture.Pan = pan

-- the handler that a node of each kind has for a gesture: only a Detector has any
abbrev pub handler_in : Look → Gesture → Option Handler
handler_in (sized_box width height) gesture = None
handler_in (constrained_box min_width max_width min_height max_height) gesture = None
handler_in (padding left top right bottom) gesture = None
handler_in (align ax ay) gesture = None
handler_in (colored_box color) gesture = None
handler_in (text words color) gesture = None
handler_in (row main cross size) gesture = None
handler_in (column main cross size) gesture = None
handler_in (wrap spacing run_spacing) gesture = None
handler_in (table widths) gesture = None
handler_in (stack ax ay fit) gesture = None
handler_in (flexible flex fit) gesture = None
handler_in (positioned left top right bottom width height) gesture = None
handler_in (opacity alpha) gesture = None
handler_in clip_rect gesture = None
handler_in repaint_boundary gesture = None
handler_in merge_semantics gesture = None
handler_in intrinsic_width gesture = None
handler_in intrinsic_height gesture = None
handler_in (offstage hidden) gesture = None
handler_in (ignore_pointer ignoring) gesture = None
handler_in (absorb_pointer absorbing) gesture = None
handler_in (detector behavior tap long vertical horizontal pan) gesture = handler_by tap long vertical horizontal pan gesture
handler_in (semantics label button container) gesture = None
handler_in (exclude_semantics excluding) gesture = None
handler_in (custom_paint delegate) gesture = None
handler_in (custom_layout delegate) gesture = None
handler_in (viewport axis) gesture = None
handler_in sliver_to_box gesture = None
handler_in (sliver_padding left top right bottom) gesture = None
handler_in (sliver_fixed extent) gesture = None
handler_in (sliver_lazy extent) gesture = None
handler_in (keep kept) gesture = None
handler_in (inherit name value) gesture = None
handler_in (component place props declaration) gesture = None

-- a member for a handler that is there
abbrev pub member_by : ℕ → Gesture → Option Handler → List Member
member_by number gesture None = []
member_by number gesture (Some handler) = record { node = number; gesture = gesture } ∷ []

-- the members that a node gives for these gestures, in order
abbrev pub members_for : ℕ → Look → List Gesture → List Member
members_for number look [] = []
members_for number look (g ∷ gs) = member_by number g (handler_in look g) ++ members_for number look gs

-- the order of gestures of one node
abbrev pub all_gestures : List Gesture
all_gestures = gesture.Tap ∷ gesture.Long ∷ gesture.Vertical ∷ gesture.Horizontal ∷ gesture.Pan ∷ []

abbrev pub own_members : Laid → List Member
own_members (laid number look facts children) = members_for number look all_gestures

-- the members of nodes, one node after another
abbrev pub members_in : List Laid → List Member
members_in [] = []
members_in (l ∷ ls) = own_members l ++ members_in ls

-- the members at a point: those of the hit path, deepest first
abbrev pub members_of : Laid → Offset → List Member
members_of root p = members_in (path_of root p)

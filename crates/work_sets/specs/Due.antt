-- Which components a frame builds at most: the due ones.
use Rattle.std.specs.Prelude.{ℕ, ◌==◌, Bool, true, false, not, ◌||◌, Option, Some, None, List, [], find}
use Rattle.std.specs.List.{list_any}
use lib.Pointwise.{pointwise}
use Rattle.fx_expr.specs.declared.values.Value.{Value}
use Rattle.fx_expr.specs.Scope.{value_at}
use Rattle.fx_expr.specs.Value.{value_eq}
use Rattle.widget_model.specs.Look.{Look, sized_box, constrained_box, padding, align, colored_box, text, row, column, wrap, table, stack, flexible, positioned, opacity, clip_rect, repaint_boundary, merge_semantics, intrinsic_width, intrinsic_height, offstage, ignore_pointer, absorb_pointer, detector, semantics, exclude_semantics, custom_paint, custom_layout, viewport, sliver_to_box, sliver_padding, sliver_fixed, sliver_lazy, keep, inherit, component}
use Rattle.widget_model.specs.Plain.{look_of}
use Rattle.plain_tree.specs.PlainNode.{PlainNode}
use Rattle.work_sets.specs.Members.{is_same_widget}
use Rattle.work_sets.specs.Entered.{Entered, entered_of}

-- the inherited names in the body of a component; no other kind has a body
abbrev pub names_read : Look → Option (List ℕ)
names_read (sized_box width height) = None
names_read (constrained_box min_width max_width min_height max_height) = None
names_read (padding left top right bottom) = None
names_read (align ax ay) = None
names_read (colored_box color) = None
names_read (text words color) = None
names_read (row main cross size) = None
names_read (column main cross size) = None
names_read (wrap spacing run_spacing) = None
names_read (table widths) = None
names_read (stack ax ay fit) = None
names_read (flexible flex fit) = None
names_read (positioned left top right bottom width height) = None
names_read (opacity alpha) = None
names_read clip_rect = None
names_read repaint_boundary = None
names_read merge_semantics = None
names_read intrinsic_width = None
names_read intrinsic_height = None
names_read (offstage hidden) = None
names_read (ignore_pointer ignoring) = None
names_read (absorb_pointer absorbing) = None
names_read (detector how tap long vertical horizontal pan) = None
names_read (semantics label button container) = None
names_read (exclude_semantics excluding) = None
names_read (custom_paint delegate) = None
names_read (custom_layout delegate) = None
names_read (viewport axis) = None
names_read sliver_to_box = None
names_read (sliver_padding left top right bottom) = None
names_read (sliver_fixed extent) = None
names_read (sliver_lazy extent) = None
names_read (keep kept) = None
names_read (inherit name value) = None
names_read (component place props declaration) = Some declaration.inherited

-- where the node with a number stood in the last frame's tree, or none
abbrev pub was_entered : List Value → Option PlainNode → ℕ → Option Entered
was_entered defaults None number = None
was_entered defaults (Some old) number = find (λ e. e.number == number) (entered_of [] defaults old)

-- an inherited name has another value than it had
abbrev pub has_other_value : Entered → Entered → ℕ → Bool
has_other_value was now name = not (value_eq (value_at was.values name) (value_at now.values name))

-- a node, or one above it, has another parent than it had: the way up from it is another one
abbrev pub stands_elsewhere : Entered → Entered → Bool
stands_elsewhere was now = not (pointwise ◌==◌ was.above now.above)

-- a component reads inherited names that have other values, or stands elsewhere and reads some
abbrev pub reads_anew : List ℕ → Entered → Entered → Bool
reads_anew names was now = list_any (λ name. has_other_value was now name || stands_elsewhere was now) names

-- a component that was there: it is marked, or its widget is another one, or it reads anew
abbrev pub is_due_since : Option Entered → List ℕ → List ℕ → Entered → Bool
is_due_since None names marks e = true
is_due_since (Some was) names marks e =
    list_any (λ number. number == e.number) marks || (not (is_same_widget was.widget e.widget) || reads_anew names was e)

abbrev pub is_due_reader : Option (List ℕ) → Option Entered → List ℕ → Entered → Bool
is_due_reader None was marks e = false
is_due_reader (Some names) was marks e = is_due_since was names marks e

-- a component is due where it is new, marked, has another widget, or reads anew
abbrev pub is_due : List Value → Option PlainNode → List ℕ → Entered → Bool
is_due defaults old marks e = is_due_reader (names_read (look_of e.widget)) (was_entered defaults old e.number) marks e

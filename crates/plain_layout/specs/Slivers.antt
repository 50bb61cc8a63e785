-- How the slivers of a Viewport are measured and laid out: the boxes in them are laid out first, and kept.
use Rattle.std.specs.Prelude.{◌≡◌, ℕ, ◌^◌, ◌≤◌, Bool, true, false, is_some, if◌then◌else◌, Option, Some, None, option_map, List, [], ◌∷◌}
use Rattle.fx_geom.specs.declared.boxes.Bounds.{Bounds}
use Rattle.fx_geom.specs.declared.shapes.Axis.{Axis}
use Rattle.fx_geom.specs.Insets.{extent_of, other_of}
use Rattle.widget_model.specs.Look.{Look, viewport, sliver_to_box, sliver_padding}
use Rattle.plain_tree.specs.declared.laid.Frame.{Frame}
use Rattle.plain_tree.specs.declared.laid.Frame.TheVariants.{Sliver}
use Rattle.plain_tree.specs.Render.{Render}
use Rattle.plain_tree.specs.Laid.{Laid}
use Rattle.layout_form.specs.declared.asks.Ask.{Ask}
use Rattle.layout_form.specs.declared.asks.Ask.TheVariants.{AsBox, AsSliver}
use Rattle.layout_form.specs.Object.{Setting}
use Rattle.layout_form.specs.SliverRule.{view_size, unseen}
use Rattle.layout_form.specs.Layout.{object}
use Rattle.layout_form.specs.Protocol.{answered}
use Rattle.layout_form.specs.Frames.{frames_in}
use Rattle.kind_rules.specs.Below.{box_below, laid_below, extent_below, scroll_by}
use Rattle.plain_layout.specs.Computed.{blank}

-- the axis of a Viewport that is asked as a box, and its bounds; nothing of all others
abbrev pub viewed : Look → Ask → Option (Axis × Bounds)
viewed (viewport axis) (AsBox b) = Some (axis, b)
viewed look ask = None

-- a sliver as it is measured: how far it can be scrolled through, where nothing is seen of it
abbrev pub measured_by : Axis → ℕ → ℕ → Frame
measured_by axis cross scroll = Sliver (unseen axis cross) (record { scroll = scroll; paint = 0 })

-- those of a list, by the boxes in them
abbrev pub measured_with : Axis → ℕ → List Render → List (Option Laid) → List (Option Frame)
measured_with axis cross [] boxes = []
measured_with axis cross (r ∷ rs) [] = []
measured_with axis cross (r ∷ rs) (l ∷ boxes) = Some (measured_by axis cross (scroll_by axis (extent_below axis l) r)) ∷ measured_with axis cross rs boxes

-- the axis and the cross extent of the slivers of a Viewport
abbrev pub across : Option (Axis × Bounds) → Option (Axis × ℕ)
across None = None
across (Some view) = Some (view.0, extent_of (view_size view.1) (other_of view.0))

-- a node may be asked so, where this is kept of it: a box that was laid out in these bounds, or the box at the end of a sliver
abbrev pub IsReady : Setting → Ask → Option Laid → Render → Type 0
IsReady s (AsBox b) None r = Unit {0}
IsReady s (AsBox b) (Some l) r = l ≡ (object s r).in_bounds b
IsReady s (AsSliver b) None r = b.offset ≤ 2 ^ 40
IsReady s (AsSliver b) (Some l) r = (b.offset ≤ 2 ^ 40) × (Some l ≡ laid_below s b.axis b.cross r)

abbrev pub is_answered : Ask → Option Laid → Bool
is_answered (AsBox b) slot = is_some slot
is_answered (AsSliver b) slot = false

-- what is kept of the children: of the only child of a SliverToBox or a SliverPadding what is kept of the sliver
abbrev pub keeps_box : Look → Ask → Bool
keeps_box sliver_to_box (AsSliver b) = true
keeps_box (sliver_padding left top right bottom) (AsSliver b) = true
keeps_box look ask = false

abbrev pub kept_slots : Look → Ask → Option Laid → List Render → List (Option Laid)
kept_slots look ask kept [] = []
kept_slots look ask kept (r ∷ rs) = (if keeps_box look ask then kept else None) ∷ blank rs

-- who is laid out for a child that is asked so: the child, and below a Viewport the box at its end
abbrev pub target_of : Option (Axis × ℕ) → Option Ask → Render → Option (Render × Ask)
target_of None ask r = option_map (λ a. (r, a)) ask
target_of (Some view) ask r = option_map (λ below. (below.box, AsBox below.bounds)) (box_below view.0 view.1 r)

-- what is there then: its answer, or what was there
abbrev pub next_slot : Setting → Option (Axis × ℕ) → Option Ask → Option Laid → Render → Option Laid
next_slot s None ask slot r = answered ask slot (object s r)
next_slot s (Some view) ask slot r = laid_below s view.0 view.1 r

abbrev pub next_slots : Setting → Option (Axis × ℕ) → List (Option Ask) → List (Option Laid) → List Render → List (Option Laid)
next_slots s view asks [] rs = []
next_slots s view asks (slot ∷ slots) [] = []
next_slots s view [] (slot ∷ slots) (r ∷ rs) = next_slot s view None slot r ∷ next_slots s view [] slots rs
next_slots s view (ask ∷ asks) (slot ∷ slots) (r ∷ rs) = next_slot s view ask slot r ∷ next_slots s view asks slots rs

-- and it may be laid out
abbrev pub IsTask : Setting → Option (Axis × ℕ) → Option Ask → Option Laid → Render → Type 0
IsTask s None None slot r = Unit {0}
IsTask s None (Some ask) slot r = IsReady s ask slot r
IsTask s (Some view) ask slot r = slot ≡ None

abbrev pub AllTasks : Setting → Option (Axis × ℕ) → List (Option Ask) → List (Option Laid) → List Render → Type 0
AllTasks s view asks [] rs = Unit {0}
AllTasks s view asks (slot ∷ slots) [] = Unit {0}
AllTasks s view [] (slot ∷ slots) (r ∷ rs) = IsTask s view None slot r × AllTasks s view [] slots rs
AllTasks s view (ask ∷ asks) (slot ∷ slots) (r ∷ rs) = IsTask s view ask slot r × AllTasks s view asks slots rs

-- the first frames: those of the answers, and below a Viewport the slivers as they are measured
abbrev pub first_frames : Option (Axis × ℕ) → List Render → List (Option Laid) → List (Option Frame)
first_frames None rs slots = frames_in slots
first_frames (Some view) rs slots = measured_with view.0 view.1 rs slots

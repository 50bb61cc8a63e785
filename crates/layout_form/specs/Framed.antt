-- Layout by children that answer with their frames: the asks of both rounds, and what is made of the answers.
use Rattle.std.specs.Prelude.{ℕ, ◌+◌, ◌^◌, ◌≤◌, Bool, false, if◌then◌else◌, Option, Some, None, option_map, List, [], ◌∷◌}
use Rattle.fx_geom.specs.declared.boxes.Bounds.{Bounds}
use Rattle.fx_geom.specs.declared.shapes.Size.{Size}
use Rattle.fx_geom.specs.Bounds.{IsWithin, smallest, is_tight}
use Rattle.sliver_layout.specs.declared.protocol.SliverBounds.{SliverBounds}
use Rattle.widget_model.specs.Look.{Look, sized_box, constrained_box, padding, align, colored_box, text, row, column, wrap, table, stack, flexible, positioned, opacity, clip_rect, repaint_boundary, merge_semantics, intrinsic_width, intrinsic_height, offstage, ignore_pointer, absorb_pointer, detector, semantics, exclude_semantics, custom_paint, custom_layout, viewport, sliver_to_box, sliver_padding, sliver_fixed, sliver_lazy, keep, inherit, component}
use Rattle.plain_tree.specs.declared.laid.Frame.{Frame}
use Rattle.plain_tree.specs.declared.render.ParentData.{ParentData}
use Rattle.plain_tree.specs.Laid.{Laid}
use Rattle.plain_tree.specs.Shown.{box_size}
use Rattle.layout_form.specs.declared.asks.Ask.{Ask}
use Rattle.layout_form.specs.declared.asks.Ask.TheVariants.{AsBox, AsSliver}
use Rattle.layout_form.specs.Object.{Setting, Object}
use Rattle.layout_form.specs.SliverRule.{view_size}
use Rattle.layout_form.specs.Protocol.{answer, round, nothing, present, Found, box_first}
use Rattle.layout_form.specs.Frames.{frame_in, frames_given, Makes, Passes, box_makes, sliver_makes, found_makes, rest_makes, sliver_asks}

-- how a child answers, as far as a rule sees it
abbrev pub framed : Object → Ask → Frame
framed c ask = frame_in (answer c ask)

-- the frames of children that are asked so; past the end of the list nobody is asked
abbrev pub answers_of : List (Option Ask) → List (Ask → Frame) → List (Option Frame)
answers_of asks [] = []
answers_of [] (g ∷ gs) = None ∷ answers_of [] gs
answers_of (ask ∷ asks) (g ∷ gs) = option_map g ask ∷ answers_of asks gs

-- the laid children that are asked so
abbrev pub laid_for : List (Option Ask) → List Object → List Laid
laid_for asks cs = present (round asks (nothing cs) cs)

-- the asks of two rounds: of a child that is asked in both the second one counts
abbrev pub last_ask : Option Ask → Option Ask → Option Ask
last_ask before None = before
last_ask before (Some ask) = Some ask

abbrev pub last_asks : List (Option Ask) → List (Option Ask) → List (Option Ask)
last_asks [] rest = rest
last_asks (before ∷ first) [] = before ∷ first
last_asks (before ∷ first) (ask ∷ rest) = last_ask before ask ∷ last_asks first rest

-- what the first answers of the children of a box tell
abbrev pub box_known : Setting → Look → Bounds → ℕ → List ParentData → List (Ask → Frame) → List (Option Frame)
box_known s look b liked ds gs = answers_of (box_first s look b liked ds) gs

abbrev pub box_found : Setting → Look → ℕ → Bounds → ℕ → List ParentData → List (Ask → Frame) → Found
box_found s look scroll b liked ds gs = found_makes look scroll b (box_known s look b liked ds gs)

-- how the children of a box are asked in the end, by what they were told, what the child would like, and how they answer
abbrev pub box_asks : Setting → Look → ℕ → Bounds → ℕ → List ParentData → List (Ask → Frame) → List (Option Ask)
box_asks s look scroll b liked ds gs =
    last_asks (box_first s look b liked ds) (rest_makes look b (box_found s look scroll b liked ds gs) ds (box_known s look b liked ds gs))

-- what a box makes of the answers
abbrev pub box_given : Setting → Look → ℕ → Bounds → ℕ → List ParentData → List (Ask → Frame) → Makes
box_given s look scroll b liked ds gs =
    box_makes s look b (box_found s look scroll b liked ds gs) ds (frames_given (answers_of (box_asks s look scroll b liked ds gs) gs))

-- what a sliver makes of the answers
abbrev pub sliver_given : Look → ℕ → SliverBounds → List ParentData → List (Ask → Frame) → Passes
sliver_given look count b ds gs = sliver_makes look count b ds (answers_of (sliver_asks look count b ds) gs)

-- children that are asked so take, as boxes, what their bounds allow
abbrev pub IsWithinAsk : Option Ask → (Ask → Frame) → Type 0
IsWithinAsk None g = Unit {0}
IsWithinAsk (Some (AsBox b)) g = IsWithin b (box_size (g (AsBox b)))
IsWithinAsk (Some (AsSliver b)) g = Unit {0}

abbrev pub AllWithinAsks : List (Option Ask) → List (Ask → Frame) → Type 0
AllWithinAsks [] gs = Unit {0}
AllWithinAsks (ask ∷ asks) [] = Unit {0}
AllWithinAsks (ask ∷ asks) (g ∷ gs) = IsWithinAsk ask g × AllWithinAsks asks gs

-- the size that the bounds alone give: the only one where they are tight
abbrev pub tight_size : Bounds → Option Size
tight_size b = if is_tight b then Some (smallest b) else None

-- that of a box of each kind: a Viewport's size and that of an Offstage that is offstage never depend on children
abbrev pub fixed_size : Look → Bounds → Option Size
fixed_size (sized_box width height) b = tight_size b
fixed_size (constrained_box min_width max_width min_height max_height) b = tight_size b
fixed_size (padding left top right bottom) b = tight_size b
fixed_size (align ax ay) b = tight_size b
fixed_size (colored_box color) b = tight_size b
fixed_size (text words color) b = tight_size b
fixed_size (row main cross size) b = tight_size b
fixed_size (column main cross size) b = tight_size b
fixed_size (wrap spacing run_spacing) b = tight_size b
fixed_size (table widths) b = tight_size b
fixed_size (stack ax ay fit) b = tight_size b
fixed_size (flexible flex fit) b = tight_size b
fixed_size (positioned left top right bottom width height) b = tight_size b
fixed_size (opacity alpha) b = tight_size b
fixed_size clip_rect b = tight_size b
fixed_size repaint_boundary b = tight_size b
fixed_size merge_semantics b = tight_size b
fixed_size intrinsic_width b = tight_size b
fixed_size intrinsic_height b = tight_size b
fixed_size (offstage hidden) b = if hidden then Some (smallest b) else tight_size b
fixed_size (ignore_pointer ignoring) b = tight_size b
fixed_size (absorb_pointer absorbing) b = tight_size b
fixed_size (detector behavior tap long vertical horizontal pan) b = tight_size b
fixed_size (semantics label button container) b = tight_size b
fixed_size (exclude_semantics excluding) b = tight_size b
fixed_size (custom_paint delegate) b = tight_size b
fixed_size (custom_layout delegate) b = tight_size b
fixed_size (viewport axis) b = Some (view_size b)
fixed_size sliver_to_box b = tight_size b
fixed_size (sliver_padding left top right bottom) b = tight_size b
fixed_size (sliver_fixed extent) b = tight_size b
fixed_size (sliver_lazy extent) b = tight_size b
fixed_size (keep kept) b = tight_size b
fixed_size (inherit name value) b = tight_size b
fixed_size (component place props declaration) b = tight_size b

-- a kind whose asks and whose box don't depend on the answers: an Offstage that is offstage
abbrev pub is_blind : Look → Bool
is_blind (sized_box width height) = false
is_blind (constrained_box min_width max_width min_height max_height) = false
is_blind (padding left top right bottom) = false
is_blind (align ax ay) = false
is_blind (colored_box color) = false
is_blind (text words color) = false
is_blind (row main cross size) = false
is_blind (column main cross size) = false
is_blind (wrap spacing run_spacing) = false
is_blind (table widths) = false
is_blind (stack ax ay fit) = false
is_blind (flexible flex fit) = false
is_blind (positioned left top right bottom width height) = false
is_blind (opacity alpha) = false
is_blind clip_rect = false
is_blind repaint_boundary = false
is_blind merge_semantics = false
is_blind intrinsic_width = false
is_blind intrinsic_height = false
is_blind (offstage hidden) = hidden
is_blind (ignore_pointer ignoring) = false
is_blind (absorb_pointer absorbing) = false
is_blind (detector behavior tap long vertical horizontal pan) = false
is_blind (semantics label button container) = false
is_blind (exclude_semantics excluding) = false
is_blind (custom_paint delegate) = false
is_blind (custom_layout delegate) = false
is_blind (viewport axis) = false
is_blind sliver_to_box = false
is_blind (sliver_padding left top right bottom) = false
is_blind (sliver_fixed extent) = false
is_blind (sliver_lazy extent) = false
is_blind (keep kept) = false
is_blind (inherit name value) = false
is_blind (component place props declaration) = false

-- a view ends at a length, as all views of the slivers in a Viewport do
abbrev pub EndsInRange : SliverBounds → Type 0
EndsInRange b = b.offset + b.remaining ≤ 2 ^ 40

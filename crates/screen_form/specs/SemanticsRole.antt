-- What a node is to the semantics tree.
use Rattle.std.specs.Prelude.{ℕ, Bool, false, ◌||◌, is_some, List, [], if◌then◌else◌}
use Rattle.widget_model.specs.Look.{Look, sized_box, constrained_box, padding, align, colored_box, text, row, column, wrap, table, stack, flexible, positioned, opacity, clip_rect, repaint_boundary, merge_semantics, intrinsic_width, intrinsic_height, offstage, ignore_pointer, absorb_pointer, detector, semantics, exclude_semantics, custom_paint, custom_layout, viewport, sliver_to_box, sliver_padding, sliver_fixed, sliver_lazy, keep, inherit, component}
use Rattle.plain_tree.specs.declared.laid.Frame.{Frame}
use Rattle.plain_tree.specs.Shown.{is_unseen}
use Rattle.screen_form.specs.Hidden.{hides_below}

-- a node that hides itself and all below it; one that says a label, which may be empty, and whether it is a button, and
-- passes on what is below it; one that says the same and forms a semantics node, which may do a tap and a long press; or
-- one that forms a semantics node of all that is below it
pub data SemanticsRole : Type 0 where
  hides : SemanticsRole
  says : List ℕ → Bool → SemanticsRole
  forms : List ℕ → Bool → Bool → Bool → SemanticsRole
  merges : SemanticsRole

-- a node that says nothing and passes on what is below it
abbrev pub passes : SemanticsRole
passes = says [] false

-- a detector forms a node where it does something that semantics can ask for
abbrev pub acts : Bool → Bool → SemanticsRole
acts tap long = if tap || long then forms [] false tap long else passes

-- of each kind, where it isn't hidden
abbrev pub shown_role : Look → SemanticsRole
shown_role (sized_box width height) = passes
shown_role (constrained_box min_width max_width min_height max_height) = passes
shown_role (padding left top right bottom) = passes
shown_role (align ax ay) = passes
shown_role (colored_box color) = passes
shown_role (text words color) = says words false
shown_role (row main cross size) = passes
shown_role (column main cross size) = passes
shown_role (wrap spacing run_spacing) = passes
shown_role (table widths) = passes
shown_role (stack ax ay fit) = passes
shown_role (flexible flex fit) = passes
shown_role (positioned left top right bottom width height) = passes
shown_role (opacity alpha) = passes
shown_role clip_rect = passes
shown_role repaint_boundary = passes
shown_role merge_semantics = merges
shown_role intrinsic_width = passes
shown_role intrinsic_height = passes
shown_role (offstage hidden) = passes
shown_role (ignore_pointer ignoring) = passes
shown_role (absorb_pointer absorbing) = passes
shown_role (detector behavior tap long vertical horizontal pan) = acts (is_some tap) (is_some long)
shown_role (semantics label button container) = if container then forms label button false false else says label button
shown_role (exclude_semantics excluding) = if excluding then hides else passes
shown_role (custom_paint delegate) = passes
shown_role (custom_layout delegate) = passes
shown_role (viewport axis) = passes
shown_role sliver_to_box = passes
shown_role (sliver_padding left top right bottom) = passes
shown_role (sliver_fixed extent) = passes
shown_role (sliver_lazy extent) = passes
shown_role (keep kept) = passes
shown_role (inherit name value) = passes
shown_role (component place props declaration) = passes

-- a node of which nothing is seen says nothing either
abbrev pub semantics_role : Look → Frame → SemanticsRole
semantics_role look frame = if is_unseen frame || hides_below look frame then hides else shown_role look

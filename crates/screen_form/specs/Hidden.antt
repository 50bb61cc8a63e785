-- What hides what is below it from the eye, from a reader of the screen and from the focus; and a laid tree without what is
-- hidden in it.
use Rattle.std.specs.Prelude.{Bool, false, ◌==◌, if◌then◌else◌}
use Rattle.widget_model.specs.Look.{Look, sized_box, constrained_box, padding, align, colored_box, text, row, column, wrap, table, stack, flexible, positioned, opacity, clip_rect, repaint_boundary, merge_semantics, intrinsic_width, intrinsic_height, offstage, ignore_pointer, absorb_pointer, detector, semantics, exclude_semantics, custom_paint, custom_layout, viewport, sliver_to_box, sliver_padding, sliver_fixed, sliver_lazy, keep, inherit, component}
use Rattle.plain_tree.specs.declared.laid.Frame.{Frame}
use Rattle.plain_tree.specs.Laid.{Laid, laid, Laids, no_laids, more_laids}
use Rattle.plain_tree.specs.Shown.{is_unseen}

-- nothing is seen below an Opacity of alpha 0, an Offstage that is offstage and a sliver of which nothing is seen
abbrev pub hides_below : Look → Frame → Bool
hides_below (sized_box width height) frame = false
hides_below (constrained_box min_width max_width min_height max_height) frame = false
hides_below (padding left top right bottom) frame = false
hides_below (align ax ay) frame = false
hides_below (colored_box color) frame = false
hides_below (text words color) frame = false
hides_below (row main cross size) frame = false
hides_below (column main cross size) frame = false
hides_below (wrap spacing run_spacing) frame = false
hides_below (table widths) frame = false
hides_below (stack ax ay fit) frame = false
hides_below (flexible flex fit) frame = false
hides_below (positioned left top right bottom width height) frame = false
hides_below (opacity alpha) frame = alpha == 0
hides_below clip_rect frame = false
hides_below repaint_boundary frame = false
hides_below merge_semantics frame = false
hides_below intrinsic_width frame = false
hides_below intrinsic_height frame = false
hides_below (offstage hidden) frame = hidden
hides_below (ignore_pointer ignoring) frame = false
hides_below (absorb_pointer absorbing) frame = false
hides_below (detector behavior tap long vertical horizontal pan) frame = false
hides_below (semantics label button container) frame = false
hides_below (exclude_semantics excluding) frame = false
hides_below (custom_paint delegate) frame = false
hides_below (custom_layout delegate) frame = false
hides_below (viewport axis) frame = false
hides_below sliver_to_box frame = is_unseen frame
hides_below (sliver_padding left top right bottom) frame = is_unseen frame
hides_below (sliver_fixed extent) frame = is_unseen frame
hides_below (sliver_lazy extent) frame = is_unseen frame
hides_below (keep kept) frame = false
hides_below (inherit name value) frame = false
hides_below (component place props declaration) frame = false

-- a tree in which nothing stands below the nodes that hide it
abbrev mutual
  pub without_hidden : Laid → Laid
  without_hidden (laid number look facts children) =
      laid number look facts (if hides_below look facts.frame then no_laids else all_without_hidden children)

  pub all_without_hidden : Laids → Laids
  all_without_hidden no_laids = no_laids
  all_without_hidden (more_laids at l ls) = more_laids at (without_hidden l) (all_without_hidden ls)

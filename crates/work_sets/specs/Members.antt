-- The members of a kind, as values: by its type, these and its callbacks a kind is told apart from others.
use Rattle.std.specs.Prelude.{ℕ, ℤ, pos, Bool, true, false, ◌&&◌, Option, Some, None, List, [], ◌∷◌, ◌++◌, map}
use Rattle.std.specs.Coded.{coded_option}
use base.Stored.{Coded}
use lib.Pointwise.{pointwise}
use Rattle.fx_expr.specs.contracts.handlers.Handler as handler
use Rattle.fx_expr.specs.declared.handlers.Handler.{Handler}
use Rattle.fx_expr.specs.declared.values.Ty.{Ty}
use Rattle.fx_expr.specs.declared.values.Ty.TheVariants as ty
use Rattle.fx_expr.specs.declared.values.Value.{Value}
use Rattle.fx_expr.specs.declared.values.Value.TheVariants as value
use Rattle.fx_expr.specs.Value.{value_eq}
use Rattle.fx_geom.specs.declared.shapes.Axis.{Axis}
use Rattle.fx_geom.specs.declared.shapes.Axis.TheVariants as axis
use Rattle.fx_geom.specs.declared.words.CrossAlign.{CrossAlign}
use Rattle.fx_geom.specs.declared.words.CrossAlign.TheVariants as cross_align
use Rattle.fx_geom.specs.declared.words.MainAlign.{MainAlign}
use Rattle.fx_geom.specs.declared.words.MainAlign.TheVariants as main_align
use Rattle.fx_geom.specs.declared.words.StackFit.{StackFit}
use Rattle.fx_geom.specs.declared.words.StackFit.TheVariants as stack_fit
use Rattle.screen_form.specs.Members.{handler_in, all_gestures}
use Rattle.widget_model.specs.declared.decl.Decl.{Decl}
use Rattle.widget_model.specs.declared.words.Behavior.{Behavior}
use Rattle.widget_model.specs.declared.words.Behavior.TheVariants as behavior
use Rattle.widget_model.specs.declared.words.FlexFit.{FlexFit}
use Rattle.widget_model.specs.declared.words.FlexFit.TheVariants as flex_fit
use Rattle.widget_model.specs.declared.words.MainSize.{MainSize}
use Rattle.widget_model.specs.declared.words.MainSize.TheVariants as main_size
use Rattle.widget_model.specs.Look.{Look, sized_box, constrained_box, padding, align, colored_box, text, row, column, wrap, table, stack, flexible, positioned, opacity, clip_rect, repaint_boundary, merge_semantics, intrinsic_width, intrinsic_height, offstage, ignore_pointer, absorb_pointer, detector, semantics, exclude_semantics, custom_paint, custom_layout, viewport, sliver_to_box, sliver_padding, sliver_fixed, sliver_lazy, keep, inherit, component}
use Rattle.widget_model.specs.Plain.{PlainWidget, plain, Widgets, no_widgets, more}
use Rattle.widget_model.specs.Update.{key_eq}
use Rattle.widget_model.specs.WidgetType.{type_of, type_eq}
use Rattle.work_sets.specs.Same.{is_same}

-- ---- members as values: words by their places among those of their kind, what is absent as the empty list

abbrev pub number : ℕ → Value
number n = value.Int (pos n)

abbrev pub perhaps : Option ℕ → Value
perhaps None = value.Ints []
perhaps (Some n) = value.Ints (pos n ∷ [])

abbrev pub perhaps_signed : Option ℤ → Value
perhaps_signed None = value.Ints []
perhaps_signed (Some z) = value.Ints (z ∷ [])

abbrev pub main_word : MainAlign → Value
main_word main_align.Start = number 0
main_word main_align.End = number 1
main_word main_align.Center = number 2
main_word main_align.Between = number 3
main_word main_align.Around = number 4
main_word main_align.Evenly = number 5

abbrev pub cross_word : CrossAlign → Value
cross_word cross_align.Start = number 0
cross_word cross_align.End = number 1
cross_word cross_align.Center = number 2
cross_word cross_align.Stretch = number 3

abbrev pub size_word : MainSize → Value
size_word main_size.Max = number 0
size_word main_size.Min = number 1

abbrev pub stack_word : StackFit → Value
stack_word stack_fit.Loose = number 0
stack_word stack_fit.Expand = number 1
stack_word stack_fit.Passthrough = number 2

abbrev pub fit_word : FlexFit → Value
fit_word flex_fit.Loose = number 0
fit_word flex_fit.Tight = number 1

abbrev pub behavior_word : Behavior → Value
behavior_word behavior.Defer = number 0
behavior_word behavior.Opaque = number 1
behavior_word behavior.Translucent = number 2

abbrev pub axis_word : Axis → Value
axis_word axis.Horizontal = number 0
axis_word axis.Vertical = number 1

abbrev pub type_word : Ty → ℤ
type_word ty.Int = pos 0
type_word ty.Bool = pos 1
type_word ty.Text = pos 2
type_word ty.Ints = pos 3
type_word ty.Texts = pos 4

-- what a component declares: its name, the names and types of its fields, and the inherited names in its body
abbrev pub declared : Decl → List Value
declared d =
    value.Text d.name ∷ value.Texts (map (λ f. f.0) d.fields) ∷ value.Ints (map (λ f. type_word f.1) d.fields)
    ∷ value.Ints (map (λ n. pos n) d.inherited) ∷ []

abbrev pub members_of : Look → List Value
members_of (sized_box width height) = perhaps width ∷ perhaps height ∷ []
members_of (constrained_box min_width max_width min_height max_height) = number min_width ∷ perhaps max_width ∷ number min_height ∷ perhaps max_height ∷ []
members_of (padding left top right bottom) = number left ∷ number top ∷ number right ∷ number bottom ∷ []
members_of (align ax ay) = value.Int ax ∷ value.Int ay ∷ []
members_of (colored_box color) = number color ∷ []
members_of (text words color) = value.Text words ∷ number color ∷ []
members_of (row main cross size) = main_word main ∷ cross_word cross ∷ size_word size ∷ []
members_of (column main cross size) = main_word main ∷ cross_word cross ∷ size_word size ∷ []
members_of (wrap spacing run_spacing) = number spacing ∷ number run_spacing ∷ []
members_of (table widths) = value.Ints widths ∷ []
members_of (stack ax ay fit) = value.Int ax ∷ value.Int ay ∷ stack_word fit ∷ []
members_of (flexible flex fit) = number flex ∷ fit_word fit ∷ []
members_of (positioned left top right bottom width height) =
    perhaps_signed left ∷ perhaps_signed top ∷ perhaps_signed right ∷ perhaps_signed bottom ∷ perhaps width ∷ perhaps height ∷ []
members_of (opacity alpha) = number alpha ∷ []
members_of clip_rect = []
members_of repaint_boundary = []
members_of merge_semantics = []
members_of intrinsic_width = []
members_of intrinsic_height = []
members_of (offstage hidden) = value.Bool hidden ∷ []
members_of (ignore_pointer ignoring) = value.Bool ignoring ∷ []
members_of (absorb_pointer absorbing) = value.Bool absorbing ∷ []
members_of (detector how tap long vertical horizontal pan) = behavior_word how ∷ []
members_of (semantics label button container) = value.Text label ∷ value.Bool button ∷ value.Bool container ∷ []
members_of (exclude_semantics excluding) = value.Bool excluding ∷ []
members_of (custom_paint delegate) = value.Text delegate ∷ []
members_of (custom_layout delegate) = value.Text delegate ∷ []
members_of (viewport direction) = axis_word direction ∷ []
members_of sliver_to_box = []
members_of (sliver_padding left top right bottom) = number left ∷ number top ∷ number right ∷ number bottom ∷ []
members_of (sliver_fixed extent) = number extent ∷ []
members_of (sliver_lazy extent) = number extent ∷ []
members_of (keep kept) = value.Bool kept ∷ []
members_of (inherit name given) = number name ∷ given ∷ []
members_of (component place props declaration) = number place ∷ (declared declaration ++ props)

-- its callbacks, which a Detector alone has
abbrev pub callbacks_of : Look → List (Option Handler)
callbacks_of look = map (handler_in look) all_gestures

-- ---- whether two kinds, and two widgets, are the same

abbrev pub coded_callback : Coded (Option Handler)
coded_callback = coded_option (handler.the_row).coded

abbrev pub is_same_look : Look → Look → Bool
is_same_look a b =
    type_eq (type_of a) (type_of b)
    && (pointwise value_eq (members_of a) (members_of b) && pointwise (is_same coded_callback) (callbacks_of a) (callbacks_of b))

abbrev mutual
  pub is_same_widget : PlainWidget → PlainWidget → Bool
  is_same_widget (plain a k slots children) (plain b j others below) =
      is_same_look a b && (key_eq k j && (are_same_widgets slots others && are_same_widgets children below))

  pub are_same_widgets : Widgets → Widgets → Bool
  are_same_widgets no_widgets no_widgets = true
  are_same_widgets (more v vs) (more w ws) = is_same_widget v w && are_same_widgets vs ws
  are_same_widgets vs ws = false

-- The type of a widget: its kind, of a use of a component the component too, and of an Inherit the name too.
use Rattle.std.specs.Prelude.{◌==◌, Bool, true, false}
use Rattle.widget_model.specs.declared.types.WidgetType.{WidgetType}
use Rattle.widget_model.specs.declared.types.WidgetType.TheVariants as type
use Rattle.widget_model.specs.Look.{Look, sized_box, constrained_box, padding, align, colored_box, text, row, column, wrap, table, stack, flexible, positioned, opacity, clip_rect, repaint_boundary, merge_semantics, intrinsic_width, intrinsic_height, offstage, ignore_pointer, absorb_pointer, detector, semantics, exclude_semantics, custom_paint, custom_layout, viewport, sliver_to_box, sliver_padding, sliver_fixed, sliver_lazy, keep, inherit, component}

abbrev pub type_of : Look → WidgetType
type_of (sized_box m0 m1) = type.SizedBox
type_of (constrained_box m0 m1 m2 m3) = type.ConstrainedBox
type_of (padding m0 m1 m2 m3) = type.Padding
type_of (align m0 m1) = type.Align
type_of (colored_box m0) = type.ColoredBox
type_of (text m0 m1) = type.Text
type_of (row m0 m1 m2) = type.Row
type_of (column m0 m1 m2) = type.Column
type_of (wrap m0 m1) = type.Wrap
type_of (table m0) = type.Table
type_of (stack m0 m1 m2) = type.Stack
type_of (flexible m0 m1) = type.Flexible
type_of (positioned m0 m1 m2 m3 m4 m5) = type.Positioned
type_of (opacity m0) = type.Opacity
type_of clip_rect = type.ClipRect
type_of repaint_boundary = type.RepaintBoundary
type_of merge_semantics = type.MergeSemantics
type_of intrinsic_width = type.IntrinsicWidth
type_of intrinsic_height = type.IntrinsicHeight
type_of (offstage m0) = type.Offstage
type_of (ignore_pointer m0) = type.IgnorePointer
type_of (absorb_pointer m0) = type.AbsorbPointer
type_of (detector m0 m1 m2 m3 m4 m5) = type.Detector
type_of (semantics m0 m1 m2) = type.Semantics
type_of (exclude_semantics m0) = type.ExcludeSemantics
type_of (custom_paint m0) = type.CustomPaint
type_of (custom_layout m0) = type.CustomLayout
type_of (viewport m0) = type.Viewport
type_of sliver_to_box = type.SliverToBox
type_of (sliver_padding m0 m1 m2 m3) = type.SliverPadding
type_of (sliver_fixed m0) = type.SliverFixed
type_of (sliver_lazy m0) = type.SliverLazy
type_of (keep m0) = type.Keep
type_of (inherit n m1) = type.Inherit n
type_of (component n m1 m2) = type.Use n

-- two types are the same
abbrev pub type_eq : WidgetType → WidgetType → Bool
type_eq type.SizedBox type.SizedBox = true
type_eq type.ConstrainedBox type.ConstrainedBox = true
type_eq type.Padding type.Padding = true
type_eq type.Align type.Align = true
type_eq type.ColoredBox type.ColoredBox = true
type_eq type.Text type.Text = true
type_eq type.Row type.Row = true
type_eq type.Column type.Column = true
type_eq type.Wrap type.Wrap = true
type_eq type.Table type.Table = true
type_eq type.Stack type.Stack = true
type_eq type.Flexible type.Flexible = true
type_eq type.Positioned type.Positioned = true
type_eq type.Opacity type.Opacity = true
type_eq type.ClipRect type.ClipRect = true
type_eq type.RepaintBoundary type.RepaintBoundary = true
type_eq type.MergeSemantics type.MergeSemantics = true
type_eq type.IntrinsicWidth type.IntrinsicWidth = true
type_eq type.IntrinsicHeight type.IntrinsicHeight = true
type_eq type.Offstage type.Offstage = true
type_eq type.IgnorePointer type.IgnorePointer = true
type_eq type.AbsorbPointer type.AbsorbPointer = true
type_eq type.Detector type.Detector = true
type_eq type.Semantics type.Semantics = true
type_eq type.ExcludeSemantics type.ExcludeSemantics = true
type_eq type.CustomPaint type.CustomPaint = true
type_eq type.CustomLayout type.CustomLayout = true
type_eq type.Viewport type.Viewport = true
type_eq type.SliverToBox type.SliverToBox = true
type_eq type.SliverPadding type.SliverPadding = true
type_eq type.SliverFixed type.SliverFixed = true
type_eq type.SliverLazy type.SliverLazy = true
type_eq type.Keep type.Keep = true
type_eq (type.Inherit m) (type.Inherit n) = m == n
type_eq (type.Use m) (type.Use n) = m == n
type_eq _ _ = false

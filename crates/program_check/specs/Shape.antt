-- What a kind of a template makes, kind by kind: a widget of its own, or what other members of it are.
use Rattle.program_form.specs.declared.kinds.KindName.{KindName}
use Rattle.program_form.specs.declared.kinds.KindName.TheVariants as kind
use Rattle.program_form.specs.declared.kinds.ChildSort.{ChildSort}
use Rattle.program_form.specs.declared.kinds.ChildSort.TheVariants as stands

pub data Shape : Type 0 where
  -- a widget that is a box or a sliver, with the members that the table says
  a_widget : ChildSort → Shape
  -- a value for all below, of its child's sort (`Inherit`)
  a_value : Shape
  -- a component, of its body's sort (`use`)
  a_component : Shape
  -- the content given for a slot, a box (`slot`)
  a_content : Shape
  -- one template or another, of the sort of the first (`if`)
  a_choice : Shape
  -- a template for each item of a list (`each`)
  a_loop : Shape

abbrev pub shape_of : KindName → Shape
shape_of kind.SizedBox = a_widget stands.Box
shape_of kind.ConstrainedBox = a_widget stands.Box
shape_of kind.Padding = a_widget stands.Box
shape_of kind.Align = a_widget stands.Box
shape_of kind.ColoredBox = a_widget stands.Box
shape_of kind.Text = a_widget stands.Box
shape_of kind.Row = a_widget stands.Box
shape_of kind.Column = a_widget stands.Box
shape_of kind.Stack = a_widget stands.Box
shape_of kind.Flexible = a_widget stands.Box
shape_of kind.Positioned = a_widget stands.Box
shape_of kind.Opacity = a_widget stands.Box
shape_of kind.ClipRect = a_widget stands.Box
shape_of kind.RepaintBoundary = a_widget stands.Box
shape_of kind.MergeSemantics = a_widget stands.Box
shape_of kind.IntrinsicWidth = a_widget stands.Box
shape_of kind.IntrinsicHeight = a_widget stands.Box
shape_of kind.Offstage = a_widget stands.Box
shape_of kind.IgnorePointer = a_widget stands.Box
shape_of kind.AbsorbPointer = a_widget stands.Box
shape_of kind.Detector = a_widget stands.Box
shape_of kind.Semantics = a_widget stands.Box
shape_of kind.ExcludeSemantics = a_widget stands.Box
shape_of kind.CustomPaint = a_widget stands.Box
shape_of kind.CustomLayout = a_widget stands.Box
shape_of kind.Viewport = a_widget stands.Box
shape_of kind.SliverToBox = a_widget stands.Sliver
shape_of kind.SliverPadding = a_widget stands.Sliver
shape_of kind.SliverFixed = a_widget stands.Sliver
shape_of kind.SliverLazy = a_widget stands.Sliver
shape_of kind.Keep = a_widget stands.Box
shape_of kind.Wrap = a_widget stands.Box
shape_of kind.Table = a_widget stands.Box
shape_of kind.Inherit = a_value
shape_of kind.Use = a_component
shape_of kind.Slot = a_content
shape_of kind.If = a_choice
shape_of kind.Each = a_loop

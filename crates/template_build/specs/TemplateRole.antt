-- What a template of each kind gives.
use Rattle.program_form.specs.declared.kinds.KindName.{KindName}
use Rattle.program_form.specs.declared.kinds.KindName.TheVariants as kind
use Rattle.template_build.specs.declared.roles.TemplateRole.{TemplateRole}
use Rattle.template_build.specs.declared.roles.TemplateRole.TheVariants as gives

abbrev pub template_role_of : KindName → TemplateRole
template_role_of kind.SizedBox = gives.Widget
template_role_of kind.ConstrainedBox = gives.Widget
template_role_of kind.Padding = gives.Widget
template_role_of kind.Align = gives.Widget
template_role_of kind.ColoredBox = gives.Widget
template_role_of kind.Text = gives.Widget
template_role_of kind.Row = gives.Widget
template_role_of kind.Column = gives.Widget
template_role_of kind.Stack = gives.Widget
template_role_of kind.Flexible = gives.Widget
template_role_of kind.Positioned = gives.Widget
template_role_of kind.Opacity = gives.Widget
template_role_of kind.ClipRect = gives.Widget
template_role_of kind.RepaintBoundary = gives.Widget
template_role_of kind.MergeSemantics = gives.Widget
template_role_of kind.IntrinsicWidth = gives.Widget
template_role_of kind.IntrinsicHeight = gives.Widget
template_role_of kind.Offstage = gives.Widget
template_role_of kind.IgnorePointer = gives.Widget
template_role_of kind.AbsorbPointer = gives.Widget
template_role_of kind.Detector = gives.Widget
template_role_of kind.Semantics = gives.Widget
template_role_of kind.ExcludeSemantics = gives.Widget
template_role_of kind.CustomPaint = gives.Widget
template_role_of kind.CustomLayout = gives.Widget
template_role_of kind.Viewport = gives.Widget
template_role_of kind.SliverToBox = gives.Widget
template_role_of kind.SliverPadding = gives.Widget
template_role_of kind.SliverFixed = gives.Widget
template_role_of kind.SliverLazy = gives.Widget
template_role_of kind.Keep = gives.Widget
template_role_of kind.Wrap = gives.Widget
template_role_of kind.Table = gives.Widget
template_role_of kind.Inherit = gives.Widget
template_role_of kind.Use = gives.Component
template_role_of kind.Slot = gives.Content
template_role_of kind.If = gives.Choice
template_role_of kind.Each = gives.Loop

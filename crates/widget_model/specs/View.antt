-- A widget of the program as its plain value.
use Rattle.std.specs.Prelude.{List, []}
use Rattle.std.specs.declared.rc.Rc.{Rc}
use Rattle.std.specs.declared.alloc.Global.{Global}
use Rattle.widget_model.specs.declared.widgets.Kind.{Kind}
use Rattle.widget_model.specs.declared.widgets.Kind.TheVariants as kind
use Rattle.widget_model.specs.declared.widgets.Widget.{Widget}
use Rattle.widget_model.specs.Look.{Look, sized_box, constrained_box, padding, align, colored_box, text, row, column, wrap, table, stack, flexible, positioned, opacity, clip_rect, repaint_boundary, merge_semantics, intrinsic_width, intrinsic_height, offstage, ignore_pointer, absorb_pointer, detector, semantics, exclude_semantics, custom_paint, custom_layout, viewport, sliver_to_box, sliver_padding, sliver_fixed, sliver_lazy, keep, inherit, component}
use Rattle.widget_model.specs.Plain.{PlainWidget, plain, widgets_of}

-- what a kind is, without the widgets in its slots and the memory of its declaration
abbrev pub look_in : Kind → Look
look_in (kind.SizedBox m0 m1) = sized_box m0 m1
look_in (kind.ConstrainedBox m0 m1 m2 m3) = constrained_box m0 m1 m2 m3
look_in (kind.Padding m0 m1 m2 m3) = padding m0 m1 m2 m3
look_in (kind.Align m0 m1) = align m0 m1
look_in (kind.ColoredBox m0) = colored_box m0
look_in (kind.Text m0 m1) = text m0 m1
look_in (kind.Row m0 m1 m2) = row m0 m1 m2
look_in (kind.Column m0 m1 m2) = column m0 m1 m2
look_in (kind.Wrap m0 m1) = wrap m0 m1
look_in (kind.Table m0) = table m0
look_in (kind.Stack m0 m1 m2) = stack m0 m1 m2
look_in (kind.Flexible m0 m1) = flexible m0 m1
look_in (kind.Positioned m0 m1 m2 m3 m4 m5) = positioned m0 m1 m2 m3 m4 m5
look_in (kind.Opacity m0) = opacity m0
look_in kind.ClipRect = clip_rect
look_in kind.RepaintBoundary = repaint_boundary
look_in kind.MergeSemantics = merge_semantics
look_in kind.IntrinsicWidth = intrinsic_width
look_in kind.IntrinsicHeight = intrinsic_height
look_in (kind.Offstage m0) = offstage m0
look_in (kind.IgnorePointer m0) = ignore_pointer m0
look_in (kind.AbsorbPointer m0) = absorb_pointer m0
look_in (kind.Detector m0 m1 m2 m3 m4 m5) = detector m0 m1 m2 m3 m4 m5
look_in (kind.Semantics m0 m1 m2) = semantics m0 m1 m2
look_in (kind.ExcludeSemantics m0) = exclude_semantics m0
look_in (kind.CustomPaint m0) = custom_paint m0
look_in (kind.CustomLayout m0) = custom_layout m0
look_in (kind.Viewport m0) = viewport m0
look_in kind.SliverToBox = sliver_to_box
look_in (kind.SliverPadding m0 m1 m2 m3) = sliver_padding m0 m1 m2 m3
look_in (kind.SliverFixed m0) = sliver_fixed m0
look_in (kind.SliverLazy m0) = sliver_lazy m0
look_in (kind.Keep m0) = keep m0
look_in (kind.Inherit m0 m1) = inherit m0 m1
look_in (kind.Use m0 m1 m2 m3) = component m0 m1 m3.value

-- the contents of a kind's slots
abbrev pub slots_in : Kind → List PlainWidget
slots_in (kind.SizedBox m0 m1) = []
slots_in (kind.ConstrainedBox m0 m1 m2 m3) = []
slots_in (kind.Padding m0 m1 m2 m3) = []
slots_in (kind.Align m0 m1) = []
slots_in (kind.ColoredBox m0) = []
slots_in (kind.Text m0 m1) = []
slots_in (kind.Row m0 m1 m2) = []
slots_in (kind.Column m0 m1 m2) = []
slots_in (kind.Wrap m0 m1) = []
slots_in (kind.Table m0) = []
slots_in (kind.Stack m0 m1 m2) = []
slots_in (kind.Flexible m0 m1) = []
slots_in (kind.Positioned m0 m1 m2 m3 m4 m5) = []
slots_in (kind.Opacity m0) = []
slots_in kind.ClipRect = []
slots_in kind.RepaintBoundary = []
slots_in kind.MergeSemantics = []
slots_in kind.IntrinsicWidth = []
slots_in kind.IntrinsicHeight = []
slots_in (kind.Offstage m0) = []
slots_in (kind.IgnorePointer m0) = []
slots_in (kind.AbsorbPointer m0) = []
slots_in (kind.Detector m0 m1 m2 m3 m4 m5) = []
slots_in (kind.Semantics m0 m1 m2) = []
slots_in (kind.ExcludeSemantics m0) = []
slots_in (kind.CustomPaint m0) = []
slots_in (kind.CustomLayout m0) = []
slots_in (kind.Viewport m0) = []
slots_in kind.SliverToBox = []
slots_in (kind.SliverPadding m0 m1 m2 m3) = []
slots_in (kind.SliverFixed m0) = []
slots_in (kind.SliverLazy m0) = []
slots_in (kind.Keep m0) = []
slots_in (kind.Inherit m0 m1) = []
slots_in (kind.Use c props slots d) = slots

-- the plain value of a widget
abbrev pub plain_of : Widget → PlainWidget
plain_of w = plain (look_in w.kind) w.key (widgets_of (slots_in w.kind)) (widgets_of w.children)

-- of a widget that is shared
abbrev pub shared : Rc Widget Global → PlainWidget
shared r = plain_of r.value

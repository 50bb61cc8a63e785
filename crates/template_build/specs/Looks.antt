-- What the widget of a template is, kind by kind: its members in a scene, in the order of the kind's table. Of the widgets
-- below it it counts alone whether there are any.
use Rattle.std.specs.Prelude.{pos, negsuc, Bool, true, false, None}
use Rattle.program_form.specs.declared.kinds.KindName.{KindName}
use Rattle.program_form.specs.declared.kinds.KindName.TheVariants as kind
use Rattle.widget_model.specs.Look.{Look, sized_box, constrained_box, padding, align, colored_box, text, row, column, wrap, table, stack, flexible, positioned, opacity, clip_rect, repaint_boundary, merge_semantics, intrinsic_width, intrinsic_height, offstage, ignore_pointer, absorb_pointer, detector, semantics, exclude_semantics, custom_paint, custom_layout, viewport, sliver_to_box, sliver_padding, sliver_fixed, sliver_lazy, keep, inherit, component}
use Rattle.program_check.specs.Body.{BodyMembers}
use Rattle.template_build.specs.Scene.{Scene, declaration_at}
use Rattle.template_build.specs.Members.{value_or_zero, flag_or, text_or_empty, ints_or_none, up_to_or, length_given, length_or_zero, extent_at, place_given, alignment_or, color_or, word_at, main_or_start, cross_or_center, size_or_max, stack_fit_or_loose, flex_fit_or_loose, axis_or_vertical, behavior_without_word, behavior_or, name_at, handler_given, props_at}

-- what stands for the look of the kinds that make no widget of their own
abbrev pub no_look : Look
no_look = sized_box None None

abbrev pub look_by : KindName → BodyMembers → Scene → Bool → Look
look_by kind.SizedBox ms s below = sized_box (length_given ms 0 s) (length_given ms 1 s)
look_by kind.ConstrainedBox ms s below = constrained_box (length_or_zero ms 0 s) (length_given ms 1 s) (length_or_zero ms 2 s) (length_given ms 3 s)
look_by kind.Padding ms s below = padding (length_or_zero ms 0 s) (length_or_zero ms 1 s) (length_or_zero ms 2 s) (length_or_zero ms 3 s)
look_by kind.Align ms s below = align (alignment_or (pos 0) ms 0 s) (alignment_or (pos 0) ms 1 s)
look_by kind.ColoredBox ms s below = colored_box (color_or 0 ms 0 s)
look_by kind.Text ms s below = text (text_or_empty ms 0 s) (color_or 0xff00_0000 ms 1 s)
look_by kind.Row ms s below = row (main_or_start (word_at ms 0)) (cross_or_center (word_at ms 1)) (size_or_max (word_at ms 2))
look_by kind.Column ms s below = column (main_or_start (word_at ms 0)) (cross_or_center (word_at ms 1)) (size_or_max (word_at ms 2))
look_by kind.Stack ms s below = stack (alignment_or (negsuc 99) ms 0 s) (alignment_or (negsuc 99) ms 1 s) (stack_fit_or_loose (word_at ms 2))
look_by kind.Flexible ms s below = flexible (up_to_or 1000000 1 ms 0 s) (flex_fit_or_loose (word_at ms 1))
look_by kind.Positioned ms s below = positioned (place_given ms 0 s) (place_given ms 1 s) (place_given ms 2 s) (place_given ms 3 s) (length_given ms 4 s) (length_given ms 5 s)
look_by kind.Opacity ms s below = opacity (up_to_or 255 255 ms 0 s)
look_by kind.ClipRect ms s below = clip_rect
look_by kind.RepaintBoundary ms s below = repaint_boundary
look_by kind.MergeSemantics ms s below = merge_semantics
look_by kind.IntrinsicWidth ms s below = intrinsic_width
look_by kind.IntrinsicHeight ms s below = intrinsic_height
look_by kind.Offstage ms s below = offstage (flag_or true ms 0 s)
look_by kind.IgnorePointer ms s below = ignore_pointer (flag_or true ms 0 s)
look_by kind.AbsorbPointer ms s below = absorb_pointer (flag_or true ms 0 s)
look_by kind.Detector ms s below = detector (behavior_or (behavior_without_word below) (word_at ms 0)) (handler_given ms 1 s) (handler_given ms 2 s) (handler_given ms 3 s) (handler_given ms 4 s) (handler_given ms 5 s)
look_by kind.Semantics ms s below = semantics (text_or_empty ms 0 s) (flag_or false ms 1 s) (flag_or false ms 2 s)
look_by kind.ExcludeSemantics ms s below = exclude_semantics (flag_or true ms 0 s)
look_by kind.CustomPaint ms s below = custom_paint (text_or_empty ms 0 s)
look_by kind.CustomLayout ms s below = custom_layout (text_or_empty ms 0 s)
look_by kind.Viewport ms s below = viewport (axis_or_vertical (word_at ms 0))
look_by kind.SliverToBox ms s below = sliver_to_box
look_by kind.SliverPadding ms s below = sliver_padding (length_or_zero ms 0 s) (length_or_zero ms 1 s) (length_or_zero ms 2 s) (length_or_zero ms 3 s)
look_by kind.SliverFixed ms s below = sliver_fixed (extent_at ms 0 s)
look_by kind.SliverLazy ms s below = sliver_lazy (extent_at ms 0 s)
look_by kind.Keep ms s below = keep (flag_or true ms 0 s)
look_by kind.Wrap ms s below = wrap (length_or_zero ms 0 s) (length_or_zero ms 1 s)
look_by kind.Table ms s below = table (ints_or_none ms 0 s)
look_by kind.Inherit ms s below = inherit (name_at ms 0) (value_or_zero ms 1 s)
look_by kind.Use ms s below = component (name_at ms 0) (props_at ms 1 s) (declaration_at s.declared (name_at ms 0))
look_by kind.Slot ms s below = no_look
look_by kind.If ms s below = no_look
look_by kind.Each ms s below = no_look

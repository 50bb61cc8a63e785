-- What a widget is, without the widgets in it: one constructor for each kind, members in the order of the kind's own.
use Rattle.std.specs.Prelude.{ℕ, ℤ, Bool, Option, List}
use Rattle.fx_expr.specs.declared.values.Value.{Value}
use Rattle.fx_expr.specs.declared.handlers.Handler.{Handler}
use Rattle.fx_geom.specs.declared.shapes.Axis.{Axis}
use Rattle.fx_geom.specs.declared.words.MainAlign.{MainAlign}
use Rattle.fx_geom.specs.declared.words.CrossAlign.{CrossAlign}
use Rattle.fx_geom.specs.declared.words.StackFit.{StackFit}
use Rattle.widget_model.specs.declared.words.MainSize.{MainSize}
use Rattle.widget_model.specs.declared.words.FlexFit.{FlexFit}
use Rattle.widget_model.specs.declared.words.Behavior.{Behavior}
use Rattle.widget_model.specs.declared.decl.Decl.{Decl}

pub data Look : Type 0 where
  -- width, height
  sized_box : Option ℕ → Option ℕ → Look
  -- min_width, max_width, min_height, max_height
  constrained_box : ℕ → Option ℕ → ℕ → Option ℕ → Look
  -- left, top, right, bottom
  padding : ℕ → ℕ → ℕ → ℕ → Look
  -- ax, ay
  align : ℤ → ℤ → Look
  -- color
  colored_box : ℕ → Look
  -- text, color
  text : List ℕ → ℕ → Look
  -- main, cross, size
  row : MainAlign → CrossAlign → MainSize → Look
  -- main, cross, size
  column : MainAlign → CrossAlign → MainSize → Look
  -- spacing, run_spacing
  wrap : ℕ → ℕ → Look
  -- widths
  table : List ℤ → Look
  -- ax, ay, fit
  stack : ℤ → ℤ → StackFit → Look
  -- flex, fit
  flexible : ℕ → FlexFit → Look
  -- left, top, right, bottom, width, height
  positioned : Option ℤ → Option ℤ → Option ℤ → Option ℤ → Option ℕ → Option ℕ → Look
  -- alpha
  opacity : ℕ → Look
  clip_rect : Look
  repaint_boundary : Look
  merge_semantics : Look
  intrinsic_width : Look
  intrinsic_height : Look
  -- offstage
  offstage : Bool → Look
  -- ignoring
  ignore_pointer : Bool → Look
  -- absorbing
  absorb_pointer : Bool → Look
  -- behavior, tap, long, vertical, horizontal, pan
  detector : Behavior → Option Handler → Option Handler → Option Handler → Option Handler → Option Handler → Look
  -- label, button, container
  semantics : List ℕ → Bool → Bool → Look
  -- excluding
  exclude_semantics : Bool → Look
  -- delegate
  custom_paint : List ℕ → Look
  -- delegate
  custom_layout : List ℕ → Look
  -- axis
  viewport : Axis → Look
  sliver_to_box : Look
  -- left, top, right, bottom
  sliver_padding : ℕ → ℕ → ℕ → ℕ → Look
  -- extent
  sliver_fixed : ℕ → Look
  -- extent
  sliver_lazy : ℕ → Look
  -- keep
  keep : Bool → Look
  -- name, value
  inherit : ℕ → Value → Look
  -- component, props, decl
  component : ℕ → List Value → Decl → Look

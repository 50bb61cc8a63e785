-- Kinds of one type: both are drawn alike, and say nothing of their children.
use Rattle.std.proofs.Common.{◌≡◌, true, false, List, refl}
use Rattle.widget_model.specs.Look.{Look, row, column, stack, flexible, positioned, viewport, sliver_lazy, keep, inherit, component}
use Rattle.widget_model.specs.Plain.{PlainWidget}
use Rattle.widget_model.specs.WidgetType.{type_of}
use Rattle.plain_tree.specs.Render.{lazy_count}
use Rattle.plain_tree.specs.RenderRole.{render_role_of, vanishes}
use Rattle.build_form.specs.BuildRole.{build_role_of}
use Rattle.settled_builds.specs.Taken.{has_own_children}

pub looks_draw : (a b : Look) → type_of a ≡ type_of b → vanishes (render_role_of a) ≡ false → render_role_of b ≡ render_role_of a
looks_draw (flexible a0 a1) b same drawn = cc
looks_draw (positioned a0 a1 a2 a3 a4 a5) b same drawn = cc
looks_draw (keep a0) b same drawn = cc
looks_draw (inherit a0 a1) b same drawn = cc
looks_draw (component a0 a1 a2) b same drawn = cc
looks_draw a (flexible b0 b1) same drawn = cc
looks_draw a (positioned b0 b1 b2 b3 b4 b5) same drawn = cc
looks_draw a (keep b0) same drawn = cc
looks_draw a (inherit b0 b1) same drawn = cc
looks_draw a (component b0 b1 b2) same drawn = cc
looks_draw (row a0 a1 a2) (row b0 b1 b2) same drawn = refl
looks_draw (column a0 a1 a2) (column b0 b1 b2) same drawn = refl
looks_draw (stack a0 a1 a2) (stack b0 b1 b2) same drawn = refl
looks_draw (viewport a0) (viewport b0) same drawn = refl
looks_draw (sliver_lazy a0) (sliver_lazy b0) same drawn = refl
looks_draw (row a0 a1 a2) b same drawn = cc
looks_draw a (row b0 b1 b2) same drawn = cc
looks_draw (column a0 a1 a2) b same drawn = cc
looks_draw a (column b0 b1 b2) same drawn = cc
looks_draw (stack a0 a1 a2) b same drawn = cc
looks_draw a (stack b0 b1 b2) same drawn = cc
looks_draw (viewport a0) b same drawn = cc
looks_draw a (viewport b0) same drawn = cc
looks_draw (sliver_lazy a0) b same drawn = cc
looks_draw a (sliver_lazy b0) same drawn = cc
looks_draw a b same drawn = refl

pub counts_alike : (l : Look) (vs ws : List PlainWidget) → has_own_children (build_role_of l) ≡ true → lazy_count (render_role_of l) vs ≡ lazy_count (render_role_of l) ws
counts_alike (sliver_lazy extent) vs ws own = cc
counts_alike l vs ws own = refl

-- Widgets of one type are drawn alike.
use Rattle.std.proofs.Common.{◌≡◌, ℕ, Bool, refl}
use Rattle.widget_model.specs.Look.{Look, flexible, positioned, viewport, keep, inherit, component}
use Rattle.widget_model.specs.Plain.{PlainWidget, look_of}
use Rattle.widget_model.specs.Update.{IsSameType}
use Rattle.widget_model.specs.WidgetType.{type_of}
use Rattle.plain_tree.specs.Projection.{scroll_in}
use Rattle.plain_tree.specs.RenderRole.{render_role_of, vanishes}

looks_vanish : (a b : Look) → type_of a ≡ type_of b → vanishes (render_role_of a) ≡ vanishes (render_role_of b)
looks_vanish (flexible a0 a1) (flexible b0 b1) same = refl
looks_vanish (positioned a0 a1 a2 a3 a4 a5) (positioned b0 b1 b2 b3 b4 b5) same = refl
looks_vanish (keep a0) (keep b0) same = refl
looks_vanish (inherit a0 a1) (inherit b0 b1) same = refl
looks_vanish (component a0 a1 a2) (component b0 b1 b2) same = refl
looks_vanish (flexible a0 a1) b same = cc
looks_vanish a (flexible b0 b1) same = cc
looks_vanish (positioned a0 a1 a2 a3 a4 a5) b same = cc
looks_vanish a (positioned b0 b1 b2 b3 b4 b5) same = cc
looks_vanish (keep a0) b same = cc
looks_vanish a (keep b0) same = cc
looks_vanish (inherit a0 a1) b same = cc
looks_vanish a (inherit b0 b1) same = cc
looks_vanish (component a0 a1 a2) b same = cc
looks_vanish a (component b0 b1 b2) same = cc
looks_vanish a b same = refl

looks_scroll : (a b : Look) (scroll : ℕ) → type_of a ≡ type_of b → scroll_in (render_role_of a) scroll ≡ scroll_in (render_role_of b) scroll
looks_scroll (viewport a0) (viewport b0) scroll same = refl
looks_scroll (viewport a0) b scroll same = cc
looks_scroll a (viewport b0) scroll same = cc
looks_scroll a b scroll same = refl

pub vanish_alike : (a b : PlainWidget) → IsSameType a b → vanishes (render_role_of (look_of a)) ≡ vanishes (render_role_of (look_of b))
vanish_alike a b same = looks_vanish (look_of a) (look_of b) same

pub scroll_alike : (a b : PlainWidget) (scroll : ℕ) → IsSameType a b → scroll_in (render_role_of (look_of a)) scroll ≡ scroll_in (render_role_of (look_of b)) scroll
scroll_alike a b scroll same = looks_scroll (look_of a) (look_of b) scroll same

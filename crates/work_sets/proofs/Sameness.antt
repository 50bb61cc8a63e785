-- The tests of sameness tell whether two values are equal.
use Rattle.std.proofs.Common.{◌≡◌, Bool, true, false, ◌&&◌, refl, sym, ap, ◌∙◌, Decides}
use Rattle.std.specs.Cmp.{unsigned_Decides}
use Rattle.std.specs.Cmp.Lexicographic.{pointwise_decides}
use base.Stored.{Gv, gnil, gnum, gcons, Coded}
use lib.Pointwise.{pointwise}
use Rattle.fx_expr.specs.Value.{value_eq}
use Rattle.fx_expr.specs.ValueLaws.{value_eq-Decides}
use Rattle.widget_model.specs.Look.{Look}
use Rattle.widget_model.specs.Plain.{PlainWidget, plain, Widgets, no_widgets, more}
use Rattle.widget_model.specs.UpdateLaws.{key_eq-Decides, type_eq-Decides}
use Rattle.widget_model.specs.WidgetType.{type_of, type_eq}
use Rattle.work_sets.specs.Members.{coded_callback, members_of, callbacks_of, is_same_look, is_same_widget, are_same_widgets}
use Rattle.work_sets.specs.Same.{code_eq, is_same}

pub both : (a b : Bool) → (a && b) ≡ true → (a ≡ true) × (b ≡ true)
both true b e = (refl, e)
both false b e = cc

pub both_true : (a b : Bool) → a ≡ true → b ≡ true → (a && b) ≡ true
both_true true b e f = f
both_true false b e f = cc

code_tells : (a b : Gv) → code_eq a b ≡ true → a ≡ b
code_tells gnil gnil e = refl
code_tells gnil (gnum n) e = cc
code_tells gnil (gcons c d) e = cc
code_tells (gnum m) gnil e = cc
code_tells (gnum m) (gnum n) e = ap gnum ((unsigned_Decides m n).0 e)
code_tells (gnum m) (gcons c d) e = cc
code_tells (gcons a b) gnil e = cc
code_tells (gcons a b) (gnum n) e = cc
code_tells (gcons a b) (gcons c d) e =
    let h = both (code_eq a c) (code_eq b d) e in
    λ i. gcons (code_tells a c h.0 i) (code_tells b d h.1 i)

code_same : (a : Gv) → code_eq a a ≡ true
code_same gnil = refl
code_same (gnum n) = (unsigned_Decides n n).1 refl
code_same (gcons a b) = both_true (code_eq a a) (code_eq b b) (code_same a) (code_same b)

pub is_same-Decides : {A : Type 0} (c : Coded A) (x y : A) → Decides (is_same c x y) (x ≡ y)
is_same-Decides c x y =
    (λ e. c.inj x y (code_tells (c.code x) (c.code y) e), λ e. ap (λ z. code_eq (c.code x) (c.code z)) (sym e) ∙ code_same (c.code x))

pub look_same : (a : Look) → is_same_look a a ≡ true
look_same a =
    both_true (type_eq (type_of a) (type_of a)) _ ((type_eq-Decides (type_of a) (type_of a)).1 refl)
    (both_true (pointwise value_eq (members_of a) (members_of a)) _
    ((pointwise_decides value_eq-Decides (members_of a) (members_of a)).1 refl)
    ((pointwise_decides (is_same-Decides coded_callback) (callbacks_of a) (callbacks_of a)).1 refl))

mutual
  pub widget_same : (w : PlainWidget) → is_same_widget w w ≡ true
  widget_same (plain a k slots children) =
      both_true (is_same_look a a) _ (look_same a)
      (both_true _ _ ((key_eq-Decides k k).1 refl)
      (both_true (are_same_widgets slots slots) (are_same_widgets children children) (widgets_same slots) (widgets_same children)))

  pub widgets_same : (ws : Widgets) → are_same_widgets ws ws ≡ true
  widgets_same no_widgets = refl
  widgets_same (more w ws) = both_true (is_same_widget w w) (are_same_widgets ws ws) (widget_same w) (widgets_same ws)

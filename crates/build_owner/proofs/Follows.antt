-- Which fields a typed widget declares, and which widgets may follow one another.
use Rattle.std.proofs.Common.{◌≡◌, ℕ, List, map, refl, sym, ap, ◌∙◌}
use Rattle.fx_expr.specs.declared.values.Ty.{Ty}
use Rattle.fx_expr.specs.declared.values.Value.{Value}
use Rattle.fx_expr.specs.Value.{type_of}
use Rattle.widget_model.specs.Look.{Look, component}
use Rattle.widget_model.specs.Plain.{PlainWidget, plain, look_of}
use Rattle.widget_model.specs.Typed.{Sort, Declarations, FitSlots, sorts_of, IsTypedWidget}
use Rattle.widget_model.specs.Update.{CanUpdate}
use Rattle.widget_model.specs.WidgetType.{type_of as type_of_look}
use Rattle.template_build.specs.Scene.{declaration_in, declaration_at}
use Rattle.build_form.specs.BuildRole.{build_role_of}
use Rattle.build_form.specs.WellBuilt.{FitFields}
use Rattle.element_tree.specs.Fields.{declared, AreDeclared, CanFollow}

-- kinds of one type declare the same fields over a program
declared_alike : (d : Declarations) (a b : Look) (ss ts : List Sort) → type_of_look a ≡ type_of_look b → FitSlots d a ss → FitSlots d b ts → declared b ≡ declared a
declared_alike d (component p v x) (component q u y) ss ts same of_a of_b =
    let place : p ≡ q = cc in
    ap (λ z. z.fields) (of_b.declared ∙ sym (ap declaration_in of_b.named) ∙ ap (declaration_at d) (sym place) ∙ ap declaration_in of_a.named ∙ sym of_a.declared)
declared_alike d (component p v x) b ss ts same of_a of_b = cc
declared_alike d a (component q u y) ss ts same of_a of_b = cc
declared_alike d a b ss ts same of_a of_b = refl

pub can_follow : (d : Declarations) (a b : PlainWidget) → CanUpdate a b → IsTypedWidget d a → IsTypedWidget d b → CanFollow a b
can_follow d (plain l k slots children) (plain m j others below) updates of_a of_b = record {
  updates = updates;
  fields = declared_alike d l m (sorts_of d slots) (sorts_of d others) updates.type of_a.filled of_b.filled;
}

pub follows_itself : (w : PlainWidget) → CanFollow w w
follows_itself w = record { updates = record { type = refl; key = refl }; fields = refl }

-- fields that fit are those that are declared
fit_declared : (d : Declarations) (look : Look) (ss : List Sort) (fields : List Value) → FitSlots d look ss → FitFields d (build_role_of look) fields
    → map type_of fields ≡ map (λ (x : List ℕ × Ty). x.1) (declared look)
fit_declared d (component place props decl) ss fields filled fit = fit ∙ ap (λ z. map (λ (x : List ℕ × Ty). x.1) z.fields) (ap declaration_in filled.named ∙ sym filled.declared)
fit_declared d _ ss fields filled fit = ap (map type_of) fit

pub are_declared : (d : Declarations) (w : PlainWidget) (fields : List Value) → IsTypedWidget d w → FitFields d (build_role_of (look_of w)) fields → AreDeclared w fields
are_declared d (plain look k slots children) fields typed fit = fit_declared d look (sorts_of d slots) fields typed.filled fit

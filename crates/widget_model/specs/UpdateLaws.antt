-- Laws of updates, for this crate and the proofs of those above it: the tests of types, of keys and of updates are what they say.
use Rattle.std.proofs.Common.{◌≡◌, ◌↔◌, IsTrue, Bool, true, false, ◌&&◌, refl, sym, ap, ◌∙◌, Decides}
use Rattle.std.proofs.lemmas.Bool.{false≢true}
use Rattle.std.specs.Cmp.{unsigned_Decides}
use Rattle.fx_expr.specs.declared.values.Value.{Value}
use Rattle.fx_expr.specs.ValueLaws.{value_eq-Decides}
use Rattle.widget_keys.specs.declared.keys.Key.{Key}
use Rattle.widget_keys.specs.declared.keys.Key.TheVariants as key
use Rattle.widget_model.specs.declared.types.WidgetType.{WidgetType}
use Rattle.widget_model.specs.declared.types.WidgetType.TheVariants as type
use Rattle.widget_model.specs.WidgetType.{type_of, type_eq}
use Rattle.widget_model.specs.Plain.{PlainWidget, look_of, key_of}
use Rattle.widget_model.specs.Update.{key_eq, same_type, updates, CanUpdate}

-- the test of two keys tells whether they are equal
pub key_eq-Decides : (k j : Key Value) → Decides (key_eq k j) (k ≡ j)
key_eq-Decides key.None key.None = (λ e. refl, λ e. refl)
key_eq-Decides (key.Local v) (key.Local w) = let d = value_eq-Decides v w in (λ e. ap key.Local (d.0 e), λ e. d.1 (cc))
key_eq-Decides (key.Global v) (key.Global w) = let d = value_eq-Decides v w in (λ e. ap key.Global (d.0 e), λ e. d.1 (cc))
key_eq-Decides _ _ = (λ e. cc, λ e. cc)

-- a type is the same as itself
type_eq-same : (s : WidgetType) → type_eq s s ≡ true
type_eq-same (type.Inherit n) = (unsigned_Decides n n).1 refl
type_eq-same (type.Use n) = (unsigned_Decides n n).1 refl
type_eq-same _ = refl

-- types of which the test is true are equal
type_eq-tells : (s t : WidgetType) → type_eq s t ≡ true → s ≡ t
type_eq-tells type.SizedBox type.SizedBox e = refl
type_eq-tells type.ConstrainedBox type.ConstrainedBox e = refl
type_eq-tells type.Padding type.Padding e = refl
type_eq-tells type.Align type.Align e = refl
type_eq-tells type.ColoredBox type.ColoredBox e = refl
type_eq-tells type.Text type.Text e = refl
type_eq-tells type.Row type.Row e = refl
type_eq-tells type.Column type.Column e = refl
type_eq-tells type.Wrap type.Wrap e = refl
type_eq-tells type.Table type.Table e = refl
type_eq-tells type.Stack type.Stack e = refl
type_eq-tells type.Flexible type.Flexible e = refl
type_eq-tells type.Positioned type.Positioned e = refl
type_eq-tells type.Opacity type.Opacity e = refl
type_eq-tells type.ClipRect type.ClipRect e = refl
type_eq-tells type.RepaintBoundary type.RepaintBoundary e = refl
type_eq-tells type.MergeSemantics type.MergeSemantics e = refl
type_eq-tells type.IntrinsicWidth type.IntrinsicWidth e = refl
type_eq-tells type.IntrinsicHeight type.IntrinsicHeight e = refl
type_eq-tells type.Offstage type.Offstage e = refl
type_eq-tells type.IgnorePointer type.IgnorePointer e = refl
type_eq-tells type.AbsorbPointer type.AbsorbPointer e = refl
type_eq-tells type.Detector type.Detector e = refl
type_eq-tells type.Semantics type.Semantics e = refl
type_eq-tells type.ExcludeSemantics type.ExcludeSemantics e = refl
type_eq-tells type.CustomPaint type.CustomPaint e = refl
type_eq-tells type.CustomLayout type.CustomLayout e = refl
type_eq-tells type.Viewport type.Viewport e = refl
type_eq-tells type.SliverToBox type.SliverToBox e = refl
type_eq-tells type.SliverPadding type.SliverPadding e = refl
type_eq-tells type.SliverFixed type.SliverFixed e = refl
type_eq-tells type.SliverLazy type.SliverLazy e = refl
type_eq-tells type.Keep type.Keep e = refl
type_eq-tells (type.Inherit m) (type.Inherit n) e = ap type.Inherit ((unsigned_Decides m n).0 e)
type_eq-tells (type.Use m) (type.Use n) e = ap type.Use ((unsigned_Decides m n).0 e)
type_eq-tells _ _ e = absurd (false≢true e)

-- the test of two types tells whether they are equal
pub type_eq-Decides : (s t : WidgetType) → Decides (type_eq s t) (s ≡ t)
type_eq-Decides s t = (type_eq-tells s t, λ e. sym (ap (type_eq s) e) ∙ type_eq-same s)

both_true : (x y : Bool) → IsTrue (x && y) → IsTrue x × IsTrue y
both_true true y h = (refl, h)
both_true false y h = cc

true_both : (x y : Bool) → IsTrue x → IsTrue y → IsTrue (x && y)
true_both true y h k = k
true_both false y h k = cc

-- the test whether a widget may take another's place tells whether their types and keys are equal
pub updates_mean : (a b : PlainWidget) → IsTrue (updates a b) ↔ CanUpdate a b
updates_mean a b =
    let types = type_eq-Decides (type_of (look_of a)) (type_of (look_of b)) in
    let keys = key_eq-Decides (key_of a) (key_of b) in (
      λ h. let both = both_true (same_type a b) (key_eq (key_of a) (key_of b)) h in record { type = types.0 both.0; key = keys.0 both.1 },
      λ c. true_both (same_type a b) (key_eq (key_of a) (key_of b)) (types.1 c.type) (keys.1 c.key),
    )

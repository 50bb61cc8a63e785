-- The derived test of types is equality.
use Rattle.std.proofs.Common.{◌≡◌, ◌↔◌, IsTrue, Bool, refl, sym, ◌∙◌, rules}
use Rattle.widget_model.specs.contracts.types.WidgetTypePartialEq.TheImpl.{ghosts}
use Rattle.widget_model.specs.declared.types.WidgetType.{WidgetType}
use Rattle.widget_model.specs.declared.types.WidgetType.TheVariants as type
use Rattle.widget_model.specs.WidgetType.{type_eq}
use Rattle.widget_model.specs.UpdateLaws.{type_eq-Decides}

-- the derived `==` of types is that test
pub type_tests : (s t : WidgetType) → (ghosts).eq s t ≡ type_eq s t
type_tests type.SizedBox type.SizedBox = refl
type_tests type.ConstrainedBox type.ConstrainedBox = refl
type_tests type.Padding type.Padding = refl
type_tests type.Align type.Align = refl
type_tests type.ColoredBox type.ColoredBox = refl
type_tests type.Text type.Text = refl
type_tests type.Row type.Row = refl
type_tests type.Column type.Column = refl
type_tests type.Wrap type.Wrap = refl
type_tests type.Table type.Table = refl
type_tests type.Stack type.Stack = refl
type_tests type.Flexible type.Flexible = refl
type_tests type.Positioned type.Positioned = refl
type_tests type.Opacity type.Opacity = refl
type_tests type.ClipRect type.ClipRect = refl
type_tests type.RepaintBoundary type.RepaintBoundary = refl
type_tests type.MergeSemantics type.MergeSemantics = refl
type_tests type.IntrinsicWidth type.IntrinsicWidth = refl
type_tests type.IntrinsicHeight type.IntrinsicHeight = refl
type_tests type.Offstage type.Offstage = refl
type_tests type.IgnorePointer type.IgnorePointer = refl
type_tests type.AbsorbPointer type.AbsorbPointer = refl
type_tests type.Detector type.Detector = refl
type_tests type.Semantics type.Semantics = refl
type_tests type.ExcludeSemantics type.ExcludeSemantics = refl
type_tests type.CustomPaint type.CustomPaint = refl
type_tests type.CustomLayout type.CustomLayout = refl
type_tests type.Viewport type.Viewport = refl
type_tests type.SliverToBox type.SliverToBox = refl
type_tests type.SliverPadding type.SliverPadding = refl
type_tests type.SliverFixed type.SliverFixed = refl
type_tests type.SliverLazy type.SliverLazy = refl
type_tests type.Keep type.Keep = refl
type_tests (type.Inherit m) (type.Inherit n) = search rules
type_tests (type.Use m) (type.Use n) = search rules
type_tests _ _ = refl

-- a result of the derived `==` on the types of two things
pub result_tests : (r : Bool) (s t u v : WidgetType) → r ≡ (ghosts).eq s t → s ≡ u → t ≡ v → r ≡ type_eq u v
result_tests r s t u v is is_s is_t = is ∙ type_tests s t ∙ (λ i. type_eq (is_s i) (is_t i))

pub result_means : (r : Bool) (u v : WidgetType) → r ≡ type_eq u v → IsTrue r ↔ (u ≡ v)
result_means r u v is = let d = type_eq-Decides u v in (λ t. d.0 (sym is ∙ t), λ same. is ∙ d.1 same)

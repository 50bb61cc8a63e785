-- What the laws of layout say.
use Rattle.std.specs.Prelude.{◌≡◌, ℕ, ◌≤◌, ◌⊎◌, Bool, false, Option, List, [], ◌∷◌}
use Rattle.fx_expr.specs.declared.handlers.Handler.{Handler}
use Rattle.fx_geom.specs.declared.boxes.Bounds.{Bounds}
use Rattle.widget_model.specs.declared.words.Behavior.{Behavior}
use Rattle.widget_model.specs.Look.{Look, colored_box, opacity, clip_rect, repaint_boundary, merge_semantics, offstage, ignore_pointer, absorb_pointer, detector, semantics, exclude_semantics}
use Rattle.plain_tree.specs.declared.laid.Frame.{Frame}
use Rattle.plain_tree.specs.declared.laid.Frame.TheVariants.{Boxed, Sliver}
use Rattle.plain_tree.specs.Render.{Render, render, Renders, no_renders, more_renders}
use Rattle.plain_tree.specs.Laid.{Laid, laid, Laids, no_laids, more_laids, Stood}
use Rattle.layout_form.specs.Object.{Setting, Object, facts_of, only_of}
use Rattle.layout_form.specs.Single.{single, proxy}
use Rattle.layout_form.specs.Layout.{box_rule}

-- a laid node is that render node: it has its number and its kind, stands scrolled at most as far as it, and its laid
-- children are children of it, in their order, some of which may be left out
abbrev mutual
  pub Lays : Render → Laid → Type 0
  Lays (render number look parent_data scroll count children) (laid n l facts laids) =
      (n ≡ number) × (l ≡ look) × (facts.scrolled ≤ scroll) × LaysSome children laids

  pub LaysSome : Renders → Laids → Type 0
  LaysSome no_renders no_laids = Unit {0}
  LaysSome no_renders (more_laids at l ls) = ⊥
  LaysSome (more_renders r rs) no_laids = Unit {0}
  LaysSome (more_renders r rs) (more_laids at l ls) = (Lays r l × LaysSome rs ls) ⊎ LaysSome rs (more_laids at l ls)

-- a frame is that of a box in these bounds
abbrev pub IsBoxIn : Bounds → Frame → Type 0
IsBoxIn b (Boxed bounds size) = bounds ≡ b
IsBoxIn b (Sliver bounds geometry) = ⊥

-- all laid children were laid out as boxes in these bounds
abbrev pub AllBoxesIn : Bounds → List Stood → Type 0
AllBoxesIn b [] = Unit {0}
AllBoxesIn b (c ∷ cs) = IsBoxIn b (facts_of c.child).frame × AllBoxesIn b cs

-- a kind is a proxy: its child gets the same bounds, gives the size, and stands where it stands
abbrev pub IsProxy : Setting → Look → Type 0
IsProxy s look = (scroll : ℕ) (b : Bounds) (cs : List Object) → box_rule s look scroll b cs ≡ single (proxy b) (only_of cs)

pub record Proxies (s : Setting) : Type 0 where
  pub colored_box : (color : ℕ) → IsProxy s (colored_box color)
  pub opacity : (alpha : ℕ) → IsProxy s (opacity alpha)
  pub clip_rect : IsProxy s clip_rect
  pub repaint_boundary : IsProxy s repaint_boundary
  pub ignore_pointer : (ignoring : Bool) → IsProxy s (ignore_pointer ignoring)
  pub absorb_pointer : (absorbing : Bool) → IsProxy s (absorb_pointer absorbing)
  pub detector : (behavior : Behavior) (tap long vertical horizontal pan : Option Handler) → IsProxy s (detector behavior tap long vertical horizontal pan)
  pub semantics : (label : List ℕ) (button container : Bool) → IsProxy s (semantics label button container)
  pub merge_semantics : IsProxy s merge_semantics
  pub exclude_semantics : (excluding : Bool) → IsProxy s (exclude_semantics excluding)
  pub onstage : IsProxy s (offstage false)

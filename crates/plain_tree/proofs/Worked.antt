-- The definitions at small trees, worked by hand.
use Rattle.std.proofs.Common.{◌≡◌, ℕ, true, false, Option, Some, None, List, [], ◌∷◌, pos, refl}
use Rattle.fx_geom.specs.declared.words.MainAlign.TheVariants as main
use Rattle.fx_geom.specs.declared.words.CrossAlign.TheVariants as cross
use Rattle.fx_geom.specs.declared.words.StackFit.TheVariants as fit
use Rattle.fx_geom.specs.declared.words.Placed.{Placed}
use Rattle.fx_geom.specs.declared.shapes.Axis.TheVariants as axis
use Rattle.fx_expr.specs.declared.values.Value.TheVariants as value
use Rattle.fx_expr.specs.declared.values.Ty.TheVariants as ty
use Rattle.widget_keys.specs.declared.keys.Key.TheVariants as key
use Rattle.widget_model.specs.declared.decl.Decl.{Decl}
use Rattle.widget_model.specs.declared.words.FlexFit.TheVariants as flex_fit
use Rattle.widget_model.specs.declared.words.MainSize.TheVariants as main_size
use Rattle.widget_model.specs.Look.{Look, clip_rect, row, stack, flexible, positioned, viewport, sliver_lazy, keep, component}
use Rattle.widget_model.specs.Plain.{PlainWidget, plain, no_widgets, widgets_of}
use Rattle.plain_tree.specs.declared.render.ParentData.{ParentData}
use Rattle.plain_tree.specs.PlainNode.{PlainNode, node, nodes_of}
use Rattle.plain_tree.specs.Render.{Render, render, renders_of}
use Rattle.plain_tree.specs.Projection.{projected, render_of}
use Rattle.plain_tree.specs.At.{numbers_of, node_at, changed_at, having_fields, having_scroll}
use Rattle.plain_tree.specs.States.{holding, scrolled, states_of}

abbrev widget : Look → List PlainWidget → PlainWidget
widget look children = plain look key.None no_widgets (widgets_of children)

-- a node whose widget shows no children, without fields, not scrolled
abbrev of : ℕ → Look → ℕ → List PlainNode → PlainNode
of number look index children = node number (widget look []) [] 0 index (nodes_of children)

abbrev line : Look
line = row main.Start cross.Center main_size.Max

abbrev pile : Look
pile = stack (pos 0) (pos 0) fit.Loose

abbrev at_left : Option Placed
at_left = Some (record { left = Some (pos 5); top = None; right = None; bottom = None; width = None; height = None })

abbrev to_the_left : Look
to_the_left = positioned (Some (pos 5)) None None None None None

abbrev told : ℕ → Option Placed → ℕ → ParentData
told flex placed index = record { flex = flex; tight = false; placed = placed; index = index }

abbrev shown : ℕ → Look → ParentData → List Render → Render
shown number look d below = render number look d 0 0 (renders_of below)

-- what vanishes, what it tells to whom, and which of two counts
pub record Projects : Type 0 where
  pub nearest : render_of (of 1 line 0 (of 2 (flexible 2 flex_fit.Loose) 0 (of 3 (flexible 7 flex_fit.Loose) 0 (of 4 clip_rect 0 [] ∷ []) ∷ []) ∷ []))
      ≡ shown 1 line (told 0 None 0) (shown 4 clip_rect (told 7 None 0) [] ∷ []) ∷ []
  pub unheard : render_of (of 1 line 0 (of 2 to_the_left 0 (of 3 clip_rect 0 [] ∷ []) ∷ [])) ≡ shown 1 line (told 0 None 0) (shown 3 clip_rect (told 0 None 0) [] ∷ []) ∷ []
  pub heard : render_of (of 1 pile 0 (of 2 to_the_left 0 (of 3 clip_rect 0 [] ∷ []) ∷ [])) ≡ shown 1 pile (told 0 None 0) (shown 3 clip_rect (told 0 at_left 0) [] ∷ []) ∷ []
  pub between : render_of (of 1 line 0 (of 2 clip_rect 0 (of 3 (flexible 7 flex_fit.Loose) 0 (of 4 clip_rect 0 [] ∷ []) ∷ []) ∷ []))
      ≡ shown 1 line (told 0 None 0) (shown 2 clip_rect (told 0 None 0) (shown 4 clip_rect (told 0 None 0) [] ∷ []) ∷ []) ∷ []
  pub item : render_of (of 1 (sliver_lazy 64) 0 (of 2 (keep true) 3 (of 4 clip_rect 0 (of 5 clip_rect 1 [] ∷ []) ∷ []) ∷ []))
      ≡ shown 1 (sliver_lazy 64) (told 0 None 0) (shown 4 clip_rect (told 0 None 3) (shown 5 clip_rect (told 0 None 0) [] ∷ []) ∷ []) ∷ []
  pub at_root : render_of (of 1 (flexible 7 flex_fit.Loose) 0 (of 2 clip_rect 0 [] ∷ [])) ≡ shown 2 clip_rect (told 0 None 0) [] ∷ []
  pub count : render_of (node 1 (widget (sliver_lazy 64) (widget clip_rect [] ∷ widget clip_rect [] ∷ [])) [] 0 0 (nodes_of []))
      ≡ render 1 (sliver_lazy 64) (told 0 None 0) 0 2 (renders_of []) ∷ []
  pub view : render_of (node 1 (widget (viewport axis.Vertical) []) [] 40 0 (nodes_of [])) ≡ render 1 (viewport axis.Vertical) (told 0 None 0) 40 0 (renders_of []) ∷ []

projects_worked : Projects
unfolding projected
projects_worked = record { nearest = refl; unheard = refl; heard = refl; between = refl; item = refl; at_root = refl; count = refl; view = refl }

-- a counter with one field over a scrolled view
abbrev counter : Decl
counter = record { name = 67 ∷ []; fields = (110 ∷ [], ty.Int) ∷ []; inherited = [] }

abbrev scene : PlainNode
scene = node 1 (widget (component 0 [] counter) []) (value.Int (pos 3) ∷ []) 0 0 (nodes_of (node 2 (widget (viewport axis.Vertical) []) [] 40 0 (nodes_of (of 3 clip_rect 0 [] ∷ [])) ∷ []))

pub record Reads : Type 0 where
  pub numbers : numbers_of scene ≡ 1 ∷ 2 ∷ 3 ∷ []
  pub states : states_of scene ≡ holding 1 counter (value.Int (pos 3) ∷ []) ∷ scrolled 2 40 ∷ []
  pub found : node_at 3 scene ≡ Some (of 3 clip_rect 0 [])
  pub missing : node_at 4 scene ≡ None
  pub counted : states_of (changed_at (having_fields (value.Int (pos 4) ∷ [])) 1 scene) ≡ holding 1 counter (value.Int (pos 4) ∷ []) ∷ scrolled 2 40 ∷ []
  pub moved : states_of (changed_at (having_scroll 7) 2 scene) ≡ holding 1 counter (value.Int (pos 3) ∷ []) ∷ scrolled 2 7 ∷ []

reads_worked : Reads
reads_worked = record { numbers = refl; states = refl; found = refl; missing = refl; counted = refl; moved = refl }

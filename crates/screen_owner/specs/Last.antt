-- What a build finds of the render nodes of the last frame, by their numbers.
use Rattle.std.specs.Prelude.{◌≡◌, ℕ, ◌==◌, Option, Some, None, option_and_then, if◌then◌else◌}
use Rattle.std.specs.Option.{option_or}
use Rattle.widget_model.specs.Look.{Look}
use Rattle.work_roles.specs.WorkRole.{is_repaint_boundary}
use Rattle.plain_tree.specs.Offsets.{of_window}
use Rattle.plain_tree.specs.Render.{Render, render, Renders, no_renders, more_renders}
use Rattle.plain_tree.specs.RenderRole.{render_role_of}

-- the kind of a render node, and how far it is scrolled
pub record LastNode : Type 0 where
  pub look : Look
  pub scroll : ℕ

-- the first render node in preorder with a number
abbrev mutual
  pub drawn_at : ℕ → Render → Option LastNode
  drawn_at wanted (render number look told scroll count children) =
      if number == wanted then Some (record { look = look; scroll = scroll }) else drawn_in wanted children

  pub drawn_in : ℕ → Renders → Option LastNode
  drawn_in wanted no_renders = None
  drawn_in wanted (more_renders r rs) = option_or (drawn_at wanted r) (drawn_in wanted rs)

-- how far the Viewport with a number is scrolled, if there is one
abbrev pub window_in : ℕ → Renders → Option ℕ
window_in wanted rs = option_and_then (λ (d : LastNode). of_window (render_role_of d.look) d.scroll) (drawn_in wanted rs)

-- a render node of a build goes on from the one with its number: it is scrolled as that, and a RepaintBoundary exactly where that is one;
-- where there is none it isn't scrolled
pub record GoesOnFrom (last : Renders) (number : ℕ) (look : Look) (scroll : ℕ) : Type 0 where
  pub was : (d : LastNode) → drawn_in number last ≡ Some d → (d.scroll ≡ scroll) × (is_repaint_boundary d.look ≡ is_repaint_boundary look)
  pub new : drawn_in number last ≡ None → scroll ≡ 0

-- and so does each render node of a build
abbrev mutual
  pub GoOn : Renders → Render → Type 0
  GoOn last (render number look told scroll count children) = GoesOnFrom last number look scroll × AllGoOn last children

  pub AllGoOn : Renders → Renders → Type 0
  AllGoOn last no_renders = Unit {0}
  AllGoOn last (more_renders r rs) = GoOn last r × AllGoOn last rs

-- an offset for one number
abbrev pub only_at : ℕ → ℕ → ℕ → Option ℕ
only_at number scroll wanted = if wanted == number then Some scroll else None

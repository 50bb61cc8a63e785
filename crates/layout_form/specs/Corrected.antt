-- Render trees with the offsets that there are for their Viewports, as trees of widgets get them after a layout.
use Rattle.std.specs.Prelude.{ℕ, Option}
use Rattle.plain_tree.specs.Laid.{Laid}
use Rattle.plain_tree.specs.Offsets.{offset_at, rescrolled}
use Rattle.plain_tree.specs.Render.{Render, render, Renders, no_renders, more_renders}
use Rattle.plain_tree.specs.RenderRole.{render_role_of}

-- a Viewport for whose number there is an offset stands there; any other node stands where it stood
abbrev mutual
  pub render_scrolled_by : (ℕ → Option ℕ) → Render → Render
  render_scrolled_by offset (render number look told scroll count children) =
      render number look told (rescrolled (render_role_of look) (offset number) scroll) count (renders_scrolled_by offset children)

  pub renders_scrolled_by : (ℕ → Option ℕ) → Renders → Renders
  renders_scrolled_by offset no_renders = no_renders
  renders_scrolled_by offset (more_renders r rs) = more_renders (render_scrolled_by offset r) (renders_scrolled_by offset rs)

-- a render tree with the offsets that a layout gives
abbrev pub corrected_render : Laid → Render → Render
corrected_render l r = render_scrolled_by (λ number. offset_at number l) r

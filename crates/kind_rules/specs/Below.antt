-- How far a sliver can be scrolled through, by the box at the end of a chain of slivers: no sliver is laid out to be measured.
use Rattle.std.specs.Prelude.{ℕ, ◌+◌, ◌-◌, ◌*◌, Option, Some, None, length}
use Rattle.fx_geom.specs.declared.boxes.Bounds.{Bounds}
use Rattle.fx_geom.specs.declared.shapes.Axis.{Axis}
use Rattle.fx_geom.specs.Insets.{other_of, extent_of, before, after, along}
use Rattle.fx_geom.specs.Len.{stopped}
use Rattle.widget_model.specs.Look.{Look, sliver_to_box, sliver_padding, sliver_fixed, sliver_lazy}
use Rattle.plain_tree.specs.Laid.{Laid}
use Rattle.plain_tree.specs.Render.{Render, render, Renders, no_renders, more_renders, list_of}
use Rattle.layout_form.specs.Object.{Setting, size_in}
use Rattle.layout_form.specs.Single.{insets_of}
use Rattle.layout_form.specs.SliverRule.{unseen, box_bounds}
use Rattle.layout_form.specs.Layout.{object}
use Rattle.kind_rules.specs.declared.measuring.Holding.{Holding}
use Rattle.kind_rules.specs.declared.measuring.Holding.TheVariants.{Box, Sliver, Neither}

-- a box, and the bounds in which it is laid out
pub record BoxBelow : Type 0 where
  pub box : Render
  pub bounds : Bounds

abbrev pub boxed : Render → Bounds → BoxBelow
boxed r b = record { box = r; bounds = b }

-- what a sliver has below it
abbrev pub holding_of : Look → Axis → ℕ → Holding
holding_of sliver_to_box axis cross = Box (box_bounds (unseen axis cross))
holding_of (sliver_padding left top right bottom) axis cross = Sliver (cross - along (insets_of left top right bottom) (other_of axis))
holding_of look axis cross = Neither

abbrev pub box_held : Holding → (ℕ → Option BoxBelow) → Render → Option BoxBelow
box_held (Box bounds) further r = Some (boxed r bounds)
box_held (Sliver cross) further r = further cross
box_held Neither further r = None

-- the box at the end of a chain of slivers, whatever is seen of them: the child of a SliverToBox, that may stand below
-- SliverPaddings
abbrev mutual
  pub box_below : Axis → ℕ → Render → Option BoxBelow
  box_below axis cross (render number look told scroll count children) = box_in look axis cross children

  pub box_in : Look → Axis → ℕ → Renders → Option BoxBelow
  box_in look axis cross no_renders = None
  box_in look axis cross (more_renders r rs) = box_held (holding_of look axis cross) (λ c. box_below axis c r) r

-- how far a sliver can be scrolled through, where the box at its end has this extent
abbrev mutual
  pub scroll_by : Axis → ℕ → Render → ℕ
  scroll_by axis extent (render number look told scroll count children) = scroll_in look axis extent count children

  pub scroll_in : Look → Axis → ℕ → ℕ → Renders → ℕ
  scroll_in sliver_to_box axis extent count no_renders = 0
  scroll_in sliver_to_box axis extent count (more_renders r rs) = extent
  scroll_in (sliver_padding left top right bottom) axis extent count no_renders =
      let i = insets_of left top right bottom in stopped (before i axis + after i axis)
  scroll_in (sliver_padding left top right bottom) axis extent count (more_renders r rs) =
      let i = insets_of left top right bottom in stopped (before i axis + after i axis + scroll_by axis extent r)
  scroll_in (sliver_fixed size) axis extent count children = stopped (length (list_of children) * size)
  scroll_in (sliver_lazy size) axis extent count children = stopped (count * size)
  scroll_in look axis extent count children = 0

-- that box, laid out
abbrev pub laid_at : Setting → Option BoxBelow → Option Laid
laid_at s None = None
laid_at s (Some below) = Some ((object s below.box).in_bounds below.bounds)

abbrev pub laid_below : Setting → Axis → ℕ → Render → Option Laid
laid_below s axis cross r = laid_at s (box_below axis cross r)

-- its extent, and 0 where there is none
abbrev pub extent_below : Axis → Option Laid → ℕ
extent_below axis None = 0
extent_below axis (Some l) = extent_of (size_in l) axis

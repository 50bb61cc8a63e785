-- How far slivers can be scrolled through, by what is read of them.
use Rattle.std.specs.Prelude.{ℕ, ◌*◌, Option, Some, None}
use Rattle.fx_geom.specs.declared.shapes.Insets.{Insets}
use Rattle.fx_geom.specs.Len.{stopped}
use Rattle.widget_model.specs.Look.{Look, sliver_to_box, sliver_padding, sliver_fixed, sliver_lazy}
use Rattle.layout_form.specs.Single.{insets_of}

-- the insets of a SliverPadding
abbrev pub padding_in : Look → Option Insets
padding_in (sliver_padding left top right bottom) = Some (insets_of left top right bottom)
padding_in _ = None

-- any other sliver, by the extent of its first child, by the number of its children, and by that of its child widgets
abbrev pub alone_extent : Look → ℕ → ℕ → ℕ → ℕ
alone_extent sliver_to_box first items count = first
alone_extent (sliver_fixed extent) first items count = stopped (items * extent)
alone_extent (sliver_lazy extent) first items count = stopped (count * extent)
alone_extent _ first items count = 0

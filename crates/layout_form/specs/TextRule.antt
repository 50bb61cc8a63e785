-- The extents of a Text (RenderParagraph).
use Rattle.std.specs.Prelude.{ℕ, List, [], None}
use Rattle.fx_geom.specs.declared.boxes.Bounds.{Bounds}
use Rattle.fx_geom.specs.declared.lengths.Len.{Len}
use Rattle.fx_geom.specs.declared.shapes.Axis.{Axis}
use Rattle.fx_geom.specs.declared.shapes.Axis.TheVariants.{Horizontal, Vertical}
use Rattle.fx_geom.specs.declared.shapes.Size.{Size}
use Rattle.fx_geom.specs.Bounds.{constrain}
use Rattle.text_cells.specs.Wrapped.{wrapped}
use Rattle.text_cells.specs.Wrapping.{cell_limit, size_of, lines_width}
use Rattle.layout_form.specs.Object.{Done, sized}

-- the size of a text whose lines have room for as many cells as stand in a width
abbrev pub text_size : Size → List ℕ → Len → Size
text_size cell words max_w = size_of (wrapped (cell_limit max_w cell.w) words) cell

abbrev pub text_rule : Size → List ℕ → Bounds → Done
text_rule cell words b = sized (constrain b (text_size cell words b.max_w)) []

-- the extent that a text would like: the width of its widest paragraph, and the height of its lines at a width
abbrev pub text_extent : Size → List ℕ → Axis → Len → ℕ
text_extent cell words Horizontal across = lines_width (wrapped None words) cell.w
text_extent cell words Vertical across = (text_size cell words across).h

-- What a node draws of its own, at its point, before what is below it.
use Rattle.std.specs.Prelude.{ℕ, suc, ◌*◌, pos, ◌&&◌, nat_lt, if◌then◌else◌, Option, List, [], ◌∷◌, ◌++◌, map}
use Rattle.fx_geom.specs.declared.shapes.Offset.{Offset}
use Rattle.fx_geom.specs.declared.shapes.Size.{Size}
use Rattle.fx_geom.specs.Len.{stopped}
use Rattle.fx_geom.specs.Offset.{offset_sum}
use Rattle.text_cells.specs.declared.line.Line.{Line}
use Rattle.text_cells.specs.LineText.{text_of}
use Rattle.text_cells.specs.Wrapped.{wrapped}
use Rattle.text_cells.specs.Wrapping.{cell_limit}
use Rattle.draw_records.specs.declared.record.Record.{Record}
use Rattle.draw_records.specs.declared.record.Record.TheVariants.{Fill, Run}
use Rattle.draw_records.specs.Shifted.{shifted}
use Rattle.delegates.specs.Answers.{records_at}
use Rattle.delegates.specs.Meaning.{Meaning}
use Rattle.delegates.specs.Table.{Plug, meaning_of}
use Rattle.widget_model.specs.Look.{Look, sized_box, constrained_box, padding, align, colored_box, text, row, column, wrap, table, stack, flexible, positioned, opacity, clip_rect, repaint_boundary, merge_semantics, intrinsic_width, intrinsic_height, offstage, ignore_pointer, absorb_pointer, detector, semantics, exclude_semantics, custom_paint, custom_layout, viewport, sliver_to_box, sliver_padding, sliver_fixed, sliver_lazy, keep, inherit, component}
use Rattle.plain_tree.specs.declared.laid.Frame.{Frame}
use Rattle.plain_tree.specs.declared.laid.Frame.TheVariants.{Boxed, Sliver}
use Rattle.plain_tree.specs.Shown.{box_size}

-- ColoredBox: its size, filled with its color, where both sides are positive (_RenderColoredBox.paint)
abbrev pub fill_of : ℕ → Size → Offset → List Record
fill_of color size p =
    if nat_lt 0 size.w && nat_lt 0 size.h then Fill (record { at = p; size = size }) color ∷ [] else []

-- Text (RenderParagraph.paint): line k stands k cells below its point. How far that is is a length, which stops at 2^40
abbrev pub line_place : Size → ℕ → Offset → Offset
line_place cell k p = offset_sum p (record { x = pos 0; y = pos (stopped (k * cell.h)) })

-- a run of what is seen of a line, where that isn't empty
abbrev pub run_of : Offset → ℕ → List ℕ → List Record
run_of at color [] = []
run_of at color (c ∷ cs) = Run at color (c ∷ cs) ∷ []

-- the runs of lines, the first of which is line k
abbrev pub runs_from : Size → List ℕ → ℕ → Offset → ℕ → List Line → List Record
runs_from cell words color p k [] = []
runs_from cell words color p k (line ∷ lines) =
    run_of (line_place cell k p) color (text_of words line) ++ runs_from cell words color p (suc k) lines

-- the lines of a text as it was laid out: they are cut where the greatest width ends that it might take
abbrev pub lines_in : Size → List ℕ → Frame → List Line
lines_in cell words (Boxed bounds size) = wrapped (cell_limit bounds.max_w cell.w) words
lines_in cell words (Sliver bounds geometry) = []

abbrev pub runs_of : Size → List ℕ → ℕ → Frame → Offset → List Record
runs_of cell words color frame p = runs_from cell words color p 0 (lines_in cell words frame)

-- a size whose sides are lengths, which stop at 2^40, as the sides of all laid boxes are
abbrev pub lengths_of : Size → Size
lengths_of s = record { w = stopped s.w; h = stopped s.h }

-- CustomPaint (RenderCustomPaint.paint): what its delegate draws at its size, if one is plugged, moved to its point
abbrev pub drawing_of : Option Meaning → Size → Offset → List Record
drawing_of meaning size p = map (λ r. shifted r p) (records_at meaning (lengths_of size))

-- what a node of each kind draws, where a text cell has this size and the delegates mean this
abbrev pub own_records : Size → List Plug → Look → Frame → Offset → List Record
own_records cell delegates (sized_box width height) frame p = []
own_records cell delegates (constrained_box min_width max_width min_height max_height) frame p = []
own_records cell delegates (padding left top right bottom) frame p = []
own_records cell delegates (align ax ay) frame p = []
own_records cell delegates (colored_box color) frame p = fill_of color (box_size frame) p
own_records cell delegates (text words color) frame p = runs_of cell words color frame p
own_records cell delegates (row main cross size) frame p = []
own_records cell delegates (column main cross size) frame p = []
own_records cell delegates (wrap spacing run_spacing) frame p = []
own_records cell delegates (table widths) frame p = []
own_records cell delegates (stack ax ay fit) frame p = []
own_records cell delegates (flexible flex fit) frame p = []
own_records cell delegates (positioned left top right bottom width height) frame p = []
own_records cell delegates (opacity alpha) frame p = []
own_records cell delegates clip_rect frame p = []
own_records cell delegates repaint_boundary frame p = []
own_records cell delegates merge_semantics frame p = []
own_records cell delegates intrinsic_width frame p = []
own_records cell delegates intrinsic_height frame p = []
own_records cell delegates (offstage hidden) frame p = []
own_records cell delegates (ignore_pointer ignoring) frame p = []
own_records cell delegates (absorb_pointer absorbing) frame p = []
own_records cell delegates (detector behavior tap long vertical horizontal pan) frame p = []
own_records cell delegates (semantics label button container) frame p = []
own_records cell delegates (exclude_semantics excluding) frame p = []
own_records cell delegates (custom_paint delegate) frame p = drawing_of (meaning_of delegates delegate) (box_size frame) p
own_records cell delegates (custom_layout delegate) frame p = []
own_records cell delegates (viewport axis) frame p = []
own_records cell delegates sliver_to_box frame p = []
own_records cell delegates (sliver_padding left top right bottom) frame p = []
own_records cell delegates (sliver_fixed extent) frame p = []
own_records cell delegates (sliver_lazy extent) frame p = []
own_records cell delegates (keep kept) frame p = []
own_records cell delegates (inherit name value) frame p = []
own_records cell delegates (component place props declaration) frame p = []

use Rattle.std.proofs.Common.{◌++◌, [], ◌∷◌, map, zero-add, sym, ap, ◌∙◌}
use Rattle.std.proofs.lemmas.List.FromFn.{map-range_with_len_more}
use Rattle.std.specs.List.{range_with_len}
use Rattle.cell_raster.specs.Cell.{empty}
use Rattle.cell_raster.specs.View.{rows_in}
use Rattle.cell_raster.proofs.Cells.{rows_in_more}
use Rattle.cell_raster.proofs.grid.empty_rows.Goals as goal

pub loop-row-preserved : goal.loop-row-preserved
loop-row-preserved c =
    let row = c.loop-row._row in
    ap rows_in c.in_ok-push.ensures.items ∙ rows_in_more c.loop-row.cells.items c.in_ok-empty_row.field-0
    ∙ (λ i. c.loop-row.invariant i ++ c.in_ok-empty_row.ensures i ∷ [])
    ∙ sym (map-range_with_len_more (λ r. map (λ k. empty) (range_with_len 0 c.args.columns)) 0 row row (zero-add row))

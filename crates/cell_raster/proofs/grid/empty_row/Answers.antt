use Rattle.std.proofs.Common.{◌++◌, [], ◌∷◌, zero-add, sym, ◌∙◌}
use Rattle.std.proofs.lemmas.List.FromFn.{map-range_with_len_more}
use Rattle.cell_raster.specs.Cell.{empty}
use Rattle.cell_raster.proofs.grid.empty_row.Goals as goal

pub loop-column-preserved : goal.loop-column-preserved
loop-column-preserved c =
    let column = c.loop-column._column in
    c.in_ok-push.ensures.items ∙ (λ i. c.loop-column.invariant i ++ c.empty.ensures i ∷ [])
    ∙ sym (map-range_with_len_more (λ k. empty) 0 column column (zero-add column))

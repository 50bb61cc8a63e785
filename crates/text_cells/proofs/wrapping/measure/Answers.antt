use Rattle.std.proofs.Common.{◌*◌, ap, sym, ◌∙◌, length}
use Rattle.fx_geom.specs.Len.{stopped}
use Rattle.text_cells.specs.Wrapping.{size_of, widest}
use Rattle.text_cells.specs.Wrapped.{wrapped}
use Rattle.text_cells.proofs.Found.{wrapping_is}
use Rattle.text_cells.proofs.MidwayLemmas.{size_by}
use Rattle.text_cells.proofs.wrapping.measure.Goals as goal

pub returns-clause-value : goal.returns-clause-value
returns-clause-value c =
    let limit = c.cell_limit.ensures in
    let extent = c.extent_of-extent.ensures in
    let cells = extent.width ∙ ap (λ l. widest (wrapped l c.args.text.now)) limit in
    let number = extent.number ∙ ap (λ l. length (wrapped l c.args.text.now)) limit in
    size_by _ _ _ _ (c.cells_length.ensures ∙ ap (λ n. stopped (n * c.args.cell.w)) cells)
    (c.cells_length-2.ensures ∙ ap (λ n. stopped (n * c.args.cell.h)) number)

pub returns-clause-wrapping : goal.returns-clause-wrapping
returns-clause-wrapping c lines wrapping =
    returns-clause-value c ∙ ap (λ l. size_of l c.args.cell) (sym (wrapping_is _ c.args.text.now lines wrapping))

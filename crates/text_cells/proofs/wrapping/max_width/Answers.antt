use Rattle.std.proofs.Common.{◌*◌, ap, sym, ◌∙◌}
use Rattle.fx_geom.specs.Len.{stopped}
use Rattle.text_cells.specs.Wrapping.{lines_width}
use Rattle.text_cells.proofs.Found.{wrapping_is}
use Rattle.text_cells.proofs.wrapping.max_width.Goals as goal

pub returns-clause-value : goal.returns-clause-value
returns-clause-value c = c.cells_length.ensures ∙ ap (λ n. stopped (n * c.args.cell.w)) c.extent_of.ensures.width

pub returns-clause-wrapping : goal.returns-clause-wrapping
returns-clause-wrapping c lines wrapping =
    returns-clause-value c ∙ ap (λ l. lines_width l c.args.cell.w) (sym (wrapping_is _ c.args.text.now lines wrapping))

use Rattle.std.proofs.Common.{◌≡◌, true, List, ℕ, sym, ap, ◌∙◌}
use Rattle.std.proofs.lemmas.Result.{on_ok_weaker}
use Rattle.draw_records.specs.declared.record.Record.TheVariants.{Run}
use Rattle.unicode_segmentation.specs.Grapheme.{graphemes}
use Rattle.cell_raster.specs.Painted.{row_written, block_rows}
use Rattle.cell_raster.specs.View.{rows_in}
use Rattle.cell_raster.specs.Seen.{seen}
use Rattle.cell_raster.proofs.Turns.{stays, fills, writes, left_small, top_small, lies_on}
use Rattle.cell_raster.proofs.shown.draw.Goals as goal

pub returns-then-is_empty : goal.returns-then-is_empty
returns-then-is_empty c =
    stays c.args.cell (seen c.args.drawn) c.args.rows.now c.args.columns c.of-block.result c.reach.result c.of-block.ensures c.reach.ensures
    c.requires.size c.requires.room c.requires.whole
    (sym c.is_empty.ensures ∙ c.if-is_empty.true)

pub cell_of_run-skip-requires-clause-column : goal.cell_of_run-skip-requires-clause-column
cell_of_run-skip-requires-clause-column c =
    left_small c.args.cell (seen c.args.drawn) c.args.rows.now c.args.columns c.of-block.result c.reach.result c.of-block.ensures c.reach.ensures
    c.requires.size c.requires.room c.requires.whole
    (sym c.is_empty.ensures ∙ c.if-is_empty.false)

pub cell_of_run-skip-requires-clause-row : goal.cell_of_run-skip-requires-clause-row
cell_of_run-skip-requires-clause-row c =
    top_small c.args.cell (seen c.args.drawn) c.args.rows.now c.args.columns c.of-block.result c.reach.result c.of-block.ensures c.reach.ensures
    c.requires.size c.requires.room c.requires.whole
    (sym c.is_empty.ensures ∙ c.if-is_empty.false)

pub fill_rows-requires-clause-lies : goal.fill_rows-requires-clause-lies
fill_rows-requires-clause-lies c =
    lies_on c.args.cell (seen c.args.drawn) c.args.rows.now c.args.columns c.of-block.result c.reach.result c.of-block.ensures c.reach.ensures
    c.requires.size c.requires.room c.requires.whole
    (sym c.is_empty.ensures ∙ c.if-is_empty.false)

pub write_rows-requires-clause-lies : goal.write_rows-requires-clause-lies
write_rows-requires-clause-lies c =
    lies_on c.args.cell (seen c.args.drawn) c.args.rows.now c.args.columns c.of-block.result c.reach.result c.of-block.ensures c.reach.ensures
    c.requires.size c.requires.room c.requires.whole
    (sym c.is_empty.ensures ∙ c.if-is_empty.false)

pub returns-in-Fill : goal.returns-in-Fill
returns-in-Fill c =
    fills c.args.cell (seen c.args.drawn) c.args.rows.now c.args.columns c.of-block.result c.reach.result c.of-block.ensures c.reach.ensures
    c.requires.size c.requires.room c.requires.whole
    c.fill_rows.new.rows c.in-Fill.rect c.in-Fill.color c.in-Fill.is c.fill_rows.ensures

pub returns-in-Run : goal.returns-in-Run
returns-in-Run c =
    let b = c.of-block.result in
    on_ok_weaker c.write_rows.result
    (λ (made : rows_in c.write_rows.new.rows ≡ block_rows b (row_written c.in-Run.color (graphemes true c.get.result.now) c.cell_of_run-skip.result b.left b.right) (rows_in c.args.rows.now)).
    writes c.args.cell (seen c.args.drawn) c.args.rows.now c.args.columns c.of-block.result c.reach.result c.of-block.ensures c.reach.ensures
    c.requires.size c.requires.room c.requires.whole
    c.write_rows.new.rows c.in-Run.by c.plus-at.result c.in-Run.color c.get.result.now c.cell_of_run-skip.result
    (c.in-Run.is ∙ ap (λ (t : List ℕ). Run c.in-Run.by c.in-Run.color t) (sym c.get.ensures.bytes)) c.requires.width
    (sym c.is_empty.ensures ∙ c.if-is_empty.false) c.plus-at.ensures c.cell_of_run-skip.ensures made)
    c.write_rows.ensures

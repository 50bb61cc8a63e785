use Rattle.std.proofs.Common.{◌≡◌, ◌*◌, ◌≤◌, arith, length, map, take, sym, ap, subst, ◌∙◌}
use Rattle.std.proofs.lemmas.List.{with_items_is}
use Rattle.cell_raster.specs.Laws.{AllHave}
use Rattle.cell_raster.specs.Seen.{seen}
use Rattle.cell_raster.specs.View.{rows_in}
use Rattle.cell_raster.proofs.Turns.{grid_more, as_high, as_wide}
use Rattle.cell_raster.proofs.grid.grid_cells.Goals as goal

pub draw-requires-clause-room : goal.draw-requires-clause-room
draw-requires-clause-room c =
    let high = as_high c.args.cell (map seen (take c.loop-one.one-index c.args.drawn.now)) c.args.columns c.args.rows c.loop-one.cells.items c.loop-one.invariant in
    subst (λ n. c.args.columns * n ≤ 65536) (sym (ap length c.as_mut_slice.ensures.value ∙ high)) c.requires.room

pub draw-requires-clause-whole : goal.draw-requires-clause-whole
draw-requires-clause-whole c =
    let wide = as_wide c.args.cell (map seen (take c.loop-one.one-index c.args.drawn.now)) c.args.columns c.args.rows c.loop-one.cells.items c.loop-one.invariant in
    subst (λ vs. AllHave c.args.columns (rows_in vs)) (sym c.as_mut_slice.ensures.value) wide

pub loop-one-preserved : goal.loop-one-preserved
loop-one-preserved c =
    let cells = c.loop-one.cells in
    let lent : length c.as_mut_slice.result.now ≡ length cells.items = ap length c.as_mut_slice.ensures.value in
    grid_more c.args.cell c.args.drawn.now c.loop-one.one-index c.one-item.result c.args.columns c.args.rows (rows_in c.as_mut_slice.result.now) _
    (ap rows_in c.as_mut_slice.ensures.value ∙ c.loop-one.invariant) c.loop-one-test.true c.one-item.is
    (ap rows_in (with_items_is cells c.draw.new.rows (omega (arith, lent, c.draw.auto.rows, cells.ok.0))) ∙ c.in_ok-draw.ensures)

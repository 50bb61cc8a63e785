use Rattle.std.proofs.Common.{◌≡◌, ℕ, arith, true, List, length, get_or, sym, ap, ◌∙◌}
use Rattle.std.proofs.lemmas.List.{with_items_is}
use Rattle.std.specs.Prelude.{Vec}
use Rattle.std.specs.declared.alloc.Global.{Global}
use Rattle.unicode_segmentation.specs.Grapheme.{graphemes}
use Rattle.cell_raster.specs.declared.cell.Cell.{Cell}
use Rattle.cell_raster.specs.Painted.{row_written}
use Rattle.cell_raster.specs.Stretch.{within, changed}
use Rattle.cell_raster.specs.View.{rows_in}
use Rattle.cell_raster.proofs.Rows.{row_long, row_changed}
use Rattle.cell_raster.proofs.Stretches.{empty_stretch}
use Rattle.cell_raster.proofs.shown.write_rows.Goals as goal

pub loop-row-init : goal.loop-row-init
loop-row-init c =
    let b = c.args.block in
    let f = λ (row : ℕ) (cells : List Cell). row_written c.args.color (graphemes true c.args.text.now) c.args.skip b.left b.right cells in
    sym (empty_stretch b.top b.top f 0 (rows_in c.args.rows.now) (omega arith))

pub write_row-requires : goal.write_row-requires
write_row-requires c =
    let b = c.args.block in
    let f = λ (cells : List Cell). row_written c.args.color (graphemes true c.args.text.now) c.args.skip b.left b.right cells in
    let item = c.index-rows-row.result in
    let long = row_long f b.top c.loop-row.row (rows_in c.args.rows.now) c.loop-row.rows item c.loop-row.invariant (omega arith) c.index-rows-row.is
    c.requires.lies.columns c.requires.lies.whole in
    let lent : length c.as_mut_slice.result.now ≡ length item.items =
    ap length c.as_mut_slice.ensures.value ∙ ap (λ (v : Vec Cell Global). length v.items) (sym c.index-rows-row.is) in
    omega (arith, long, lent, c.requires.lies.right)

pub loop-row-preserved : goal.loop-row-preserved
loop-row-preserved c =
    let b = c.args.block in
    let f = λ (cells : List Cell). row_written c.args.color (graphemes true c.args.text.now) c.args.skip b.left b.right cells in
    let item = c.index-rows-row.result in
    let was = get_or c.loop-row.rows c.loop-row.row item in
    let lent : length c.as_mut_slice.result.now ≡ length was.items = ap length c.as_mut_slice.ensures.value in
    row_changed f b.top c.loop-row.row (rows_in c.args.rows.now) c.loop-row.rows item c.loop-row.invariant (omega arith) c.index-rows-row.is
    _ c.loop-row.auto.row
    (with_items_is was c.write_row.new.cells (omega (arith, lent, c.write_row.auto.cells, was.ok.0))
    ∙ c.in_ok-write_row.ensures ∙ ap f (c.as_mut_slice.ensures.value ∙ ap (λ (v : Vec Cell Global). v.items) (sym c.index-rows-row.is)))

pub returns : goal.returns
returns c =
    let b = c.args.block in
    let f = λ (row : ℕ) (cells : List Cell). row_written c.args.color (graphemes true c.args.text.now) c.args.skip b.left b.right cells in
    let ended : c.loop-row.row ≡ b.bottom = omega arith in
    c.loop-row.invariant ∙ ap (λ n. changed (within b.top n f) 0 (rows_in c.args.rows.now)) ended

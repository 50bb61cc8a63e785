use Rattle.std.proofs.Common.{◌≡◌, ℕ, arith, refl, sym, ap, ◌∙◌}
use Rattle.cell_raster.specs.declared.cell.Cell.{Cell}
use Rattle.cell_raster.specs.Painted.{row_filled}
use Rattle.cell_raster.specs.Shown.{filled}
use Rattle.cell_raster.proofs.Stretches.{empty_stretch, stretch_more}
use Rattle.cell_raster.proofs.shown.fill_row.Goals as goal

pub loop-column-init : goal.loop-column-init
loop-column-init c = sym (empty_stretch c.args.from c.args.from (λ (k : ℕ) (x : Cell). filled c.args.color) 0 c.args.cells.now (omega arith))

pub loop-column-preserved : goal.loop-column-preserved
loop-column-preserved c =
    stretch_more (λ (k : ℕ) (x : Cell). filled c.args.color) c.args.from c.loop-column.column c.args.cells.now c.loop-column.cells
    c.index-cells-column.result (filled c.args.color) c.loop-column.invariant c.loop-column.auto.column (omega arith) c.index-cells-column.is refl

pub returns : goal.returns
returns c =
    let ended : c.loop-column.column ≡ c.args.to = omega arith in
    c.loop-column.invariant ∙ ap (λ n. row_filled c.args.color c.args.from n c.args.cells.now) ended

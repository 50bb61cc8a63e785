use Rattle.std.proofs.Common.{◌≡◌, ℕ, ◌+◌, ◌-◌, arith, Some, sym, ap, ◌∙◌}
use Rattle.cell_raster.specs.declared.cell.Cell.{Cell}
use Rattle.cell_raster.specs.declared.cell.Glyph.TheVariants.{Part}
use Rattle.cell_raster.specs.Shown.{inked}
use Rattle.cell_raster.specs.Stretch.{within, changed}
use Rattle.cell_raster.proofs.Stretches.{empty_stretch, stretch_more}
use Rattle.cell_raster.proofs.shown.write_parts.Goals as goal

pub loop-column-init : goal.loop-column-init
loop-column-init c =
    let f = λ (k : ℕ) (x : Cell). inked c.args.color (Some (Part c.args.cluster.now (c.args.part + (k - c.args.from)))) x in
    sym (empty_stretch c.args.from c.args.from f 0 c.args.cells.now (omega arith))

pub loop-column-preserved : goal.loop-column-preserved
loop-column-preserved c =
    let f = λ (k : ℕ) (x : Cell). inked c.args.color (Some (Part c.args.cluster.now (c.args.part + (k - c.args.from)))) x in
    stretch_more f c.args.from c.loop-column.column c.args.cells.now c.loop-column.cells c.index-cells-column.result c.ink.new.shown
    c.loop-column.invariant c.loop-column.auto.column (omega arith) c.index-cells-column.is
    (c.in_ok-ink.ensures ∙ ap (f c.loop-column.column) (sym c.index-cells-column.is))

pub returns : goal.returns
returns c =
    let f = λ (k : ℕ) (x : Cell). inked c.args.color (Some (Part c.args.cluster.now (c.args.part + (k - c.args.from)))) x in
    let ended : c.loop-column.column ≡ c.args.to = omega arith in
    c.loop-column.invariant ∙ ap (λ n. changed (within c.args.from n f) 0 c.args.cells.now) ended

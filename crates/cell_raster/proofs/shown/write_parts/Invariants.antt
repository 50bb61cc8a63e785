use Rattle.std.proofs.Common.{◌≡◌, ◌+◌, ◌-◌, Some}
use Rattle.cell_raster.specs.declared.cell.Glyph.TheVariants.{Part}
use Rattle.cell_raster.specs.Shown.{inked}
use Rattle.cell_raster.specs.Stretch.{within, changed}
use Rattle.cell_raster.proofs.shown.write_parts.Given as goal

abbrev pub invariant-loop-column : goal.invariant-loop-column
invariant-loop-column l =
    l.cells ≡ changed (within l.from l.column (λ k. inked l.color (Some (Part l.cluster (l.part + (k - l.from)))))) 0 l.fn.cells

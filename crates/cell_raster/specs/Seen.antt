-- What the code gathers, as a drawing.
use Rattle.cell_raster.specs.declared.drawing.Drawn.{Drawn}
use Rattle.cell_raster.specs.Drawing.{Drawing}

abbrev pub seen : Drawn → Drawing
seen d = record { what = d.what.now; at = d.at; clip = d.clip }

use Rattle.cell_raster.proofs.Places.{inside, beside, below, is_whole}
use Rattle.cell_raster.proofs.laws.cells_stand_in_their_places.Goals as goal

pub returns : goal.returns
returns c = record { inside = inside; beside = beside; below = below; whole = is_whole }

use Rattle.std.proofs.Common.{refl}
use Rattle.unicode_segmentation.proofs.Computing.{unicode_segmentation}
use Rattle.unicode_width.proofs.Computing.{unicode_width}
use Rattle.cell_raster.proofs.laws.worked_cells.Goals as goal

pub returns : goal.returns
unfolding unicode_segmentation unicode_width
returns c = record { covered = refl; on_edges = refl; between_middles = refl; later = refl; moved = refl; clipped = refl; clipped_twice = refl; lettered = refl; over_a_fill = refl; wide = refl; half = refl; from_the_left = refl; at_first = refl; unchanged = refl; one_cell = refl; two_cells = refl; printed = refl }

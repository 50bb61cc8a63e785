use Rattle.cell_raster.proofs.Hull.{kept_or_in_hull, least_hull}
use Rattle.cell_raster.proofs.laws.damage_is_least.Goals as goal

pub returns : goal.returns
returns c = record { kept = kept_or_in_hull; least = least_hull }

-- What stands at the places of laid children is these children.
use Rattle.std.specs.Prelude.{◌≡◌}
use Rattle.std.proofs.Common.{ap, refl}
use Rattle.plain_tree.specs.Laid.{Laids, no_laids, more_laids}
use Rattle.laid_cursor.specs.Opened.{laids_at, places_of}

pub places_below : (ls : Laids) → ls ≡ laids_at (places_of ls)
places_below no_laids = refl
places_below (more_laids at l ls) = ap (more_laids at l) (places_below ls)

-- The order of reading.
use Rattle.std.specs.Ordering.{int_cmp, nat_cmp, ordering_then}
use Rattle.std.specs.declared.cmp.Ordering.{Ordering}
use Rattle.screen_form.specs.declared.spot.Spot.{Spot}

-- from above, then from the left, then by number
abbrev pub spot_cmp : Spot → Spot → Ordering
spot_cmp a b = ordering_then (int_cmp a.y b.y) (ordering_then (int_cmp a.x b.x) (nat_cmp a.number b.number))

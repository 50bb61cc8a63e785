-- The items so far are those of the children so far.
use Rattle.std.proofs.Common.{◌≡◌, map, filter, take}
use Rattle.build_owner.specs.ArrivalView.{coming, is_there}
use Rattle.build_owner.proofs.items.items_among.Given as goal

abbrev pub invariant-loop-i : goal.invariant-loop-i
invariant-loop-i l = map coming l.items.items ≡ filter (is_there l.range) (map coming (take l.i l.arriving))

use Rattle.std.proofs.Common.{◌≡◌, map, take}
use Rattle.build_owner.specs.Ranging.{range_at}
use Rattle.build_owner.proofs.ranging.ranges_of.Given as goal

abbrev pub invariant-loop-list : goal.invariant-loop-list
invariant-loop-list l = l.ranges.items ≡ map (range_at l.r.tree) (take l.list-index l.lists)

use Rattle.std.proofs.Common.{◌≡◌, map, ◌++◌, reverse, vec_len}
use Rattle.build_owner.specs.MergingView.{serving_of}
use Rattle.build_owner.specs.Served.{elements_served, renders_served}
use Rattle.build_owner.proofs.completing.apart.Given as goal

abbrev pub invariant-loop-list : goal.invariant-loop-list
invariant-loop-list l =
    ((map serving_of l.elements.items ++ map elements_served (reverse l.served.items)) ≡ map elements_served l.fn.served.items)
    × ((map serving_of l.renders.items ++ map renders_served (reverse l.served.items)) ≡ map renders_served l.fn.served.items)

abbrev pub decreases-loop-list : goal.decreases-loop-list
decreases-loop-list l = vec_len l.served

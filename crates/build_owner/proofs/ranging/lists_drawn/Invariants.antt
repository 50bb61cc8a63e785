use Rattle.std.proofs.Common.{◌≡◌, take}
use Rattle.build_walk.specs.Merging.{lists_redraw}
use Rattle.build_owner.specs.Ranging.{listed_in}
use Rattle.build_owner.proofs.ranging.lists_drawn.Given as goal

abbrev pub invariant-loop-i : goal.invariant-loop-i
invariant-loop-i l = l.lists.items ≡ listed_in lists_redraw (take l.i l.plan)

use Rattle.std.proofs.Common.{take}
use Rattle.std.specs.List.{All}
use Rattle.node_tree.specs.Tree.{IsNode}
use Rattle.build_owner.specs.Losing.{ParentsLeft}
use Rattle.build_owner.proofs.losing.parents_left.Given as goal

abbrev pub invariant-loop-entry : goal.invariant-loop-entry
invariant-loop-entry l = ParentsLeft l.r.tree (take l.entry-index l.plan) l.out.items × All (IsNode l.r.tree) l.out.items

use Rattle.std.proofs.Common.{◌≡◌, ◌++◌, drop}
use Rattle.node_tree.specs.Trims.{unmarked_below}
use Rattle.node_tree.proofs.part.add_below.Given as goal

abbrev pub invariant-loop-entry : goal.invariant-loop-entry
invariant-loop-entry g l = l.list.items ++ unmarked_below l.marks l.nodes (drop l.entry-index l.plan) ≡ l.fn.list.items ++ unmarked_below l.marks l.nodes l.plan

use Rattle.std.proofs.Common.{◌≡◌, ◌++◌, drop}
use Rattle.node_tree.specs.Trims.{unmarked}
use Rattle.node_tree.proofs.part.add_unmarked.Given as goal

abbrev pub invariant-loop-h : goal.invariant-loop-h
invariant-loop-h l = l.list.items ++ unmarked l.marks (drop l.h-index l.handles) ≡ l.fn.list.items ++ unmarked l.marks l.handles

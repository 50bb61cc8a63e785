use Rattle.std.proofs.Common.{◌≡◌, take}
use Rattle.node_tree.proofs.part.copy_of.Given as goal

abbrev pub invariant-loop-h : goal.invariant-loop-h
invariant-loop-h l = l.list.items ≡ take l.h-index l.handles

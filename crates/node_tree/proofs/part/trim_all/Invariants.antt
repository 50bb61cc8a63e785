use Rattle.node_tree.proofs.PartLemmas.{Trimming}
use Rattle.node_tree.proofs.part.trim_all.Given as goal

abbrev pub invariant-loop-i : goal.invariant-loop-i
invariant-loop-i g l = Trimming l.named l.spoken l.i l.fn.nodes l.nodes

use Rattle.node_tree.proofs.PlanLemmas.{commits, kept_live}
use Rattle.node_tree.proofs.plan.commit_nodes.Goals as goal

pub write_all-requires-clause-live : goal.write_all-requires-clause-live
write_all-requires-clause-live g c = λ k among.
    kept_live _ _ _ _ _ k c.requires.live c.end.ensures.live (rw c.as_slice.ensures.value at c.in_ok-keep.ensures.marked) (rw c.as_slice-2.ensures.value at c.sweep.ensures) among

pub returns-clause-commits : goal.returns-clause-commits
returns-clause-commits g c =
    commits g.U.Update.updated _ _ _ _ _ _ c.requires.live c.end.ensures.live c.in_ok-keep.ensures.len (rw c.as_slice.ensures.value at c.in_ok-keep.ensures.marked) (rw c.as_slice-2.ensures.value at c.sweep.ensures) c.write_all.ensures.nodes c.write_all.ensures.handles

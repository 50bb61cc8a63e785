use Rattle.node_tree.proofs.PartSlots.{part_done, part_live, trimmed_live}
use Rattle.node_tree.proofs.Tree.commit_part.Goals as goal

pub write_all-requires-clause-live : goal.write_all-requires-clause-live
write_all-requires-clause-live g c = λ k among.
    let plan = rw (← c.self.view_is) at c.requires.1 in
    trimmed_live g.U.Update.updated _ _ _ _ k c.trim_all.ensures (part_live g.U.Update.updated _ _ _ _ _ plan k among)

pub invariant_of-self : goal.invariant_of-self
invariant_of-self g c =
    let plan = rw (← c.self.view_is) at c.requires.1 in
    let done = part_done g.U.Update.updated _ c.self.invariant.0 c.requires.0 _ _ _ _ _ _ _ _ _ c.self.invariant.1 plan c.end-end.ensures.live
    (rw c.as_slice.ensures.value at c.in_ok-named.ensures.marked) (rw c.as_slice-2.ensures.value at c.in_ok-spoken.ensures.marked)
    (rw (c.as_slice-3.ensures.value, c.as_slice-4.ensures.value, c.as_slice-5.ensures.value, c.as_slice-6.ensures.value) at c.in_ok-tops.ensures)
    (rw (c.as_slice-7.ensures.value, c.as_slice-8.ensures.value) at c.trim_all.ensures) c.write_all.ensures.nodes c.write_all.ensures.handles in
    (_, done.plain c.self.invariant.0 c.requires.0 c.self.invariant.1 plan)

pub returns-clause-commits : goal.returns-clause-commits
returns-clause-commits g c =
    let plan = rw (← c.self.view_is) at c.requires.1 in
    let done = part_done g.U.Update.updated _ c.self.invariant.0 c.requires.0 _ _ _ _ _ _ _ _ _ c.self.invariant.1 plan c.end-end.ensures.live
    (rw c.as_slice.ensures.value at c.in_ok-named.ensures.marked) (rw c.as_slice-2.ensures.value at c.in_ok-spoken.ensures.marked)
    (rw (c.as_slice-3.ensures.value, c.as_slice-4.ensures.value, c.as_slice-5.ensures.value, c.as_slice-6.ensures.value) at c.in_ok-tops.ensures)
    (rw (c.as_slice-7.ensures.value, c.as_slice-8.ensures.value) at c.trim_all.ensures) c.write_all.ensures.nodes c.write_all.ensures.handles in
    rw (← c.self.view_is) done.commits

pub returns-clause-inactive : goal.returns-clause-inactive
returns-clause-inactive g c =
    let plan = rw (← c.self.view_is) at c.requires.1 in
    let done = part_done g.U.Update.updated _ c.self.invariant.0 c.requires.0 _ _ _ _ _ _ _ _ _ c.self.invariant.1 plan c.end-end.ensures.live
    (rw c.as_slice.ensures.value at c.in_ok-named.ensures.marked) (rw c.as_slice-2.ensures.value at c.in_ok-spoken.ensures.marked)
    (rw (c.as_slice-3.ensures.value, c.as_slice-4.ensures.value, c.as_slice-5.ensures.value, c.as_slice-6.ensures.value) at c.in_ok-tops.ensures)
    (rw (c.as_slice-7.ensures.value, c.as_slice-8.ensures.value) at c.trim_all.ensures) c.write_all.ensures.nodes c.write_all.ensures.handles in
    rw (← c.self.view_is) done.tops_are

pub returns-clause-plain : goal.returns-clause-plain
returns-clause-plain g c =
    let plan = rw (← c.self.view_is) at c.requires.1 in
    let done = part_done g.U.Update.updated _ c.self.invariant.0 c.requires.0 _ _ _ _ _ _ _ _ _ c.self.invariant.1 plan c.end-end.ensures.live
    (rw c.as_slice.ensures.value at c.in_ok-named.ensures.marked) (rw c.as_slice-2.ensures.value at c.in_ok-spoken.ensures.marked)
    (rw (c.as_slice-3.ensures.value, c.as_slice-4.ensures.value, c.as_slice-5.ensures.value, c.as_slice-6.ensures.value) at c.in_ok-tops.ensures)
    (rw (c.as_slice-7.ensures.value, c.as_slice-8.ensures.value) at c.trim_all.ensures) c.write_all.ensures.nodes c.write_all.ensures.handles in
    rw (← c.self.view_is) done.plain

use Rattle.tree_marks.proofs.MarkedNodes.{none_before, one_more, all_of}
use Rattle.tree_marks.proofs.marks.are_marked.Goals as goal

pub loop-index-init : goal.loop-index-init
loop-index-init g c = none_before g.M.Marks.marking c.args.tree.now

pub loop-index-preserved : goal.loop-index-preserved
loop-index-preserved g c = one_more g.M.Marks.marking c.args.tree.now c.loop-index.index c.loop-index.invariant (c.is_slot_marked.ensures c.if-not-is_slot_marked.false)

pub returns : goal.returns
returns g c = λ _. all_of g.M.Marks.marking c.args.tree.now c.end-index-end.result c.loop-index.index c.end-index-end.ensures c.loop-index-test.false c.loop-index.invariant

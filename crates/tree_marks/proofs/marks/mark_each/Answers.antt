use Rattle.tree_marks.proofs.MarkedNodes.{tree_stays}
use Rattle.tree_marks.proofs.marks.mark_each.Goals as goal

pub returns-then-are_marked-clause-plain : goal.returns-then-are_marked-clause-plain
returns-then-are_marked-clause-plain g c = tree_stays g.M.Marks.marking g.M.Marks.lawful c.args.also c.args.hs.now c.args.tree.now (c.are_marked.ensures c.if-are_marked.true)

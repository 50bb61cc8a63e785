use Rattle.text_cells.proofs.CutLemmas.{line_last}
use Rattle.text_cells.proofs.pending.Pending.last.Goals as goal

pub returns-clause-ends : goal.returns-clause-ends
returns-clause-ends c start xs ys holds = line_last c.args.self.now _ c.width.result start xs ys holds (c.width.ensures start xs ys holds) c.line_to.ensures

use Rattle.text_cells.proofs.PassLemmas.{width_with_word}
use Rattle.text_cells.proofs.pending.Pending.width.Goals as goal

pub returns-then-self : goal.returns-then-self
returns-then-self c start xs ys holds = width_with_word c.args.self.now start xs ys holds c.if-self.true

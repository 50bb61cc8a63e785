use Rattle.layout_walk.proofs.Alike.{answers_alike}
use Rattle.layout_walk.proofs.Viewing.{laid_answers, asks_laid}
use Rattle.layout_walk.specs.Node.{stored}
use Rattle.layout_walk.specs.Full.{objects}
use Rattle.layout_walk.proofs.laws.laid_children_answer_in_full.Goals as goal

pub returns-clause-asks : goal.returns-clause-asks
returns-clause-asks c = asks_laid

pub returns-clause-answers : goal.returns-clause-answers
returns-clause-answers c = λ P law back asks f g all laid. answers_alike asks (objects P g) (stored g) (laid_answers P law back asks f g all laid)

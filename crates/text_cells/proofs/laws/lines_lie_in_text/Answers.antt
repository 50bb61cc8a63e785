use Rattle.text_cells.proofs.Within.{wrapped-LiesIn}
use Rattle.text_cells.proofs.laws.lines_lie_in_text.Goals as goal

pub returns : goal.returns
returns c = wrapped-LiesIn

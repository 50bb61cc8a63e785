use Rattle.build_walk.proofs.Pasting.{told, told_entered}
use Rattle.build_walk.proofs.old_elements.elements_have_pasts.Goals as goal

pub returns-clause-tells : goal.returns-clause-tells
returns-clause-tells c = told

pub returns-clause-entered : goal.returns-clause-entered
returns-clause-entered c = λ marks defaults old next scrolled f is flags numbered. told_entered marks defaults scrolled old next f is flags numbered

use Rattle.build_form.proofs.Layable.{can_be_laid_out}
use Rattle.build_form.proofs.laws.built_trees_can_be_laid_out.Goals as goal

pub returns : goal.returns
returns c = can_be_laid_out

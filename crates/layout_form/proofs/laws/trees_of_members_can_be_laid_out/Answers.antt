use Rattle.layout_form.proofs.Members.{trees_fit}
use Rattle.layout_form.proofs.laws.trees_of_members_can_be_laid_out.Goals as goal

pub returns : goal.returns
returns c = trees_fit

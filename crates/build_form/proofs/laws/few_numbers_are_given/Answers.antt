use Rattle.build_form.proofs.FewGiven.{few_given}
use Rattle.build_form.proofs.laws.few_numbers_are_given.Goals as goal

pub returns : goal.returns
returns c = few_given

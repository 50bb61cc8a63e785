use Rattle.build_form.proofs.Differ.{numbers_differ}
use Rattle.build_form.proofs.laws.numbers_differ.Goals as goal

pub returns : goal.returns
returns c = numbers_differ

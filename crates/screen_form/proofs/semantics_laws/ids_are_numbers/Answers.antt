use Rattle.screen_form.proofs.Ids.{numbers_law}
use Rattle.screen_form.proofs.semantics_laws.ids_are_numbers.Goals as goal

pub returns : goal.returns
returns c = numbers_law

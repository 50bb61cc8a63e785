use Rattle.screen_form.proofs.Ids.{differ_law}
use Rattle.screen_form.proofs.semantics_laws.ids_differ.Goals as goal

pub returns : goal.returns
returns c = differ_law

use Rattle.screen_form.proofs.Unheard.{unheard_law}
use Rattle.screen_form.proofs.semantics_laws.hidden_parts_are_unheard.Goals as goal

pub returns : goal.returns
returns c = unheard_law

use Rattle.screen_form.proofs.Doers.{doer_law}
use Rattle.screen_form.proofs.semantics_laws.a_detector_acts.Goals as goal

pub returns : goal.returns
returns c = doer_law

use Rattle.build_form.proofs.OwnerLemmas.{handlers_fit}
use Rattle.build_form.proofs.laws.owned_handlers_fit.Goals as goal

pub returns : goal.returns
returns c = handlers_fit

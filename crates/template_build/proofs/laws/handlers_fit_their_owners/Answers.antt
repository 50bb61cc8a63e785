use Rattle.template_build.proofs.HandlerLaws.{component_handlers, root_handlers}
use Rattle.template_build.proofs.laws.handlers_fit_their_owners.Goals as goal

pub returns-clause-components : goal.returns-clause-components
returns-clause-components c = component_handlers

pub returns-clause-roots : goal.returns-clause-roots
returns-clause-roots c = root_handlers

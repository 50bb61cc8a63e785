use Rattle.kept_layouts.proofs.laws.closedness_is_by_members.Goals as goal
use Rattle.kept_layouts.proofs.Apart.{here_settled, settled_all, here_closed, here_linked, closed_more}

pub returns-clause-stored : goal.returns-clause-stored
returns-clause-stored c = λ s. settled_all s (c.rules_are_lawful.ensures s)

pub returns-clause-settled : goal.returns-clause-settled
returns-clause-settled c = λ s. here_settled s (c.rules_are_lawful.ensures s)

pub returns-clause-closed : goal.returns-clause-closed
returns-clause-closed c = here_closed

pub returns-clause-linked : goal.returns-clause-linked
returns-clause-linked c = here_linked

pub returns-clause-apart : goal.returns-clause-apart
returns-clause-apart c = closed_more

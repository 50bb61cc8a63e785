use Rattle.layout_walk.proofs.Closing.{firm_from, apart_from, fixed_from}
use Rattle.layout_walk.proofs.laws.firm_by_members.Goals as goal

pub returns-clause-firm : goal.returns-clause-firm
returns-clause-firm c = firm_from

pub returns-clause-members : goal.returns-clause-members
returns-clause-members c = apart_from

pub returns-clause-stored : goal.returns-clause-stored
returns-clause-stored c = fixed_from

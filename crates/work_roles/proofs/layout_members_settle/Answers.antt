use Rattle.work_roles.proofs.Blanks.{blank_once, same_role}
use Rattle.work_roles.proofs.layout_members_settle.Goals as goal

pub returns-clause-once : goal.returns-clause-once
returns-clause-once c = blank_once

pub returns-clause-role : goal.returns-clause-role
returns-clause-role c = same_role

use Rattle.kept_layers.proofs.Unmarking.{unmarked_parts, group_survives, unmarked_root}
use Rattle.kept_layers.proofs.laws.unmarked_groups_stay.Goals as goal

pub returns-clause-parts : goal.returns-clause-parts
returns-clause-parts c = unmarked_parts

pub returns-clause-keeps : goal.returns-clause-keeps
returns-clause-keeps c = group_survives

pub returns-clause-root : goal.returns-clause-root
returns-clause-root c = unmarked_root

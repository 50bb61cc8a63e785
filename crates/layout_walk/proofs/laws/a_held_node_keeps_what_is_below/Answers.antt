use Rattle.layout_walk.proofs.Keeping.{held, left, clear_firm}
use Rattle.layout_walk.proofs.laws.a_held_node_keeps_what_is_below.Goals as goal

pub returns-clause-laid : goal.returns-clause-laid
returns-clause-laid c = held

pub returns-clause-left : goal.returns-clause-left
returns-clause-left c = left

pub returns-clause-clear : goal.returns-clause-clear
returns-clause-clear c = clear_firm

use Rattle.layout_rules.proofs.Turning.{node_turns, child_turns}
use Rattle.layout_rules.proofs.laws.subtrees_turn.Goals as goal

pub returns-clause-nodes : goal.returns-clause-nodes
returns-clause-nodes c = node_turns

pub returns-clause-children : goal.returns-clause-children
returns-clause-children c = child_turns

use Rattle.node_tree.proofs.EditLemmas.{lifts}
use Rattle.node_tree.proofs.edits.rehook.Goals as goal

pub returns-clause-nodes : goal.returns-clause-nodes
returns-clause-nodes g c = lifts _ _ _ c.args.h _ c.requires.live c.requires.one c.unhook.ensures.nodes c.unhook.ensures.handles c.set_parent.ensures.sets

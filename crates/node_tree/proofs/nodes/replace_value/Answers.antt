use Rattle.node_tree.proofs.TreeLemmas.{written_writes}
use Rattle.node_tree.proofs.nodes.replace_value.Goals as goal

pub returns-clause-writes : goal.returns-clause-writes
returns-clause-writes g c = rw c.replace.ensures.after (written_writes _ c.args.h c.args.value c.requires)

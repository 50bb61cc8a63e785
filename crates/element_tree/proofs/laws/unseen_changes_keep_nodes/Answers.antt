use Rattle.std.proofs.Common.{None}
use Rattle.node_tree.specs.Tree.{node_at}
use Rattle.element_tree.proofs.Lawful.{nodes-like}
use Rattle.element_tree.proofs.laws.unseen_changes_keep_nodes.Goals as goal

pub returns : goal.returns
returns c = λ t f h e w scrolled is at like. nodes-like (node_at t) None f h e w scrolled is.stands at like

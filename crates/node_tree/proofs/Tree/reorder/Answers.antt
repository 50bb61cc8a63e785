use Rattle.std.proofs.Common.{refl}
use Rattle.node_tree.specs.Forest.{reorder_under}
use Rattle.node_tree.proofs.Reordering.{reordered_is}
use Rattle.node_tree.proofs.Tree.reorder.Goals as goal

pub invariant_of-self : goal.invariant_of-self
invariant_of-self g c = (
  reorder_under c.args.parent c.args.children.items c.self.invariant.0,
  reordered_is _ _ c.args.parent c.args.children.items (rw (← c.self.view_is) at c.requires) c.put_children.ensures refl c.self.invariant.0 c.self.invariant.1,
)

pub returns-clause-plain : goal.returns-clause-plain
returns-clause-plain g c = rw (← c.self.view_is) (reordered_is _ _ c.args.parent c.args.children.items (rw (← c.self.view_is) at c.requires) c.put_children.ensures refl)

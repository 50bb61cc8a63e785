use Rattle.std.proofs.Common.{Ok}
use Rattle.render_tree.proofs.Quiet.{known_by}
use Rattle.render_tree.proofs.RenderTree.reorder_unmarked.Goals as goal

pub invariant_of-self : goal.invariant_of-self
invariant_of-self c =
    known_by (Ok tt) c.self.inside.users c.self.inside.remarked c.self.inside.tree c.reorder.new.self c.self.invariant c.reorder.ensures.reorders tt
    (λ x. c.edit_laws.ensures.reorders c.self.inside.tree c.reorder.new.self c.args.h c.args.children.items x)

use Rattle.std.proofs.Common.{Some}
use Rattle.render_tree.proofs.Quiet.{known_by}
use Rattle.render_tree.proofs.RenderTree.move_unmarked.Goals as goal

pub invariant_of-self : goal.invariant_of-self
invariant_of-self c =
    let live = (rw (← c.self.view_is) at c.requires).live in
    known_by c.move_to.result c.self.inside.users c.self.inside.remarked c.self.inside.tree c.move_to.new.self c.self.invariant c.move_to.ensures.hooks c.move_to.ensures.err
    (λ x. c.edit_laws.ensures.hooks c.self.inside.tree c.move_to.new.self c.args.h (Some c.args.parent) c.args.at live x)

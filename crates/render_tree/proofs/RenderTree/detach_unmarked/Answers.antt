use Rattle.std.proofs.Common.{None}
use Rattle.render_tree.proofs.Quiet.{known_by}
use Rattle.render_tree.proofs.RenderTree.detach_unmarked.Goals as goal

pub invariant_of-self : goal.invariant_of-self
invariant_of-self c =
    let live = (rw (← c.self.view_is) at c.requires).live in
    known_by c.detach.result c.self.inside.users c.self.inside.remarked c.self.inside.tree c.detach.new.self c.self.invariant c.detach.ensures.lifts c.detach.ensures.err
    (λ x. c.edit_laws.ensures.lifts c.self.inside.tree c.detach.new.self c.args.h None live x)

use Rattle.render_tree.proofs.Quiet.{known_by}
use Rattle.render_tree.proofs.Used.{live_from_stands}
use Rattle.render_tree.proofs.RenderTree.attach_unmarked.Goals as goal

pub invariant_of-self : goal.invariant_of-self
invariant_of-self c =
    let top = (rw (← c.self.view_is) at c.requires).top in
    let live = live_from_stands c.self.inside.tree c.args.h _ (c.inactive.ensures.holds c.args.h (rw c.inactive.ensures.value top)) in
    known_by c.attach.result c.self.inside.users c.self.inside.remarked c.self.inside.tree c.attach.new.self c.self.invariant c.attach.ensures.hooks c.attach.ensures.err
    (λ x. c.edit_laws.ensures.hooks c.self.inside.tree c.attach.new.self c.args.h c.args.parent c.args.at live x)

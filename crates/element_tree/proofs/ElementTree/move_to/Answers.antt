use Rattle.std.proofs.Common.{Some}
use Rattle.element_tree.proofs.Indexed.{kept_by, indexed-kept}
use Rattle.element_tree.proofs.ElementTree.move_to.Goals as goal

pub invariant_of-self : goal.invariant_of-self
invariant_of-self c =
    let live = (rw (← c.self.view_is) at c.requires).live in
    indexed-kept c.self.inside.numbers.items c.self.inside.tree c.move_to.new.self c.self.inside.next c.self.invariant
    (kept_by c.move_to.result c.self.inside.tree c.move_to.new.self c.move_to.ensures.hooks c.move_to.ensures.err (λ x. record { values = c.edit_laws.ensures.hooks c.self.inside.tree c.move_to.new.self c.args.h (Some c.args.parent) c.args.at live x; made = x.handles.inserted }))

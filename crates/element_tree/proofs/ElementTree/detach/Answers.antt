use Rattle.std.proofs.Common.{None}
use Rattle.element_tree.proofs.Indexed.{kept_by, indexed-kept}
use Rattle.element_tree.proofs.ElementTree.detach.Goals as goal

pub invariant_of-self : goal.invariant_of-self
invariant_of-self c =
    let live = (rw (← c.self.view_is) at c.requires).live in
    indexed-kept c.self.inside.numbers.items c.self.inside.tree c.detach.new.self c.self.inside.next c.self.invariant
    (kept_by c.detach.result c.self.inside.tree c.detach.new.self c.detach.ensures.lifts c.detach.ensures.err (λ x. record { values = c.edit_laws.ensures.lifts c.self.inside.tree c.detach.new.self c.args.h None live x; made = x.handles.inserted }))

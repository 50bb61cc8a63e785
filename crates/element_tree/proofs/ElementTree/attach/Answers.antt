use Rattle.element_tree.proofs.Indexed.{kept_by, indexed-kept, live_from_stands}
use Rattle.element_tree.proofs.ElementTree.attach.Goals as goal

pub invariant_of-self : goal.invariant_of-self
invariant_of-self c =
    let top = (rw (← c.self.view_is) at c.requires).top in
    let live = live_from_stands c.self.inside.tree c.args.h _ (c.inactive.ensures.holds c.args.h (rw c.inactive.ensures.value top)) in
    indexed-kept c.self.inside.numbers.items c.self.inside.tree c.attach.new.self c.self.inside.next c.self.invariant
    (kept_by c.attach.result c.self.inside.tree c.attach.new.self c.attach.ensures.hooks c.attach.ensures.err (λ x. record { values = c.edit_laws.ensures.hooks c.self.inside.tree c.attach.new.self c.args.h c.args.parent c.args.at live x; made = x.handles.inserted }))

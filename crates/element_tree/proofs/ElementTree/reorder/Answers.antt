use Rattle.element_tree.proofs.Indexed.{indexed-kept}
use Rattle.element_tree.proofs.ElementTree.reorder.Goals as goal

pub invariant_of-self : goal.invariant_of-self
invariant_of-self c =
    indexed-kept c.self.inside.numbers.items c.self.inside.tree c.reorder.new.self c.self.inside.next c.self.invariant
    (record { values = c.edit_laws.ensures.reorders c.self.inside.tree c.reorder.new.self c.args.h c.args.children.items c.reorder.ensures.reorders; made = c.reorder.ensures.reorders.handles.inserted })

use Rattle.element_tree.proofs.Indexed.{indexed-removed}
use Rattle.element_tree.proofs.ElementTree.remove.Goals as goal

pub invariant_of-self : goal.invariant_of-self
invariant_of-self c =
    indexed-removed c.self.inside.numbers.items c.forget_dead.new.numbers.items c.self.inside.tree c.remove-count.new.self c.self.inside.next c.remove-count.result c.args.h c.self.invariant
    c.remove-count.ensures.removes c.remove-count.ensures.absent (λ k. c.edit_laws.ensures.removes _ _ c.args.h k _) c.forget_dead.ensures

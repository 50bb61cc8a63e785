use Rattle.element_tree.proofs.Indexed.{indexed-dropped}
use Rattle.element_tree.proofs.ElementTree.drop_inactive.Goals as goal

pub invariant_of-self : goal.invariant_of-self
invariant_of-self c =
    indexed-dropped c.self.inside.numbers.items c.forget_dead.new.numbers.items c.self.inside.tree c.drop_inactive-count.new.self c.self.inside.next c.drop_inactive-count.result c.self.invariant
    c.drop_inactive-count.ensures c.forget_dead.ensures

use Rattle.element_tree.proofs.ElementTree.children.Goals as goal

pub returns-clause-holds : goal.returns-clause-holds
returns-clause-holds c = rw (← c.self.view_is) c.children.ensures.holds

pub returns-clause-smaller : goal.returns-clause-smaller
returns-clause-smaller c = rw (← c.self.view_is) c.children.ensures.smaller

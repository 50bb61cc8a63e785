use Rattle.render_tree.proofs.RenderTree.children.Goals as goal

pub returns-clause-holds : goal.returns-clause-holds
returns-clause-holds c = rw (← c.self.view_is) c.children.ensures.holds

pub returns-clause-smaller : goal.returns-clause-smaller
returns-clause-smaller c = rw (← c.self.view_is) c.children.ensures.smaller

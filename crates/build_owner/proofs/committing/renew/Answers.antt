use Rattle.build_owner.proofs.committing.renew.Goals as goal

pub returns-clause-names : goal.returns-clause-names
returns-clause-names c = λ among.
    c.drop_dead.ensures.names
    (c.removals_leave_covered.ensures.committed c.args.g.now c.args.t.now.tree c.commit.new.self.tree c.args.plan.now.items c.requires.follows c.in_ok-commit.ensures.commits among)

pub returns-clause-used : goal.returns-clause-used
returns-clause-used c = c.in_ok-commit.ensures.used

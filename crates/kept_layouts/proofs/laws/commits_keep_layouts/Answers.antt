use Rattle.kept_layouts.proofs.laws.commits_keep_layouts.Goals as goal
use Rattle.kept_layouts.proofs.Changes.{tree_here, more_here, plan_keeps}

pub returns-clause-stores : goal.returns-clause-stores
returns-clause-stores c = tree_here

pub returns-clause-more : goal.returns-clause-more
returns-clause-more c = more_here

pub returns-clause-commits : goal.returns-clause-commits
returns-clause-commits c = λ s. plan_keeps (record { same = c.asks_are_compared.ensures.frames; itself = c.asks_are_compared.ensures.itself_frame }) s (c.rules_are_lawful.ensures s)

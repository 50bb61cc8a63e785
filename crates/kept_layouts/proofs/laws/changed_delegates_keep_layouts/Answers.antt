use Rattle.kept_layouts.proofs.laws.changed_delegates_keep_layouts.Goals as goal
use Rattle.kept_layouts.proofs.Changes.{marks_keep}
use Rattle.kept_layouts.proofs.Naming.{reads_others}

pub returns-clause-named : goal.returns-clause-named
returns-clause-named c = reads_others

pub returns-clause-marked : goal.returns-clause-marked
returns-clause-marked c = λ s after. marks_keep (record { same = c.asks_are_compared.ensures.frames; itself = c.asks_are_compared.ensures.itself_frame }) s after (c.rules_are_lawful.ensures s)

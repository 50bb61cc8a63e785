use Rattle.std.proofs.Common.{[], ◌∷◌}
use Rattle.settled_builds.proofs.Lines.{scroll_ready, offsets_ready, set_ready, marked_ready}
use Rattle.settled_builds.proofs.steps.lines_leave_ready_trees.Goals as goal

pub returns-clause-set : goal.returns-clause-set
returns-clause-set c = λ b marks next root tree n f wanted names h at reads.
    set_ready b marks next root tree n f wanted names (c.edits_leave_fresh_trees.ensures.fields b marks b.defaults f wanted tree h.fresh) at reads h

pub returns-clause-scroll : goal.returns-clause-scroll
returns-clause-scroll c = λ b marks next root tree scroll place h.
    scroll_ready b marks next root tree scroll place (c.edits_leave_fresh_trees.ensures.scroll b marks b.defaults scroll place tree h.fresh) h

pub returns-clause-offsets : goal.returns-clause-offsets
returns-clause-offsets c = λ b marks next root tree offset h.
    offsets_ready b marks next root tree offset (c.edits_leave_fresh_trees.ensures.offsets b marks b.defaults offset tree h.fresh) h

pub returns-clause-marked : goal.returns-clause-marked
returns-clause-marked c = λ b marks next root tree number none h.
    marked_ready b marks next root tree number (c.edits_leave_fresh_trees.ensures.marked b marks (number ∷ []) b.defaults tree h.fresh) none h

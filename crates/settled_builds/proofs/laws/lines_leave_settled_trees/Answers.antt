use Rattle.std.proofs.Common.{[]}
use Rattle.plain_tree.specs.At.{changed_at, having_scroll}
use Rattle.plain_tree.specs.Offsets.{scrolled_by}
use Rattle.settled_builds.proofs.Editing.{alike_settled, scroll_alike, offsets_alike, marked_settled}
use Rattle.settled_builds.proofs.laws.lines_leave_settled_trees.Goals as goal

pub returns-clause-scroll : goal.returns-clause-scroll
returns-clause-scroll c = λ b marks root tree scroll wanted h.
    alike_settled b marks root tree (changed_at (having_scroll scroll) wanted tree) (scroll_alike scroll wanted tree) (c.edits_leave_fresh_trees.ensures.scroll b [] b.defaults scroll wanted tree h.fresh) h

pub returns-clause-offsets : goal.returns-clause-offsets
returns-clause-offsets c = λ b marks root tree offset h.
    alike_settled b marks root tree (scrolled_by offset tree) (offsets_alike offset tree) (c.edits_leave_fresh_trees.ensures.offsets b [] b.defaults offset tree h.fresh) h

pub returns-clause-marked : goal.returns-clause-marked
returns-clause-marked c = λ b marks root tree number missing h. marked_settled b marks root tree number missing h

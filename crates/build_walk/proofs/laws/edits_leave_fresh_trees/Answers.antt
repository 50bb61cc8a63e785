use Rattle.std.proofs.Common.{◌++◌}
use Rattle.build_walk.proofs.Editing.{fields_fresh, scroll_fresh, offsets_fresh, more_marked, appended}
use Rattle.build_walk.proofs.laws.edits_leave_fresh_trees.Goals as goal

pub returns-clause-fields : goal.returns-clause-fields
returns-clause-fields c = fields_fresh

pub returns-clause-scroll : goal.returns-clause-scroll
returns-clause-scroll c = scroll_fresh

pub returns-clause-offsets : goal.returns-clause-offsets
returns-clause-offsets c = offsets_fresh

pub returns-clause-marked : goal.returns-clause-marked
returns-clause-marked c = λ b marks more values n h. more_marked b marks (marks ++ more) (appended marks more) values n h

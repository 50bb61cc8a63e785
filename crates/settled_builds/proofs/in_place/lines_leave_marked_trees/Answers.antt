use Rattle.settled_builds.proofs.Marked.{set_marked, again_marked, scroll_marked, offsets_marked, other_marked}
use Rattle.settled_builds.proofs.in_place.lines_leave_marked_trees.Goals as goal

pub returns-clause-set : goal.returns-clause-set
returns-clause-set c = λ b marks root tree n f wanted names h there component. set_marked b wanted root marks f tree n names h there component

pub returns-clause-again : goal.returns-clause-again
returns-clause-again c = λ b marks root tree f wanted h. again_marked b wanted root marks f tree h

pub returns-clause-scroll : goal.returns-clause-scroll
returns-clause-scroll c = λ b marks root tree wanted scroll place h. scroll_marked b wanted root marks tree scroll place h

pub returns-clause-offsets : goal.returns-clause-offsets
returns-clause-offsets c = λ b marks root tree wanted offset h. offsets_marked b wanted root marks tree offset h

pub returns-clause-marked : goal.returns-clause-marked
returns-clause-marked c = λ b marks root tree wanted number missing h. other_marked b wanted root marks number tree missing h

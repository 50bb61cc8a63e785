use Rattle.work_sets.proofs.SeenLemmas.{build_seen, first_seen_all}
use Rattle.work_sets.proofs.laws.builds_enter_their_trees.Goals as goal

pub returns-clause-counted : goal.returns-clause-counted
returns-clause-counted c = build_seen

pub returns-clause-first : goal.returns-clause-first
returns-clause-first c = first_seen_all

use Rattle.layout_walk.proofs.Rounds.{rounds_join, answers_kept, all_laid, round_same, round_here}
use Rattle.layout_walk.proofs.laws.two_rounds_are_one.Goals as goal

pub returns-clause-joined : goal.returns-clause-joined
returns-clause-joined c = rounds_join

pub returns-clause-answers : goal.returns-clause-answers
returns-clause-answers c = answers_kept

pub returns-clause-laid : goal.returns-clause-laid
returns-clause-laid c = all_laid

pub returns-clause-same : goal.returns-clause-same
returns-clause-same c = round_same

pub returns-clause-here : goal.returns-clause-here
returns-clause-here c = round_here

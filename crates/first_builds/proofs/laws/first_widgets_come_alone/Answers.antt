use Rattle.first_builds.proofs.Placing.{arrivals_none, new_alone, none_kept}
use Rattle.first_builds.proofs.laws.first_widgets_come_alone.Goals as goal

pub returns-clause-arrivals : goal.returns-clause-arrivals
returns-clause-arrivals c = λ ws. arrivals_none ws

pub returns-clause-partner : goal.returns-clause-partner
returns-clause-partner c = λ w place. new_alone w place

pub returns-clause-kept : goal.returns-clause-kept
returns-clause-kept c = λ pasts w values. none_kept pasts w values

use Rattle.build_walk.proofs.Opening.{through_entered, under_entered}
use Rattle.build_walk.proofs.steps.widgets_are_entered.Goals as goal

pub returns-clause-through : goal.returns-clause-through
returns-clause-through c = through_entered

pub returns-clause-under : goal.returns-clause-under
returns-clause-under c = λ from pasts phase left k values scrolled at a before mid after t r old half h n e o hs is was for goes own drawn named below.
    under_entered from pasts phase left k values scrolled at a before mid after t r old half h e o hs is was for goes n own drawn named below

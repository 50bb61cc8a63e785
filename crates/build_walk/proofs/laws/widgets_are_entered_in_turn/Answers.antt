use Rattle.build_walk.proofs.Entering.{none_entered, more_entered}
use Rattle.build_walk.proofs.laws.widgets_are_entered_in_turn.Goals as goal

pub returns-clause-none : goal.returns-clause-none
returns-clause-none c = none_entered

pub returns-clause-more : goal.returns-clause-more
returns-clause-more c = λ from pasts phase left values scrolled at arriving a before mid after t u r s old halfway new hs h keeps also all one.
    more_entered from pasts phase left values scrolled at arriving a before mid after t u r s old halfway new hs h
    (λ k e is. c.keep_laws.ensures.value t u k e keeps is) (λ k o is. c.keep_laws-2.ensures.value r s k o also is) all one

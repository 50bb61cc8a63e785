use Rattle.build_walk.proofs.Opening.{waits_below, entered_in_turn}
use Rattle.build_walk.proofs.steps.widgets_are_entered_below.Goals as goal

pub returns-clause-put_off : goal.returns-clause-put_off
returns-clause-put_off c = waits_below

pub returns-clause-in_turn : goal.returns-clause-in_turn
returns-clause-in_turn c = λ from pasts phase left values scrolled at w o before after t r old new hs e all.
    entered_in_turn from pasts phase left values scrolled at w o before t r after old new hs e all

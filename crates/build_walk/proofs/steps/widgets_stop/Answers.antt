use Rattle.build_walk.specs.Keeping.{reenter}
use Rattle.build_walk.proofs.Opening.{no_deeper, not_opened, not_below}
use Rattle.build_walk.proofs.Building.{stops_below, stopped_at}
use Rattle.build_walk.proofs.steps.widgets_stop.Goals as goal

pub returns-clause-depth : goal.returns-clause-depth
returns-clause-depth c = λ from pasts phase left values a s e. no_deeper from pasts phase left 0 values a s e

pub returns-clause-opened : goal.returns-clause-opened
returns-clause-opened c = not_opened

pub returns-clause-below : goal.returns-clause-below
returns-clause-below c = λ from pasts phase left k values a s t o f is was stopped. not_below from pasts phase left k values a s o t is was f stopped

pub returns-clause-in_turn : goal.returns-clause-in_turn
returns-clause-in_turn c = stops_below

pub returns-clause-after : goal.returns-clause-after
returns-clause-after c = λ from pasts phase left values arriving rest a s t ns f done stopped.
    stopped_at (reenter from pasts phase left values) arriving rest a s t ns f done stopped

use Rattle.build_walk.specs.Keeping.{reenter}
use Rattle.build_walk.specs.Counting.{builds_from}
use Rattle.build_walk.proofs.Building.{none_deeper, built_opening, built_entering, none_put_off, each_below, count_more, count_last}
use Rattle.build_walk.proofs.steps.builds_are_counted_in_turn.Goals as goal

pub returns-clause-depth : goal.returns-clause-depth
returns-clause-depth c = λ from pasts phase left values a s e. none_deeper from pasts phase left 0 values a s e

pub returns-clause-opened : goal.returns-clause-opened
returns-clause-opened c = built_opening

pub returns-clause-below : goal.returns-clause-below
returns-clause-below c = λ from pasts phase left k values a s t o is was. built_entering from pasts phase left k values a s o t is was

pub returns-clause-put_off : goal.returns-clause-put_off
returns-clause-put_off c = none_put_off

pub returns-clause-in_turn : goal.returns-clause-in_turn
returns-clause-in_turn c = each_below

pub returns-clause-more : goal.returns-clause-more
returns-clause-more c = λ from pasts phase left values arriving a s t ns done.
    count_more (reenter from pasts phase left values) (builds_from from pasts phase left values) arriving a s t ns done

pub returns-clause-last : goal.returns-clause-last
returns-clause-last c = λ from pasts phase left values arriving rest a s t ns f done stopped.
    count_last (reenter from pasts phase left values) (builds_from from pasts phase left values) arriving rest a s t ns f done stopped

use Rattle.plain_layout.proofs.Lists.{none_placed}
use Rattle.plain_layout.proofs.answers.placed.Goals as goal

pub returns-in-Empty : goal.returns-in-Empty
returns-in-Empty c = none_placed c.args.places.now c.args.slots c.new.result.items c.new.ensures.items c.in-Empty.is

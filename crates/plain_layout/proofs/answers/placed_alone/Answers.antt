use Rattle.std.proofs.Common.{arith}
use Rattle.std.proofs.lemmas.Grind.{common_steps}
use Rattle.plain_layout.proofs.Lists.{placed_end, slot_placed}
use Rattle.plain_layout.proofs.answers.placed_alone.Goals as goal

pub returns-in_ok-push-in-Some-get : goal.returns-in_ok-push-in-Some-get
returns-in_ok-push-in-Some-get c = grind (arith, common_steps, placed_end)

pub returns-in-None : goal.returns-in-None
returns-in-None c = slot_placed c.args.places.now c.args.slot c.new-children.result.items c.new-children.ensures.items c.in-None.is

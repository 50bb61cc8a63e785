use Rattle.program_check.specs.BodyView.{plain_body}
use Rattle.program_check.proofs.GivenLemmas.{Answers-images}
use Rattle.program_check.proofs.bodies.arrange_bodies.Goals as goal

pub returns : goal.returns
returns c = Answers-images plain_body c.arrange.result c.args.count c.args.given.items c.arrange.ensures

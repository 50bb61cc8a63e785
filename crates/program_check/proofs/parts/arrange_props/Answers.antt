use Rattle.fx_expr.specs.View.{exp_of}
use Rattle.program_check.proofs.GivenLemmas.{Answers-images}
use Rattle.program_check.proofs.parts.arrange_props.Goals as goal

pub returns : goal.returns
returns c = Answers-images exp_of c.arrange.result c.args.count c.args.given.items c.arrange.ensures

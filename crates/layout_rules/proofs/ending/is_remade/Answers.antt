use Rattle.layout_rules.proofs.Repainting.{remade_same, remade_other}
use Rattle.layout_rules.proofs.ending.is_remade.Goals as goal

pub returns-clause-same : goal.returns-clause-same
returns-clause-same c = λ e. remade_same c.args.state c.args.frame c.args.plugged c.is_frame.result c.is_frame.ensures e

pub returns-clause-other : goal.returns-clause-other
returns-clause-other c = λ e frames plugs. remade_other c.args.state c.args.frame c.args.plugged c.is_frame.result c.is_frame.ensures e frames plugs

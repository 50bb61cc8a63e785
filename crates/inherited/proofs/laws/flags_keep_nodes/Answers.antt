use Rattle.inherited.proofs.Flagging.{nodes-flagged}
use Rattle.inherited.proofs.laws.flags_keep_nodes.Goals as goal

pub returns : goal.returns
returns c = nodes-flagged

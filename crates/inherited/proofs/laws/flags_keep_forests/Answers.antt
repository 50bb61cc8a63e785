use Rattle.inherited.proofs.Flagging.{Is-flagged, subtree-flagged}
use Rattle.inherited.proofs.laws.flags_keep_forests.Goals as goal

pub returns : goal.returns
returns c = record { forest = Is-flagged; subtree = subtree-flagged }

use Rattle.kept_layers.proofs.Counting.{stale_cost}
use Rattle.kept_layers.proofs.laws.flagged_groups_are_counted.Goals as goal

pub returns : goal.returns
returns c = stale_cost

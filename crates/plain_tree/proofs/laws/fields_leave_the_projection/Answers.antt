use Rattle.plain_tree.proofs.Kept.{projection_same}
use Rattle.plain_tree.proofs.laws.fields_leave_the_projection.Goals as goal

pub returns : goal.returns
returns c = projection_same

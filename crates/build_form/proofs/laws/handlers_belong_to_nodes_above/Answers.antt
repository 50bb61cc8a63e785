use Rattle.build_form.proofs.Owning.{are_owned}
use Rattle.build_form.proofs.laws.handlers_belong_to_nodes_above.Goals as goal

pub returns : goal.returns
returns c = are_owned

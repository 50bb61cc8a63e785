use Rattle.fx_handles.specs.Handle.{same}
use Rattle.handle_groups.proofs.take_from.Goals as goal

pub returns-clause-keys : goal.returns-clause-keys
unfolding same
returns-clause-keys c = λ k. c.swap_remove.ensures.updates.0 k

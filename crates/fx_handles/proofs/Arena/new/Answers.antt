use Rattle.fx_handles.proofs.ArenaLemmas.{new_arena}
use Rattle.fx_handles.proofs.Arena.new.Goals as goal

pub returns : goal.returns
returns g c = new_arena _ c.new.ensures.empty c.new-2.ensures.items

use Rattle.std.proofs.Common.{arith}
use Rattle.fx_handles.proofs.ArenaLemmas.{retired_share}
use Rattle.fx_handles.proofs.Arena.count_laws.Goals as goal

pub returns : goal.returns
returns g c = rw (← c.self.view_is) (record {
  removals = retired_share _ _ _ (omega arith) c.self.invariant.retired;
  few = c.self.invariant.few;
})

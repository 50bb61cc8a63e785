use Rattle.std.proofs.Common.{arith}
use Rattle.fx_handles.proofs.ArenaLemmas.{filled_is, retired_share}
use Rattle.fx_handles.proofs.Arena.retired.Goals as goal

pub overflow_sub-result : goal.overflow_sub-result
overflow_sub-result g c = omega (arith, filled_is c.self.inside.slots.slots, c.self.invariant.counted)

pub returns-clause-value : goal.returns-clause-value
returns-clause-value g c = rw (← c.self.view_is) (omega (arith, filled_is c.self.inside.slots.slots, c.self.invariant.counted))

pub returns-clause-removals : goal.returns-clause-removals
returns-clause-removals g c = rw (← c.self.view_is) (retired_share _ _ _ (omega arith) c.self.invariant.retired)

-- The children so far stand in their orders, and nothing else changes.
use Rattle.std.proofs.Common.{take}
use Rattle.renewed_builds.specs.Taking.{OrdersAll}
use Rattle.renewed_builds.proofs.taking.write_orders.Given as goal

abbrev pub invariant-loop-change : goal.invariant-loop-change
invariant-loop-change l = OrdersAll (take l.change-index l.changes) l.fn.t.tree l.t.tree

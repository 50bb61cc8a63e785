use Rattle.std.proofs.Common.{arith}
use Rattle.handle_shelf.proofs.ShelfLemmas.{retaining-live, retaining-dead}
use Rattle.handle_shelf.proofs.Shelf.retain_live.Goals as goal

pub returns-clause-live : goal.returns-clause-live
returns-clause-live g c = retaining-live _ _ _ _ c.loop-index.invariant.0

pub returns-clause-dead : goal.returns-clause-dead
returns-clause-dead g c = retaining-dead _ _ _ _ c.loop-index.invariant.0 (omega (arith, c.loop-index.invariant.1, c.loop-index-test.false))

use Rattle.std.proofs.Common.{◌≡◌, length}
use Rattle.handle_shelf.proofs.ShelfLemmas.{Retaining}
use Rattle.handle_shelf.proofs.Shelf.retain_live.Given as goal

abbrev pub invariant-loop-index : goal.invariant-loop-index
invariant-loop-index g l = Retaining l.arena l.index l.fn.self.slots l.self-inside.slots.items × (l.index-end ≡ length l.fn.self.slots)

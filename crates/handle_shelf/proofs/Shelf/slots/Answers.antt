use Rattle.std.proofs.Common.{arith}
use Rattle.handle_shelf.proofs.ShelfLemmas.{past_slots}
use Rattle.handle_shelf.proofs.Shelf.slots.Goals as goal

pub returns : goal.returns
returns g c = rw (← c.self.view_is) (λ k past. past_slots c.self.inside.slots.items k (omega (arith, past, c.len.ensures, c.self.inside.slots.ok.0)))

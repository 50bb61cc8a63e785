use Rattle.std.proofs.Common.{sym, ◌∙◌}
use Rattle.handle_shelf.proofs.ShelfLemmas.{kept_is}
use Rattle.handle_shelf.proofs.Shelf.get.Goals as goal

pub returns : goal.returns
returns g c = rw (← c.self.view_is) (rw c.as_slice.ensures.value at c.stored.ensures ∙ sym (kept_is _ c.args.h))

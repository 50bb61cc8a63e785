use Rattle.handle_shelf.proofs.ShelfLemmas.{empty_is}
use Rattle.handle_shelf.proofs.Shelf.new.Goals as goal

pub returns : goal.returns
returns g c = empty_is c.new.result.items c.new.ensures.items

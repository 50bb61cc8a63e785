use Rattle.handle_shelf.proofs.ShelfLemmas.{handle_kept, others_absent}
use Rattle.handle_shelf.proofs.Shelf.handle_in.Goals as goal

pub returns-clause-kept : goal.returns-clause-kept
returns-clause-kept g c = rw (← c.self.view_is) (handle_kept _ c.args.slot _ c.handle_stored.ensures.place (rw c.as_slice.ensures.value at c.handle_stored.ensures.kept))

pub returns-clause-others : goal.returns-clause-others
returns-clause-others g c = rw (← c.self.view_is) (others_absent _ c.args.slot _ (rw c.as_slice.ensures.value at c.handle_stored.ensures.others))

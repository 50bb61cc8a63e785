use Rattle.handle_shelf.proofs.ShelfLemmas.{removed_is, nothing_removed, within_slots}
use Rattle.handle_shelf.proofs.Shelf.remove.Goals as goal

pub returns-then-not-keeps : goal.returns-then-not-keeps
returns-then-not-keeps g c = rw (← c.self.view_is) (nothing_removed _ c.args.h (rw c.as_slice.ensures.value at (c.keeps.ensures.absent c.if-not-keeps.true)))

pub write-requires : goal.write-requires
write-requires g c = within_slots _ c.args.h (rw c.as_slice.ensures.value at (c.keeps.ensures.there c.if-not-keeps.false))

pub returns : goal.returns
returns g c = rw (← c.self.view_is) (removed_is _ _ c.args.h (rw c.as_slice.ensures.value at (c.keeps.ensures.there c.if-not-keeps.false)) c.write.ensures)

use Rattle.paint_owner.proofs.Children.{zero_handle}
use Rattle.paint_owner.proofs.Clearing.{listed_at}
use Rattle.paint_owner.proofs.redoing.redo_all.Goals as goal

pub redo-requires : goal.redo-requires
redo-requires g c = c.requires _ (listed_at c.args.hs.now c.loop-h.h-index zero_handle c.loop-h-test.true)

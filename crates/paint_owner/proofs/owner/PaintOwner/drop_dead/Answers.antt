use Rattle.std.proofs.Common.{refl, sym}
use Rattle.paint_owner.proofs.Dropped.{dropped_kept}
use Rattle.paint_owner.proofs.owner.PaintOwner.drop_dead.Goals as goal

pub returns-clause-kept : goal.returns-clause-kept
returns-clause-kept c = rw (← c.self.view_is) (λ cell delegates kept.
    dropped_kept cell delegates _ _ c.args.tree.now.tree c.root.ensures.tree
    (λ k live. record { parts = sym (c.keep_live.ensures.live k live); whole = sym (c.keep_live-2.ensures.live k live) }) refl refl kept)

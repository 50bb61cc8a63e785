use Rattle.std.proofs.Common.{rules}
use Rattle.handle_shelf.proofs.ShelfLemmas.{put_is, same_kept}
use Rattle.handle_shelf.proofs.Shelf.put.Goals as goal

pub returns-in_err-cover-clause-err : goal.returns-in_err-cover-clause-err
returns-in_err-cover-clause-err g c =
    let kept = same_kept _ _ c.cover.ensures.same in
    rw (← c.self.view_is) (search (rules, kept))

pub returns-clause-ok : goal.returns-clause-ok
returns-clause-ok g c = rw (← c.self.view_is) (put_is _ _ _ c.args.h c.args.value c.cover.ensures.same c.in_ok-cover.ensures.covered c.write.ensures)

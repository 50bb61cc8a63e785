use Rattle.std.proofs.Common.{IsSome, rules}
use Rattle.handle_shelf.specs.Shelf.{kept_at}
use Rattle.paint_owner.proofs.Dropped.{put_or_same}
use Rattle.paint_owner.proofs.boundary_shelf.put_listed.Goals as goal

pub returns-clause-listed : goal.returns-clause-listed
returns-clause-listed g c =
    put_or_same c.put.result c.args.shelf.now c.put.new.self c.args.h c.args.value c.args.handles.now.items c.list.new.handles.items c.requires c.list.ensures.old
    (c.in_ok-list.ensures.own (λ e. let some : IsSome (kept_at c.args.shelf.now c.args.h) = search rules in c.requires c.args.h some)) c.put.ensures.ok c.put.ensures.err

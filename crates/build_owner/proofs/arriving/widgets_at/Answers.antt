use Rattle.build_owner.proofs.Children.{among_at, no_widget}
use Rattle.build_owner.proofs.arriving.widgets_at.Goals as goal

pub unreachable-requires : goal.unreachable-requires
unreachable-requires c = no_widget c.args.t.now.tree _ (c.requires _ (among_at c.args.handles.now c.loop-i.i _ c.loop-i-test.true)) c.in_default.ensures

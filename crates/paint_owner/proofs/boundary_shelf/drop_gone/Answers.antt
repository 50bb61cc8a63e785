use Rattle.handle_shelf.specs.Shelf.{kept_at}
use Rattle.node_tree.specs.Tree.{IsNode}
use Rattle.paint_owner.proofs.Children.{zero_handle}
use Rattle.paint_owner.proofs.Dropped.{not_so, let_go_start, let_go_live, let_go_more, let_go_all}
use Rattle.paint_owner.proofs.boundary_shelf.drop_gone.Goals as goal

pub loop-h-init : goal.loop-h-init
loop-h-init g c = let_go_start (IsNode c.args.tree.now.tree) (kept_at c.args.shelf.now)

pub loop-h-preserved-then-contains : goal.loop-h-preserved-then-contains
loop-h-preserved-then-contains g c =
    let says = rw c.tree.ensures at c.contains.ensures in
    let_go_live (IsNode c.args.tree.now.tree) c.args.handles.now c.loop-h.h-index zero_handle (kept_at c.args.shelf.now) (kept_at c.loop-h.shelf) c.loop-h-test.true c.loop-h.invariant (says.0 c.if-contains.true)

pub loop-h-preserved : goal.loop-h-preserved
loop-h-preserved g c =
    let says = rw c.tree.ensures at c.contains.ensures in
    let_go_more (IsNode c.args.tree.now.tree) c.args.handles.now c.loop-h.h-index zero_handle (kept_at c.args.shelf.now) (kept_at c.loop-h.shelf) (kept_at c.remove.new.self) c.loop-h-test.true c.loop-h.invariant
    (not_so _ _ says c.if-contains.false) c.remove.ensures

pub returns-clause-live : goal.returns-clause-live
returns-clause-live g c = (let_go_all (IsNode c.args.tree.now.tree) c.args.handles.now c.loop-h.h-index (kept_at c.args.shelf.now) (kept_at c.loop-h.shelf) c.loop-h-test.false c.loop-h.invariant).live

pub returns-clause-gone : goal.returns-clause-gone
returns-clause-gone g c = (let_go_all (IsNode c.args.tree.now.tree) c.args.handles.now c.loop-h.h-index (kept_at c.args.shelf.now) (kept_at c.loop-h.shelf) c.loop-h-test.false c.loop-h.invariant).gone

pub returns-clause-empty : goal.returns-clause-empty
returns-clause-empty g c = (let_go_all (IsNode c.args.tree.now.tree) c.args.handles.now c.loop-h.h-index (kept_at c.args.shelf.now) (kept_at c.loop-h.shelf) c.loop-h-test.false c.loop-h.invariant).empty

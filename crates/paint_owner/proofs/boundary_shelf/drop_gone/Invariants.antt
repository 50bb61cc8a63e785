-- What the handles so far let go.
use Rattle.std.proofs.Common.{take}
use Rattle.handle_shelf.specs.Shelf.{kept_at}
use Rattle.node_tree.specs.Tree.{IsNode}
use Rattle.paint_owner.proofs.Dropped.{LetGo}
use Rattle.paint_owner.proofs.boundary_shelf.drop_gone.Given as goal

abbrev pub invariant-loop-h : goal.invariant-loop-h
invariant-loop-h g l = LetGo (IsNode l.tree.tree) (take l.h-index l.handles) (kept_at l.fn.shelf) (kept_at l.shelf)

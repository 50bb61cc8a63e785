-- What is left to do, done now, gives what all of it gives.
use Rattle.std.proofs.Common.{◌≡◌, ◌+◌, drop}
use Rattle.delegates.specs.Table.{meant_in}
use Rattle.kept_layers.specs.Steps.{redo_all, counted}
use Rattle.paint_owner.specs.Finding.{told, cost}
use Rattle.paint_owner.specs.PaintOwner.{kept_in}
use Rattle.paint_owner.proofs.redoing.redo_all.Given as goal

abbrev pub invariant-loop-h : goal.invariant-loop-h
invariant-loop-h g l =
    (redo_all (told l.tree.scale.cell (meant_in l.table (λ v. (g.dyn-1.0.entry v).1)) l.tree.tree) (drop l.h-index l.hs) (kept_in l.parts l.wholes)
    ≡ redo_all (told l.tree.scale.cell (meant_in l.table (λ v. (g.dyn-1.0.entry v).1)) l.tree.tree) l.hs (kept_in l.fn.parts l.fn.wholes))
    × (l.paints + counted (cost l.tree.tree) (drop l.h-index l.hs) ≡ l.fn.paints + counted (cost l.tree.tree) l.hs)

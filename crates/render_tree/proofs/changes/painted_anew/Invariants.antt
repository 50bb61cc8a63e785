use Rattle.std.proofs.Common.{take}
use Rattle.render_tree.specs.Changes.{PaintedAnew}
use Rattle.render_tree.proofs.changes.painted_anew.Given as goal

abbrev pub invariant-loop-entry : goal.invariant-loop-entry
invariant-loop-entry l = PaintedAnew l.tree l.fn.root (take l.entry-index l.plan) l.out.items

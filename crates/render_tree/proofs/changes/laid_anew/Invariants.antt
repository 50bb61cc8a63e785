use Rattle.std.proofs.Common.{take}
use Rattle.render_tree.specs.Changes.{LaidAnew}
use Rattle.render_tree.proofs.changes.laid_anew.Given as goal

abbrev pub invariant-loop-entry : goal.invariant-loop-entry
invariant-loop-entry l = LaidAnew l.tree l.fn.root (take l.entry-index l.plan) l.out.items

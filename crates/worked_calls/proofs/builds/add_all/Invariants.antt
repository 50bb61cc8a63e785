use Rattle.worked_calls.specs.Grown.{AreGrown}
use Rattle.worked_calls.proofs.builds.add_all.Given as goal

abbrev pub invariant-loop-row : goal.invariant-loop-row
invariant-loop-row l = AreGrown l.scroll l.nodes.items l.numbers.items

use Rattle.worked_calls.specs.Grown.{AreGrown}
use Rattle.worked_calls.proofs.builds.build.Given as goal

abbrev pub invariant-loop-rows : goal.invariant-loop-rows
invariant-loop-rows l = AreGrown l.scroll l.nodes.items l.numbers.items

use Rattle.delegates.specs.Table.{meant_in}
use Rattle.worked_calls.specs.Histories.{IsReady}
use Rattle.worked_calls.proofs.screen_steps.Stage.take_all.Given as goal

abbrev pub invariant-loop-i : goal.invariant-loop-i
invariant-loop-i g l = IsReady (meant_in l.self.table (λ v. (g.dyn-1.0.entry v).1)) l.self.screen

use Rattle.delegates.specs.Table.{meant_in}
use Rattle.program_check.specs.CheckedView.{plain_checked}
use Rattle.worked_calls.specs.Framing.{CanGoOn}
use Rattle.worked_calls.proofs.frame_steps.Frames.take_all.Given as goal

abbrev pub invariant-loop-line : goal.invariant-loop-line
invariant-loop-line g l = CanGoOn (plain_checked l.checked) (meant_in l.table (λ v. (g.dyn-1.0.entry v).1)) l.self.root l.self.plain l.self.made l.self.owner

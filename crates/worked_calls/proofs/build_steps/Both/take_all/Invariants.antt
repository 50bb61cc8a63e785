use Rattle.program_check.specs.CheckedView.{plain_checked}
use Rattle.worked_calls.specs.BothBuilds.{AreOfOneTree}
use Rattle.worked_calls.proofs.build_steps.Both.take_all.Given as goal

abbrev pub invariant-loop-line : goal.invariant-loop-line
invariant-loop-line g l = AreOfOneTree (plain_checked l.checked) l.self.root l.self.plain l.self.next l.self.t.tree l.self.r.tree l.self.g

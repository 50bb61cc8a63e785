use Rattle.std.proofs.Common.{◌∙◌, refl, sym}
use Rattle.live_session.specs.EntryStep.{entry_step}
use Rattle.frame_run.proofs.StepLemmas.{lands_done, lands_refused, lands_fault}
use Rattle.frame_run.proofs.WentLemmas.{went_entry}
use Rattle.frame_run.proofs.stage.Script.take_entry.Goals as goal

pub returns-in-Done-clause-lands : goal.returns-in-Done-clause-lands
returns-in-Done-clause-lands g c s lines some stands =
    lands_done (record c.args.self.now { live = c.entry.new.self }) (λ v. (g.dyn-1.0.entry v).1) s lines some (entry_step s c.args.entry.now) (sym c.in-Done.is ∙ c.in_ok-entry.ensures.end s stands.0)
    (c.in_ok-entry.ensures.state s stands.0) stands.1 stands.2

pub returns-in_ok-refuse-in-Refused-clause-lands : goal.returns-in_ok-refuse-in-Refused-clause-lands
returns-in_ok-refuse-in-Refused-clause-lands g c s lines some stands =
    lands_refused c.refuse.new.self (λ v. (g.dyn-1.0.entry v).1) s lines some c.in-Refused.why (entry_step s c.args.entry.now)
    (sym c.in-Refused.is ∙ c.in_ok-entry.ensures.end s stands.0)
    (rw c.in_ok-refuse-in-Refused.ensures.live (c.in_ok-entry.ensures.state s stands.0))
    (c.in_ok-refuse-in-Refused.ensures.lines ∙ stands.1) (rw c.in_ok-refuse-in-Refused.ensures.refused refl)

pub returns-in-Fault-clause-lands : goal.returns-in-Fault-clause-lands
returns-in-Fault-clause-lands g c s lines some stands =
    lands_fault s lines some (entry_step s c.args.entry.now) (sym c.in-Fault.is ∙ c.in_ok-entry.ensures.end s stands.0)

pub returns-in-Done-clause-work : goal.returns-in-Done-clause-work
returns-in-Done-clause-work g c frames s lines some stands caused =
    went_entry (record c.args.self.now { live = c.entry.new.self }) c.entry.new.self frames s lines some c.args.entry.now _ _ _ _ _ _ refl (c.in_ok-entry.ensures.built s stands.0) (c.in_ok-entry.ensures.work frames s stands.0 caused)

pub returns-in_ok-refuse-in-Refused-clause-work : goal.returns-in_ok-refuse-in-Refused-clause-work
returns-in_ok-refuse-in-Refused-clause-work g c frames s lines some stands caused =
    went_entry c.refuse.new.self c.entry.new.self frames s lines some c.args.entry.now _ _ _ _ _ _ c.in_ok-refuse-in-Refused.ensures.live (c.in_ok-entry.ensures.built s stands.0) (c.in_ok-entry.ensures.work frames s stands.0 caused)

pub returns-in-Fault-clause-work : goal.returns-in-Fault-clause-work
returns-in-Fault-clause-work g c frames s lines some stands caused =
    went_entry (record c.args.self.now { live = c.entry.new.self }) c.entry.new.self frames s lines some c.args.entry.now _ _ _ _ _ _ refl (c.in_ok-entry.ensures.built s stands.0) (c.in_ok-entry.ensures.work frames s stands.0 caused)

use Rattle.std.proofs.Common.{[]}
use Rattle.frame_run.specs.Text.{after_last}
use Rattle.frame_run.proofs.stage.Job.end_input.Goals as goal

pub returns-clause-status : goal.returns-clause-status
returns-clause-status g c place raw stands =
    c.end_status.ensures.status (after_last place raw) [] (c.in_ok-take_last.ensures.stands place raw stands.0 stands.1)

pub take_last-requires-clause-holds : goal.take_last-requires-clause-holds
take_last-requires-clause-holds g c = (c.requires.holds.0, c.requires.holds.1, c.requires.holds.2.0)

pub returns-clause-work : goal.returns-clause-work
returns-clause-work g c frames place raw stands caused = c.in_ok-take_last.ensures.work frames place raw stands.0 caused stands.1

use Rattle.frame_run.proofs.stage.Job.end_line.Goals as goal

pub take_line-requires-clause-holds : goal.take_line-requires-clause-holds
take_line-requires-clause-holds g c = (c.requires.holds.0, c.requires.holds.1, c.requires.holds.2.0)

pub returns-clause-work : goal.returns-clause-work
returns-clause-work g c frames place raw stands caused = c.in_ok-take_line.ensures.work frames place raw stands.0 caused stands.1

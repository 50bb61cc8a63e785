use Rattle.worked_calls.proofs.screen_steps.Stage.frame.Goals as goal

pub show-requires-clause-ready : goal.show-requires-clause-ready
show-requires-clause-ready g c = c.requires

pub check-requires : goal.check-requires
check-requires g c = c.in_ok-top.ensures.fits

pub returns : goal.returns
returns g c = c.in_ok-top.ensures.ready

use Rattle.worked_calls.proofs.build_steps.Both.restart.Goals as goal

pub returns : goal.returns
returns c = c.in_ok-both.ensures

use Rattle.worked_calls.proofs.frame_steps.Frames.restart.Goals as goal

pub returns : goal.returns
returns c = c.in_ok-frames.ensures

use Rattle.worked_calls.proofs.frame_steps.Frames.fault.Goals as goal

pub frame-requires : goal.frame-requires
frame-requires g c = c.requires

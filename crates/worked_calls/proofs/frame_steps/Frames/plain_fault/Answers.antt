use Rattle.worked_calls.proofs.frame_steps.Frames.plain_fault.Goals as goal

pub build-requires : goal.build-requires
build-requires g c = c.requires

use Rattle.worked_calls.proofs.frame_steps.Frames.take_all.Goals as goal

pub loop-line-init : goal.loop-line-init
loop-line-init g c = c.requires

pub take-requires : goal.take-requires
take-requires g c = c.loop-line.invariant

pub loop-line-preserved : goal.loop-line-preserved
loop-line-preserved g c = c.in_ok-take.ensures

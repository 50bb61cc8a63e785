use Rattle.worked_calls.proofs.screen_steps.Stage.take_all.Goals as goal

pub loop-i-init : goal.loop-i-init
loop-i-init g c = c.requires

pub take-requires : goal.take-requires
take-requires g c = c.loop-i.invariant

pub loop-i-preserved : goal.loop-i-preserved
loop-i-preserved g c = c.in_ok-take.ensures

pub returns : goal.returns
returns g c = c.loop-i.invariant

use Rattle.std.proofs.lemmas.Result.{on_ok_weaker}
use Rattle.worked_calls.proofs.frame_steps.Frames.fail.Goals as goal

pub plain_fault-requires : goal.plain_fault-requires
plain_fault-requires g c = c.requires

pub fault-requires : goal.fault-requires
fault-requires g c = c.requires

pub returns : goal.returns
returns g c = on_ok_weaker c.restart.result (λ h. h _) c.restart.ensures

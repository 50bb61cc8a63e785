use Rattle.std.proofs.lemmas.Result.{on_ok_weaker}
use Rattle.worked_calls.proofs.frame_steps.Frames.take.Goals as goal

pub set-requires : goal.set-requires
set-requires g c = c.requires.well

pub step-requires : goal.step-requires
step-requires g c = c.requires

pub fail-requires : goal.fail-requires
fail-requires g c = c.requires

pub returns-in-Name : goal.returns-in-Name
returns-in-Name g c = on_ok_weaker c.restart.result (λ h. h _) c.restart.ensures

pub returns-in-Root : goal.returns-in-Root
returns-in-Root g c = on_ok_weaker c.set_root.result (λ h. h _ c.requires) c.set_root.ensures

pub returns-in-Set : goal.returns-in-Set
returns-in-Set g c = on_ok_weaker c.set.result (λ h. h _ c.requires) c.set.ensures

pub returns-in-High : goal.returns-in-High
returns-in-High g c = c.requires

pub returns-in-Built : goal.returns-in-Built
returns-in-Built g c = c.step.ensures

pub returns-in-Fault : goal.returns-in-Fault
returns-in-Fault g c = c.fail.ensures

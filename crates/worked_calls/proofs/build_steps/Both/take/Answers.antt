use Rattle.worked_calls.proofs.build_steps.Both.take.Goals as goal

pub set_root-requires : goal.set_root-requires
set_root-requires g c = c.requires

pub set-requires : goal.set-requires
set-requires g c = c.requires

pub mark-requires : goal.mark-requires
mark-requires g c = c.requires

pub step-requires : goal.step-requires
step-requires g c = c.requires

pub fail-requires : goal.fail-requires
fail-requires g c = c.requires

pub returns-in-Name : goal.returns-in-Name
returns-in-Name g c = c.restart.ensures

pub returns-in-Root : goal.returns-in-Root
returns-in-Root g c = c.set_root.ensures

pub returns-in-Set : goal.returns-in-Set
returns-in-Set g c = c.set.ensures

pub returns-in-Mark : goal.returns-in-Mark
returns-in-Mark g c = c.mark.ensures

pub returns-in-Built : goal.returns-in-Built
returns-in-Built g c = c.step.ensures

pub returns-in-Fault : goal.returns-in-Fault
returns-in-Fault g c = c.fail.ensures

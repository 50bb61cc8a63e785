use Rattle.worked_calls.proofs.build_steps.Both.fail.Goals as goal

pub plain_fault-requires : goal.plain_fault-requires
plain_fault-requires g c = c.requires

pub fault-requires : goal.fault-requires
fault-requires g c = c.requires

pub returns : goal.returns
returns g c = c.restart.ensures

use Rattle.worked_calls.proofs.build_steps.Both.plain_fault.Goals as goal

pub build_plain-requires : goal.build_plain-requires
build_plain-requires g c = c.requires

use Rattle.worked_calls.proofs.build_steps.run_over.Goals as goal

pub take_all-requires : goal.take_all-requires
take_all-requires g c = c.in_ok-both.ensures

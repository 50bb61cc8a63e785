use Rattle.worked_calls.proofs.build_steps.Both.step.Goals as goal

pub build_plain-requires : goal.build_plain-requires
build_plain-requires g c = c.requires

pub follow-requires-clause-both : goal.follow-requires-clause-both
follow-requires-clause-both g c = c.requires

pub follow-requires-clause-built : goal.follow-requires-clause-built
follow-requires-clause-built g c = c.in_ok-built.ensures

pub returns : goal.returns
returns g c = c.in_ok-follow.ensures

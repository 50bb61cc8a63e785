use Rattle.worked_calls.proofs.BothBuilds.{lent_built}
use Rattle.worked_calls.proofs.frame_steps.Frames.build.Goals as goal

pub build-requires-clause-old : goal.build-requires-clause-old
build-requires-clause-old g c = lent_built _ c.as_ref.result c.args.self.now.plain c.as_ref.ensures.value c.requires.well

pub build-requires-clause-root : goal.build-requires-clause-root
build-requires-clause-root g c = c.requires.typed

pub build-requires-clause-size : goal.build-requires-clause-size
build-requires-clause-size g c = c.requires.sized

pub returns : goal.returns
returns g c = c.in_ok-built.ensures.built

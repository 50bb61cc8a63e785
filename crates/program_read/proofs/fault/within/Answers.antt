use Rattle.program_read.proofs.WalkLemmas.{seen-below}
use Rattle.program_read.proofs.fault.within.Goals as goal

pub returns-in-Err : goal.returns-in-Err
returns-in-Err g c = seen-below c.args.step.now c.args.read c.in-Err.stop c.below.result c.in-Err.is c.below.ensures

use Rattle.std.proofs.Common.{decimal}
use Rattle.program_read.proofs.WalkLemmas.{seen-below}
use Rattle.program_read.proofs.fault.at_entry.Goals as goal

pub returns-in-Err : goal.returns-in-Err
returns-in-Err g c = seen-below (decimal c.args.index) c.args.read c.in-Err.stop c.below_entry.result c.in-Err.is c.below_entry.ensures

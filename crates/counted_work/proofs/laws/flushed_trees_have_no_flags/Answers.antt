use Rattle.counted_work.proofs.Flushed.{laid_inside}
use Rattle.counted_work.proofs.Groups.{painted_asked}
use Rattle.counted_work.proofs.laws.flushed_trees_have_no_flags.Goals as goal

pub returns-clause-laid : goal.returns-clause-laid
returns-clause-laid c = laid_inside

pub returns-clause-painted : goal.returns-clause-painted
returns-clause-painted c = painted_asked

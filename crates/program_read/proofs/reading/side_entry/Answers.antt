use Rattle.std.proofs.Common.{decimal}
use Rattle.json_tree.specs.View.{view}
use Rattle.program_read.specs.ProgramWalk.{side_of}
use Rattle.program_read.proofs.WalkLemmas.{gives-within}
use Rattle.program_read.proofs.reading.side_entry.Goals as goal

pub returns : goal.returns
returns c = gives-within (decimal c.args.index) (side_of (view c.args.value.now)) c.read_side.result c.at_entry.result c.read_side.ensures c.at_entry.ensures

use Rattle.std.proofs.Common.{decimal}
use Rattle.json_tree.specs.View.{view}
use Rattle.program_read.specs.Leaves.{type_of}
use Rattle.program_read.proofs.WalkLemmas.{gives-within}
use Rattle.program_read.proofs.leaves.type_entry.Goals as goal

pub returns : goal.returns
returns c = gives-within (decimal c.args.index) (type_of (view c.args.value.now)) c.read_type.result c.at_entry.result c.read_type.ensures c.at_entry.ensures

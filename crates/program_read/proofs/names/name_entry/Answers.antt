use Rattle.std.proofs.Common.{decimal}
use Rattle.json_tree.specs.View.{view}
use Rattle.program_read.specs.Names.{name_of}
use Rattle.program_read.proofs.WalkLemmas.{gives-within}
use Rattle.program_read.proofs.names.name_entry.Goals as goal

pub returns : goal.returns
returns c = gives-within (decimal c.args.index) (name_of (view c.args.value.now)) c.read_name.result c.at_entry.result c.read_name.ensures c.at_entry.ensures

use Rattle.std.proofs.Common.{decimal}
use Rattle.json_tree.specs.View.{view}
use Rattle.program_read.specs.FormWalk.{head_of}
use Rattle.program_read.proofs.WalkLemmas.{gives-within}
use Rattle.program_read.proofs.forms.head_entry.Goals as goal

pub returns : goal.returns
returns c = gives-within (decimal 0) (head_of (view c.args.value.now)) c.read_head.result c.at_entry.result c.read_head.ensures c.at_entry.ensures

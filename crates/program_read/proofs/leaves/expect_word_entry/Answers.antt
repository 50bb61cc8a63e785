use Rattle.std.proofs.Common.{decimal}
use Rattle.json_tree.specs.View.{view}
use Rattle.program_read.specs.Leaves.{word_is}
use Rattle.program_read.proofs.WalkLemmas.{gives-within}
use Rattle.program_read.proofs.leaves.expect_word_entry.Goals as goal

pub returns : goal.returns
returns c = gives-within (decimal c.args.index) (word_is c.args.word.now (view c.args.value.now)) c.expect_word.result c.at_entry.result c.expect_word.ensures c.at_entry.ensures

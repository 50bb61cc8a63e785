use Rattle.std.proofs.Common.{decimal}
use Rattle.json_tree.specs.View.{view}
use Rattle.program_form.specs.FormView.{plain_form}
use Rattle.program_read.specs.FormWalk.{form_of}
use Rattle.program_read.proofs.WalkLemmas.{answers-within}
use Rattle.program_read.proofs.forms.form_entry.Goals as goal

pub returns : goal.returns
returns c = answers-within plain_form (decimal c.args.index) (form_of (view c.args.value.now)) c.read_form.result c.at_entry.result c.read_form.ensures c.at_entry.ensures

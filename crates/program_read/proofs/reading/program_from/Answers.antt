use Rattle.std.proofs.Common.{rules, subst, sym}
use Rattle.json_tree.specs.View.{view, members_view}
use Rattle.serde_json.specs.Data.{object}
use Rattle.program_form.specs.ProgramView.{plain_program}
use Rattle.program_read.specs.Answers.{Answers}
use Rattle.program_read.proofs.ProgramLemmas.{program_of-shaped, program_of-stopped}
use Rattle.program_read.proofs.reading.program_from.Goals as goal

pub returns-in_err-members : goal.returns-in_err-members
returns-in_err-members c = search (rules, program_of-stopped)

pub returns : goal.returns
returns c =
    subst (λ w. Answers plain_program c.program_in.result w)
    (sym (program_of-shaped (view c.args.value) (object (members_view c.in_ok-members.members.items)) c.in_ok-members.ensures.shape c.in_ok-members.ensures.members)) c.program_in.ensures

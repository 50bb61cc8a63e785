use Rattle.std.proofs.Common.{rules, subst, sym}
use Rattle.json_tree.specs.View.{view, members_view}
use Rattle.serde_json.specs.Data.{object}
use Rattle.program_form.specs.ProgramView.{plain_component}
use Rattle.program_read.specs.Answers.{Answers}
use Rattle.program_read.specs.ProgramWalk.{component_of}
use Rattle.program_read.proofs.ProgramLemmas.{component_of-shaped, component_of-stopped}
use Rattle.program_read.proofs.reading.ComponentReaderEntryReader.read.Goals as goal

pub returns-in_err-members : goal.returns-in_err-members
returns-in_err-members c = search (rules, component_of-stopped)

pub returns : goal.returns
returns c =
    let version = c.args.self.now.version in
    let whole = object (members_view c.in_ok-members.members.items) in
    subst (λ d. Answers plain_component c.component_in.result (component_of version d)) c.taken.ensures
    (subst (λ w. Answers plain_component c.component_in.result w)
    (sym (component_of-shaped version (view c.taken.result) whole c.in_ok-members.ensures.shape c.in_ok-members.ensures.members)) c.component_in.ensures)

use Rattle.std.proofs.Common.{Err, ap, ◌∙◌, map}
use Rattle.program_form.specs.ProgramView.{plain_program}
use Rattle.program_form.specs.declared.programs.Component.{Component}
use Rattle.frame_run.proofs.ProgramLemmas.{names_shown, refused_check}
use Rattle.frame_run.proofs.program.checked.Goals as goal

pub returns-in-Err-Bad-clause-refused : goal.returns-in-Err-Bad-clause-refused
returns-in-Err-Bad-clause-refused c fault e =
    let cs = (plain_program c.args.program).components in
    let names = c.in_ok-names.ensures ∙ ap (map (λ (c : Component). c.name)) c.as_slice.ensures.value ∙ names_shown c.args.program.components.items in
    refused_check cs _ c.in-Err-Bad.code c.in-Err-Bad.component _ fault (c.in-Err-Bad.ensures.bad _ _ (ap Err c.in-Err-Bad.field-0-is)) (c.name_at-component.ensures cs names) e

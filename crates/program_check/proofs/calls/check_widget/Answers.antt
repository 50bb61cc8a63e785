use Rattle.std.proofs.Common.{subst, map}
use Rattle.program_check.specs.declared.checked.CheckedParts.{CheckedParts}
use Rattle.program_check.specs.BodyView.{plain_body}
use Rattle.program_check.specs.ProgramCheck.{checked_root}
use Rattle.program_check.specs.Refusals.{AnswersPlaced}
use Rattle.program_form.specs.TemplateView.{plain_template}
use Rattle.program_check.specs.CheckedView.{plain_checked, plain_component}
use Rattle.program_check.proofs.TypedCalls.{typed_root}
use Rattle.program_check.proofs.calls.check_widget.Goals as goal

pub returns-clause-typed : goal.returns-clause-typed
returns-clause-typed c =
    let parts = c.parts-parts.result.now in
    let root = plain_template c.args.t in
    let checked = subst (λ cs. AnswersPlaced plain_body c.check_root.result (checked_root parts.inherited.names (map plain_component cs) root)) c.as_slice.ensures.value c.check_root.ensures in
    typed_root c.check_root.result (plain_checked c.args.c.now) root
    (subst (λ (p : CheckedParts). AnswersPlaced plain_body c.check_root.result (checked_root p.inherited.names (map plain_component p.components.items) root)) c.parts-parts.ensures.parts checked)

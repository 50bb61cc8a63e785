use Rattle.std.proofs.Common.{map, ap, sym, subst}
use Rattle.std.proofs.lemmas.Result.{err_from_is_err_and}
use Rattle.program_form.specs.ProgramView.{plain_component as component_written}
use Rattle.expr_check.specs.Check.{Check, Answers, and_then}
use Rattle.program_check.specs.CheckedView.{signature, plain_component}
use Rattle.program_check.specs.ProgramCheck.{DeclaredNames, new_declarations, component_from}
use Rattle.program_check.proofs.ProgramLemmas.{stops-first}
use Rattle.program_check.proofs.programs.check_component.Goals as goal

pub returns-clause-answer : goal.returns-clause-answer
returns-clause-answer c =
    let body_after = component_from c.args.inherited.now (map signature c.args.earlier.now) c.args.later.now (component_written c.args.component) in
    subst (Answers plain_component c.with_body.result) (sym (ap (λ (w : Check DeclaredNames). and_then w body_after) c.in_ok-props.ensures)) c.with_body.ensures.answer

pub returns-in_err-props-clause-answer : goal.returns-in_err-props-clause-answer
returns-in_err-props-clause-answer c =
    let earlier = map signature c.args.earlier.now in
    let written = component_written c.args.component in
    let p = err_from_is_err_and c.from_residual.result c.from_residual.ensures.1 in
    rw (p.1, p.2) (stops-first c.in_err-props.field-0.0 (new_declarations earlier written) (component_from c.args.inherited.now earlier c.args.later.now written) c.in_err-props.ensures)

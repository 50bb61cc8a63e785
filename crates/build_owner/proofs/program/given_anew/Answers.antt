use Rattle.std.proofs.Common.{length, sym, ap, ◌∙◌, subst, arith}
use Rattle.std.proofs.lemmas.List.{length-map}
use Rattle.std.proofs.lemmas.Result.{err_from_is_err_and}
use Rattle.widget_model.specs.Plain.{widgets_of}
use Rattle.widget_model.specs.Typed.{AreTypedWidgets}
use Rattle.widget_model.specs.View.{shared}
use Rattle.program_check.specs.CheckedView.{plain_checked}
use Rattle.template_build.specs.Program.{declarations_of}
use Rattle.build_form.specs.Step.{gives}
use Rattle.build_owner.proofs.program.given_anew.Goals as goal

pub returns-in_err-given-clause-fault : goal.returns-in_err-given-clause-fault
returns-in_err-given-clause-fault g c =
    let p = err_from_is_err_and c.from_residual.result c.from_residual.ensures.1 in
    rw (p.1, p.2) c.in_err-given.ensures.fault

pub returns-in_err-given-clause-builds_at_fault : goal.returns-in_err-given-clause-builds_at_fault
returns-in_err-given-clause-builds_at_fault g c =
    let p = err_from_is_err_and c.from_residual.result c.from_residual.ensures.1 in
    rw (p.1, p.2) c.in_err-given.ensures.builds_at_fault

pub returns-clause-ok : goal.returns-clause-ok
returns-clause-ok g c = λ s. c.in_ok-given.ensures.ok s ∙ ap (λ ws. gives ws s) (sym c.in_ok-listed.ensures)

pub returns-clause-typed : goal.returns-clause-typed
returns-clause-typed g c = subst (λ ws. AreTypedWidgets (declarations_of (plain_checked c.args.checked.now)) (widgets_of ws)) (sym c.in_ok-listed.ensures) c.in_ok-given.ensures.typed

pub returns-clause-one : goal.returns-clause-one
returns-clause-one g c = λ place props e.
    let one = c.in_ok-given.ensures.one place props e in
    let long = sym (length-map c.in_ok-listed.field-0.items shared) ∙ ap length c.in_ok-listed.ensures in
    omega (arith, one, long)

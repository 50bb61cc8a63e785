use Rattle.std.proofs.Common.{length, map, [], ap, sym, ◌∙◌}
use Rattle.std.proofs.lemmas.Result.{err_from_is_err_and}
use Rattle.std.specs.Vec.Iter.{into_iter_items}
use Rattle.program_form.specs.ProgramView.{plain_component as component_written}
use Rattle.program_check.specs.ProgramCheck.{checked_components}
use Rattle.program_check.proofs.ProgramLemmas.{components-step, components-refused, names-left, decls-more}
use Rattle.program_check.proofs.programs.check_components.Goals as goal

pub loop-component-preserved : goal.loop-component-preserved
loop-component-preserved c =
    let l = c.loop-component in
    let place = length c.as_slice-earlier.result.now in
    let whole = checked_components c.args.inherited.now [] (map component_written (into_iter_items c.into_iter-component-iterator.result)) in
    let step = c.in-Some.ensures.steps.0 in (
      components-step c.args.inherited.now whole c.as_slice-names.result.now _ l.checked.items c.as_slice-earlier.result.now c.push.new.self.items place c.in-Some.component _
          c.in_ok-next.next step l.invariant.0 l.invariant.1 c.as_slice-earlier.ensures.value (ap length c.as_slice-earlier.ensures.value) c.in_ok-next.ensures.answer c.in_ok-push.ensures.items,
      names-left c.as_slice-names.result.now _ l.checked.items c.push.new.self.items c.in-Some.component _ c.in_ok-next.next step l.invariant.1 c.in_ok-push.ensures.items,
      decls-more (length c.args.inherited.now) l.checked.items c.push.new.self.items c.in_ok-next.next l.invariant.2 c.in_ok-next.ensures.decl c.in_ok-push.ensures.items,
    )

pub returns-in_err-next-clause-answer : goal.returns-in_err-next-clause-answer
returns-in_err-next-clause-answer c =
    let l = c.loop-component in
    let place = length c.as_slice-earlier.result.now in
    let whole = checked_components c.args.inherited.now [] (map component_written c.args.components.items) in
    let p = err_from_is_err_and c.from_residual-in_err-next.result c.from_residual-in_err-next.ensures.1 in
    rw (p.1, p.2) (components-refused c.args.inherited.now whole c.as_slice-names.result.now _ l.checked.items c.as_slice-earlier.result.now place c.in-Some.component _
    c.in_err-next.field-0.0 c.in-Some.ensures.steps.0
    (ap (λ cs. checked_components c.args.inherited.now [] (map component_written cs)) (sym c.into_iter-component-iterator.ensures.into_iter_gives.0) ∙ l.invariant.0) l.invariant.1
    c.as_slice-earlier.ensures.value (ap length c.as_slice-earlier.ensures.value) c.in_err-next.ensures.answer)

use Rattle.std.proofs.Common.{map, ◌∷◌, [], ap, ap₂, sym, ◌∙◌}
use Rattle.std.proofs.lemmas.List.{map-append}
use Rattle.fx_expr.specs.View.{exp_of}
use Rattle.program_form.specs.ProgramView.{plain_variable}
use Rattle.expr_check.specs.ExprsView.{plain_typed}
use Rattle.expr_check.specs.ScopeView.{plain_names}
use Rattle.program_check.specs.Checked.{variables_with}
use Rattle.program_check.specs.ProgramCheck.{declared_variables, no_variables}
use Rattle.program_check.proofs.ProgramLemmas.{variables-next}
use Rattle.program_check.proofs.programs.declare_variables.Goals as goal

pub loop-i-preserved : goal.loop-i-preserved
loop-i-preserved c =
    let l = c.loop-i in
    let names = plain_names c.args.names.now in
    let vs = c.args.variables.now in
    let typed = c.in_ok-typed.typed in
    variables-next names (declared_variables names no_variables (map plain_variable vs)) (variables_with l.declared (map exp_of l.values.items))
    (variables_with c.declare.new.declared (map exp_of c.push.new.self.items)) vs l.i c.index-variables-i.result (plain_typed typed)
    c.loop-i-test.true c.index-variables-i.is l.invariant c.in_ok-declare.ensures.answer c.in_ok-typed.ensures.answer
    (ap₂ variables_with (sym c.in_ok-declare.ensures.names)
    (sym (ap (map exp_of) c.in_ok-push.ensures.items ∙ map-append exp_of l.values.items (typed.expr ∷ []))))

use Rattle.std.proofs.Common.{◌≡◌, map, drop}
use Rattle.fx_expr.specs.View.{exp_of}
use Rattle.program_form.specs.ProgramView.{plain_variable}
use Rattle.expr_check.specs.ScopeView.{plain_names}
use Rattle.program_check.specs.Checked.{variables_with}
use Rattle.program_check.specs.ProgramCheck.{declared_variables, no_variables}
use Rattle.program_check.proofs.programs.declare_variables.Given as goal

abbrev pub invariant-loop-i : goal.invariant-loop-i
invariant-loop-i l =
    declared_variables (plain_names l.names) no_variables (map plain_variable l.variables)
    ≡ declared_variables (plain_names l.names) (variables_with l.declared (map exp_of l.values.items)) (map plain_variable (drop l.i l.variables))

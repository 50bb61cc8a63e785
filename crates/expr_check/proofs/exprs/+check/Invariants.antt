use Rattle.std.proofs.Common.{◌≡◌, ◌+◌, ◌*◌, map, drop, vec_len}
use Rattle.fx_expr.specs.View.{exp_of}
use Rattle.program_form.specs.Form.{operands_in}
use Rattle.program_form.specs.FormView.{plain_form}
use Rattle.expr_check.specs.ScopeView.{plain_names}
use Rattle.expr_check.specs.Wants.{none_seen}
use Rattle.expr_check.specs.Exprs.{typed_forms, typed_operands}
use Rattle.expr_check.proofs.ExprsLemmas.{form_depth, forms_depth, check_of, resumed}
use Rattle.expr_check.proofs.exprs.+check.Given as goal

abbrev pub decreases-typed_form : goal.decreases-typed_form
decreases-typed_form l = 4 * form_depth (plain_form l.form.now)

abbrev pub decreases-typed_operation : goal.decreases-typed_operation
decreases-typed_operation l = 4 * forms_depth (operands_in (map plain_form l.operands.now)) + 2

abbrev pub decreases-typed_operands : goal.decreases-typed_operands
decreases-typed_operands l = 4 * forms_depth (operands_in (map plain_form l.operands.now)) + 1

abbrev pub invariant-typed_operands-loop-i : goal.invariant-typed_operands-loop-i
invariant-typed_operands-loop-i l = record {
  rest :
      typed_operands l.operator none_seen (typed_forms (plain_names l.names) (operands_in (map plain_form l.operands)))
      ≡ resumed (map exp_of l.exprs.items) (typed_operands l.operator l.seen (map (check_of (plain_names l.names)) (drop l.i l.operands)));
  count : vec_len l.exprs ≡ l.i;
}

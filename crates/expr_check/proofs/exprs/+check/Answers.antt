use Rattle.std.proofs.Common.{arith, map, ap, sym, ◌∙◌}
use Rattle.fx_expr.specs.View.{exp_of}
use Rattle.expr_check.specs.ScopeView.{plain_names}
use Rattle.expr_check.specs.Wants.{none_seen}
use Rattle.expr_check.specs.Exprs.{typed_operands}
use Rattle.expr_check.proofs.ExprsLemmas.{typed_forms-map, check_of, depth-operand, resumed, resumed-none}
use Rattle.expr_check.proofs.exprs.+check.Goals as goal

pub typed_operands-loop-i-init : goal.typed_operands-loop-i-init
typed_operands-loop-i-init t c =
    let names = plain_names c.args.names.now in
    let checks = typed_operands c.args.operator none_seen (map (check_of names) c.args.operands.now) in
    record {
      rest =
          ap (typed_operands c.args.operator none_seen) (typed_forms-map names c.args.operands.now) ∙ resumed-none checks
          ∙ ap (λ es. resumed (map exp_of es) checks) (sym c.new-exprs.ensures.items);
      count = c.new-exprs.ensures.len;
    }

pub typed_operands-typed_form-requires : goal.typed_operands-typed_form-requires
typed_operands-typed_form-requires t c =
    let less = depth-operand c.args.operands.now c.loop-i.i c.index-operands-i.result c.loop-i-test.true c.index-operands-i.is in
    (omega (arith, less, c.decreases), tt)

-- Expressions of the program with their types, as plain data.
use Rattle.std.specs.Prelude.{map}
use Rattle.fx_expr.specs.View.{exp_of}
use Rattle.expr_check.specs.declared.exprs.TypedExpr.{TypedExpr}
use Rattle.expr_check.specs.declared.exprs.Operands.{Operands}
use Rattle.expr_check.specs.Exprs.{TypedExp, typed, TypedOperands, operands_with}

abbrev pub plain_typed : TypedExpr → TypedExp
plain_typed e = typed (exp_of e.expr) e.ty

abbrev pub plain_operands : Operands → TypedOperands
plain_operands o = operands_with (map exp_of o.exprs.items) o.seen

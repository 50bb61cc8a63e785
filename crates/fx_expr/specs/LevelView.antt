-- What a program sees of one level of an expression.
use Rattle.std.specs.Prelude.{ℕ, ◌<◌, Option, Some, None}
use Rattle.std.specs.Option.{option_map}
use Rattle.std.specs.Borrow.{Bor}
use Rattle.fx_expr.specs.declared.exprs.Expr.{Expr, size-Expr}
use Rattle.fx_expr.specs.declared.exprs.ExprList.{ExprList, size-ExprList}
use Rattle.fx_expr.specs.declared.sameness.ExprParts.{ExprParts}
use Rattle.fx_expr.specs.Exp.{Exp, Exps, exps_of}
use Rattle.fx_expr.specs.View.{exp_of, list_of}
use Rattle.fx_expr.specs.Level.{Level}

abbrev pub items_in : Option (Bor ExprList) → Option Exps
items_in o = option_map (λ l. exps_of (list_of l.now)) o

abbrev pub operand_in : Option (Bor Expr) → Option Exp
operand_in o = option_map (λ e. exp_of e.now) o

abbrev pub seen : ExprParts → Level
seen p = record {
  form = p.form;
  place = p.place;
  value = option_map (λ v. v.now) p.value;
  items = items_in p.items;
  first = operand_in p.first;
  second = operand_in p.second;
  third = operand_in p.third;
}

-- how deep an operand or a list is
abbrev pub operand_depth : Option (Bor Expr) → ℕ
operand_depth None = 0
operand_depth (Some e) = size-Expr e.now

abbrev pub items_depth : Option (Bor ExprList) → ℕ
items_depth None = 0
items_depth (Some l) = size-ExprList l.now

-- what stands in a form is less deep than n
pub record AreBelow (n : ℕ) (p : ExprParts) : Type 0 where
  pub items : items_depth p.items < n
  pub first : operand_depth p.first < n
  pub second : operand_depth p.second < n
  pub third : operand_depth p.third < n

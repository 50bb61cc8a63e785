-- An expression of the program, and a scope, as plain data.
use Rattle.std.specs.Prelude.{ℕ, List}
use Rattle.fx_expr.specs.declared.exprs.Expr.{Expr, Expr-F, fold-Expr}
use Rattle.fx_expr.specs.declared.exprs.Expr.TheOpen as one
use Rattle.fx_expr.specs.declared.exprs.ExprList.{ExprList, ExprList-F, fold-ExprList}
use Rattle.fx_expr.specs.Exp.{Exp, literal, field, prop, variable, inherited, event_dx, event_dy, ints, texts, add, subtract, multiply, divide, rest, equal, less, both, either, negated, choose, cat, len, item, push, without, reversed, range, show, exps_of}

-- one form, whose operands are plain data already
abbrev pub exp_step : Expr-F Exp (List Exp) → Exp
exp_step (one.Literal v) = literal v
exp_step (one.Field i) = field i
exp_step (one.Prop i) = prop i
exp_step (one.Var i) = variable i
exp_step (one.Inherit i) = inherited i
exp_step one.EventDx = event_dx
exp_step one.EventDy = event_dy
exp_step (one.Ints es) = ints (exps_of es)
exp_step (one.Texts es) = texts (exps_of es)
exp_step (one.Add a b) = add a.value b.value
exp_step (one.Sub a b) = subtract a.value b.value
exp_step (one.Mul a b) = multiply a.value b.value
exp_step (one.Div a b) = divide a.value b.value
exp_step (one.Mod a b) = rest a.value b.value
exp_step (one.Equal a b) = equal a.value b.value
exp_step (one.Less a b) = less a.value b.value
exp_step (one.And a b) = both a.value b.value
exp_step (one.Or a b) = either a.value b.value
exp_step (one.Not a) = negated a.value
exp_step (one.If c a b) = choose c.value a.value b.value
exp_step (one.Cat a b) = cat a.value b.value
exp_step (one.Len l) = len l.value
exp_step (one.At l i d) = item l.value i.value d.value
exp_step (one.Push l x) = push l.value x.value
exp_step (one.Drop l i) = without l.value i.value
exp_step (one.Reverse l) = reversed l.value
exp_step (one.Range n) = range n.value
exp_step (one.Show n) = show n.value

abbrev pub list_step : ExprList-F Exp (List Exp) → List Exp
list_step l = l.items.items

-- an expression of the program as plain data
abbrev pub exp_of : Expr → Exp
exp_of = fold-Expr Exp (List Exp) exp_step list_step

-- a list of expressions as plain data
abbrev pub list_of : ExprList → List Exp
list_of = fold-ExprList Exp (List Exp) exp_step list_step

-- a handler's set: a field's place, and what it is set to
abbrev pub set_of : ℕ × Expr → ℕ × Exp
set_of p = (p.0, exp_of p.1)

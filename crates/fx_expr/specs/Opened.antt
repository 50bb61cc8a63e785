-- What a program sees of one level of an expression.
use Rattle.std.specs.Prelude.{ℕ, ◌<◌}
use Rattle.fx_expr.specs.declared.exprs.Expr.{size-Expr}
use Rattle.fx_expr.specs.declared.exprs.ExprList.{size-ExprList}
use Rattle.fx_expr.specs.declared.opened.Opened.{Opened}
use Rattle.fx_expr.specs.declared.opened.Opened.TheVariants as opened
use Rattle.fx_expr.specs.Exp.{Exp, literal, field, prop, variable, inherited, event_dx, event_dy, ints, texts, exps_of}
use Rattle.fx_expr.specs.Forms.{one_of, two_of, three_of}
use Rattle.fx_expr.specs.View.{exp_of, list_of}

-- the expression whose level it is
abbrev pub form_in : Opened → Exp
form_in (opened.Literal v) = literal v.now
form_in (opened.Field i) = field i
form_in (opened.Prop i) = prop i
form_in (opened.Var i) = variable i
form_in (opened.Inherit i) = inherited i
form_in opened.EventDx = event_dx
form_in opened.EventDy = event_dy
form_in (opened.Ints es) = ints (exps_of (list_of es.now))
form_in (opened.Texts es) = texts (exps_of (list_of es.now))
form_in (opened.One f a) = one_of f (exp_of a.now)
form_in (opened.Two f a b) = two_of f (exp_of a.now) (exp_of b.now)
form_in (opened.Three f a b c) = three_of f (exp_of a.now) (exp_of b.now) (exp_of c.now)

-- what stands in it is less deep than n
abbrev pub AreLess : ℕ → Opened → Type 0
AreLess n (opened.Literal v) = Unit {0}
AreLess n (opened.Field i) = Unit {0}
AreLess n (opened.Prop i) = Unit {0}
AreLess n (opened.Var i) = Unit {0}
AreLess n (opened.Inherit i) = Unit {0}
AreLess n opened.EventDx = Unit {0}
AreLess n opened.EventDy = Unit {0}
AreLess n (opened.Ints es) = size-ExprList es.now < n
AreLess n (opened.Texts es) = size-ExprList es.now < n
AreLess n (opened.One f a) = size-Expr a.now < n
AreLess n (opened.Two f a b) = (size-Expr a.now < n) × (size-Expr b.now < n)
AreLess n (opened.Three f a b c) = (size-Expr a.now < n) × (size-Expr b.now < n) × (size-Expr c.now < n)

-- The depth of what a call is given; and the items so far are those before e, each closed.
use Rattle.std.proofs.Common.{◌≡◌, ◌+◌, ◌*◌, map, take}
use Rattle.fx_expr.specs.declared.exprs.Expr.{size-Expr}
use Rattle.fx_expr.specs.declared.exprs.ExprList.{size-ExprList}
use Rattle.fx_expr.specs.Closed.{closed}
use Rattle.fx_expr.specs.View.{exp_of}
use Rattle.fx_expr.specs.ScopeView.{env_of}
use Rattle.fx_expr.proofs.closing.+close.Given as goal

abbrev pub decreases-substituted : goal.decreases-substituted
decreases-substituted l = 2 * size-Expr l.e.now

abbrev pub decreases-boxed : goal.decreases-boxed
decreases-boxed l = 2 * size-Expr l.e.now + 1

abbrev pub decreases-all : goal.decreases-all
decreases-all l = 2 * size-ExprList l.es.now + 1

abbrev pub invariant-all-loop-e : goal.invariant-all-loop-e
invariant-all-loop-e l = map exp_of l.items.items ≡ map (λ e. closed (exp_of e) (env_of l.s)) (take l.e-index l.e-items)

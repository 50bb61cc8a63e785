-- The depth of the expressions that a call is given, and what the loops have made so far.
use Rattle.std.proofs.Common.{◌≡◌, ◌+◌, ◌*◌, max, map, take}
use Rattle.fx_expr.specs.declared.exprs.Expr.{size-Expr}
use Rattle.fx_expr.specs.declared.exprs.ExprList.{size-ExprList}
use Rattle.fx_expr.specs.Value.{int_in, text_in}
use Rattle.fx_expr.specs.ValueOf.{value_of}
use Rattle.fx_expr.specs.View.{exp_of}
use Rattle.fx_expr.specs.ScopeView.{env_of}
use Rattle.fx_expr.proofs.evaluate.+eval.Given as goal

abbrev pub decreases-evaluated : goal.decreases-evaluated
decreases-evaluated l = 3 * size-Expr l.e.now

abbrev pub decreases-eval_int : goal.decreases-eval_int
decreases-eval_int l = 3 * size-Expr l.e.now + 1

abbrev pub decreases-eval_text : goal.decreases-eval_text
decreases-eval_text l = 3 * size-Expr l.e.now + 1

abbrev pub decreases-eval_choice : goal.decreases-eval_choice
decreases-eval_choice l = 3 * max (size-Expr l.c.now) (max (size-Expr l.a.now) (size-Expr l.b.now)) + 2

abbrev pub decreases-eval_item : goal.decreases-eval_item
decreases-eval_item l = 3 * max (size-Expr l.l.now) (max (size-Expr l.i.now) (size-Expr l.d.now)) + 2

abbrev pub decreases-eval_ints : goal.decreases-eval_ints
decreases-eval_ints l = 3 * size-ExprList l.es.now + 1

abbrev pub decreases-eval_texts : goal.decreases-eval_texts
decreases-eval_texts l = 3 * size-ExprList l.es.now + 1

abbrev pub invariant-eval_ints-loop-e : goal.invariant-eval_ints-loop-e
invariant-eval_ints-loop-e l = l.numbers.items ≡ map (λ e. int_in (value_of (exp_of e) (env_of l.s))) (take l.e-index l.e-items)

abbrev pub invariant-eval_texts-loop-e : goal.invariant-eval_texts-loop-e
invariant-eval_texts-loop-e l = l.texts.items ≡ map (λ e. text_in (value_of (exp_of e) (env_of l.s))) (take l.e-index l.e-items)

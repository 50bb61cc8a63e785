use Rattle.std.proofs.Common.{Result, Ok, Err}
use Rattle.program_form.specs.FormView.{plain_form}
use Rattle.fx_expr.specs.View.{exp_of}
use Rattle.program_form.specs.Form.{PlainForm}
use Rattle.expr_check.specs.declared.exprs.TypedExpr.{TypedExpr}
use Rattle.expr_check.specs.declared.fault.CheckStop.{CheckStop}
use Rattle.expr_check.specs.Check.{Answers}
use Rattle.expr_check.specs.Names.{PlainNames}
use Rattle.expr_check.specs.Sight.{sight_of, IsTypedIn}
use Rattle.expr_check.specs.ScopeView.{plain_names}
use Rattle.expr_check.specs.Exprs.{typed_form}
use Rattle.expr_check.specs.ExprsView.{plain_typed}
use Rattle.std.specs.Result.{IfOk}
use Rattle.expr_check.proofs.Seeing.{typed_form-typed}
use Rattle.expr_check.proofs.exprs.check_form.Goals as goal

typed_if : (names : PlainNames) (f : PlainForm) (r : Result TypedExpr CheckStop) → Answers plain_typed r (typed_form names f)
    → IfOk r (λ e. IsTypedIn (sight_of names) (exp_of e.expr) e.ty)
typed_if names f (Ok e) h = typed_form-typed names f (plain_typed e) h
typed_if names f (Err stop) h = tt

pub returns-clause-typed : goal.returns-clause-typed
returns-clause-typed c = typed_if (plain_names c.args.names.now) (plain_form c.args.form.now) c.typed_form.result c.typed_form.ensures

-- What the result of closing an expression keeps, where there is one.
use Rattle.std.proofs.Common.{◌≡◌, map, sym, ◌∙◌, ap, Result, Ok, Err, IfOk, subst}
use Rattle.fx_expr.specs.declared.values.Ty.{Ty}
use Rattle.fx_expr.specs.declared.exprs.Expr.{Expr}
use Rattle.fx_expr.specs.Value.{type_of}
use Rattle.fx_expr.specs.Exp.{Exp}
use Rattle.fx_expr.specs.Scope.{Env, types_in, with_names, field_types_alone}
use Rattle.fx_expr.specs.ValueOf.{value_of}
use Rattle.fx_expr.specs.Typed.{IsTyped}
use Rattle.fx_expr.specs.Closed.{closed, IsClosed}
use Rattle.fx_expr.specs.ClosingLaws.{value_of-closed, closed-IsClosed, closed-typed}
use Rattle.fx_expr.specs.View.{exp_of}

pub result_names : {E : Type 0} (r : Result Expr E) (e : Exp) (s : Env) → IfOk r (λ c. exp_of c ≡ closed e s) → IfOk r (λ c. IsClosed (exp_of c))
result_names (Ok c) e s is = subst IsClosed (sym is) (closed-IsClosed e s)
result_names (Err x) e s is = tt

pub result_value : {E : Type 0} (r : Result Expr E) (e : Exp) (s : Env) → IfOk r (λ c. exp_of c ≡ closed e s)
    → IfOk r (λ c. (later : Env) → value_of (exp_of c) later ≡ value_of e (with_names s later))
result_value (Ok c) e s is = λ later. ap (λ x. value_of x later) is ∙ value_of-closed e s later
result_value (Err x) e s is = tt

pub result_typed : {E : Type 0} (r : Result Expr E) (e : Exp) (s : Env) → IfOk r (λ c. exp_of c ≡ closed e s)
    → IfOk r (λ c. (t : Ty) → IsTyped (types_in s) e t → IsTyped (field_types_alone (map type_of s.fields)) (exp_of c) t)
result_typed (Ok c) e s is = λ t h. subst (λ x. IsTyped (field_types_alone (map type_of s.fields)) x t) (sym is) (closed-typed e s t h)
result_typed (Err x) e s is = tt

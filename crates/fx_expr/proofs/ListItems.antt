-- Lists of expressions, item by item.
use Rattle.std.proofs.Common.{◌≡◌, ℕ, zero, suc, ◌<◌, ◌≤◌, ℤ, List, [], ◌∷◌, length, map, take, get_or, Result, Ok, Err, IfOk, refl, sym, ◌∙◌, ap, subst, arith, rules}
use Rattle.std.proofs.lemmas.List.{take_all}
use Rattle.fx_expr.specs.declared.values.Value.{Value}
use Rattle.fx_expr.specs.declared.values.Ty.{Ty}
use Rattle.fx_expr.specs.declared.exprs.Expr.{Expr, the_lemmas}
use Rattle.fx_expr.specs.declared.exprs.ExprList.{ExprList, out-ExprList}
use Rattle.fx_expr.specs.Value.{type_of, int_in, text_in}
use Rattle.fx_expr.specs.Closed.{closed, all_closed}
use Rattle.fx_expr.specs.Exp.{Exp, exp, exps_of}
use Rattle.fx_expr.specs.Scope.{Env, Types, types_in}
use Rattle.fx_expr.specs.ValueOf.{value_of, values_of}
use Rattle.fx_expr.specs.Typed.{IsTyped, AreTyped}
use Rattle.fx_expr.specs.View.{exp_of, list_of}
use Rattle.fx_expr.proofs.Typing.{typed_as}

-- what a list of expressions shows is its items, each as plain data
pub list_of-items : (es : ExprList) → list_of es ≡ map exp_of (out-ExprList es).items.items
list_of-items es = search (rules, the_lemmas)

-- each item of a typed list is typed
item_typed_at : (T : Types) (xs : List Expr) (t : Ty) (k : ℕ) (d : Expr) → AreTyped T (exps_of (map exp_of xs)) t → k < length xs → IsTyped T (exp_of (get_or xs k d)) t
item_typed_at T [] t k d h below = absurd (omega arith)
item_typed_at T (x ∷ xs) t zero d h below = h.0
item_typed_at T (x ∷ xs) t (suc k) d h below = item_typed_at T xs t k d h.1 (omega arith)

pub item_typed_in : (T : Types) (es : ExprList) (xs : List Expr) (t : Ty) (k : ℕ) (x : Expr)
    → AreTyped T (exps_of (list_of es)) t → xs ≡ (out-ExprList es).items.items → k < length xs → x ≡ get_or xs k x → IsTyped T (exp_of x) t
item_typed_in T es xs t k x h shown below at =
    let e : list_of es ≡ map exp_of xs = list_of-items es ∙ ap (map exp_of) (sym shown) in
    let h' = subst (λ l. AreTyped T (exps_of l) t) e h in
    subst (λ y. IsTyped T (exp_of y) t) (sym at) (item_typed_at T xs t k x h' below)

-- the values of a list's items
ints_of-map : (xs : List Expr) (s : Env) → map int_in (values_of (exps_of (map exp_of xs)) s) ≡ map (λ e. int_in (value_of (exp_of e) s)) xs
ints_of-map [] s = refl
ints_of-map (x ∷ xs) s = ap (λ l. int_in (value_of (exp_of x) s) ∷ l) (ints_of-map xs s)

texts_of-map : (xs : List Expr) (s : Env) → map text_in (values_of (exps_of (map exp_of xs)) s) ≡ map (λ e. text_in (value_of (exp_of e) s)) xs
texts_of-map [] s = refl
texts_of-map (x ∷ xs) s = ap (λ l. text_in (value_of (exp_of x) s) ∷ l) (texts_of-map xs s)

pub ints_made : (es : ExprList) (xs : List Expr) (s : Env) (k : ℕ) (made : List ℤ)
    → xs ≡ (out-ExprList es).items.items → length xs ≤ k → made ≡ map (λ e. int_in (value_of (exp_of e) s)) (take k xs)
    → made ≡ map int_in (values_of (exps_of (list_of es)) s)
ints_made es xs s k made shown end is =
    let e : list_of es ≡ map exp_of xs = list_of-items es ∙ ap (map exp_of) (sym shown) in
    is ∙ ap (map (λ e. int_in (value_of (exp_of e) s))) (take_all k xs end) ∙ sym (ints_of-map xs s) ∙ ap (λ l. map int_in (values_of (exps_of l) s)) (sym e)

pub texts_made : (es : ExprList) (xs : List Expr) (s : Env) (k : ℕ) (made : List (List ℕ))
    → xs ≡ (out-ExprList es).items.items → length xs ≤ k → made ≡ map (λ e. text_in (value_of (exp_of e) s)) (take k xs)
    → made ≡ map text_in (values_of (exps_of (list_of es)) s)
texts_made es xs s k made shown end is =
    let e : list_of es ≡ map exp_of xs = list_of-items es ∙ ap (map exp_of) (sym shown) in
    is ∙ ap (map (λ e. text_in (value_of (exp_of e) s))) (take_all k xs end) ∙ sym (texts_of-map xs s) ∙ ap (λ l. map text_in (values_of (exps_of l) s)) (sym e)

-- closing a list closes each item
exps_of-closed : (xs : List Expr) (s : Env) → exps_of (map (λ e. closed (exp_of e) s) xs) ≡ all_closed (exps_of (map exp_of xs)) s
exps_of-closed [] s = refl
exps_of-closed (x ∷ xs) s = ap (λ l. exp (closed (exp_of x) s) l) (exps_of-closed xs s)

pub items_closed : (es : ExprList) (xs : List Expr) (s : Env) (k : ℕ) (made : List Exp)
    → xs ≡ (out-ExprList es).items.items → length xs ≤ k → made ≡ map (λ e. closed (exp_of e) s) (take k xs)
    → exps_of made ≡ all_closed (exps_of (list_of es)) s
items_closed es xs s k made shown end is =
    let e : list_of es ≡ map exp_of xs = list_of-items es ∙ ap (map exp_of) (sym shown) in
    ap exps_of (is ∙ ap (map (λ e. closed (exp_of e) s)) (take_all k xs end)) ∙ exps_of-closed xs s ∙ ap (λ l. all_closed (exps_of l) s) (sym e)

-- a result that is an expression's value has the expression's types
pub result_typed : {E : Type 0} (e : Exp) (s : Env) (r : Result Value E) → IfOk r (λ v. v ≡ value_of e s)
    → IfOk r (λ v. (t : Ty) → IsTyped (types_in s) e t → type_of v ≡ t)
result_typed e s (Ok v) is = λ t h. typed_as e s t v h is
result_typed e s (Err x) is = tt

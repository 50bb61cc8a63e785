-- What the comparison of parts says of wholes.
use Rattle.std.proofs.Common.{◌≡◌, ◌↔◌, ℕ, ◌<◌, ◌≤◌, Bool, true, false, IsTrue, List, [], ◌∷◌, length, map, take, get_or, Option, Some, Bor, Decides, refl, sym, ◌∙◌, ap}
use Rattle.std.specs.Cmp.Lexicographic.{pointwise, pointwise_decides}
use Rattle.fx_expr.specs.contracts.values.ValuePartialEq.TheImpl.{ghosts}
use Rattle.fx_expr.specs.declared.values.Value.{Value}
use Rattle.fx_expr.specs.declared.exprs.Expr.{Expr}
use Rattle.fx_expr.specs.declared.exprs.ExprList.{ExprList, out-ExprList}
use Rattle.fx_expr.specs.Exp.{Exp, Exps, no_exps, exp, exps_of}
use Rattle.fx_expr.specs.View.{exp_of, list_of}
use Rattle.fx_expr.specs.LevelView.{items_in}
use Rattle.fx_expr.proofs.ListItems.{list_of-items}
use Rattle.fx_expr.specs.ValueLaws.{value_eq-Decides, eq_tests}
use Rattle.fx_expr.proofs.Agreeing.{agree_all, agree_at}

-- a test of one thing tests another that follows from it and from which it follows
pub tells : {P Q : Type 0} (r : Bool) → (P → Q) → (Q → P) → IsTrue r ↔ P → IsTrue r ↔ Q
tells r there back h = (λ t. there (h.0 t), λ q. h.1 (back q))

-- where the items at one place differ, so do the lists
pub place_differs : {A B : Type 0} (view : A → B) (xs ys : List A) (i : ℕ) (x y : A) → i < length xs → x ≡ get_or xs i x → y ≡ get_or ys i y
    → IsTrue false ↔ (view x ≡ view y) → IsTrue false ↔ (map view xs ≡ map view ys)
place_differs view xs ys i x y below at_x at_y h = (λ t. cc, λ same. h.1 (agree_at view xs ys i x y below at_x at_y same))

-- where all places agree, the lists are the same
pub places_agree : {A B : Type 0} (view : A → B) (xs ys : List A) (i : ℕ) → length xs ≤ i → length ys ≤ i → take i (map view xs) ≡ take i (map view ys)
    → IsTrue true ↔ (map view xs ≡ map view ys)
places_agree view xs ys i end_xs end_ys so_far = (λ t. agree_all view xs ys i end_xs end_ys so_far, λ same. refl)

-- the same of what two lists of expressions show
pub items_tell : (a b : ExprList) (xs ys : List Expr) (r : Bool) → xs ≡ (out-ExprList a).items.items → ys ≡ (out-ExprList b).items.items
    → IsTrue r ↔ (map exp_of xs ≡ map exp_of ys) → IsTrue r ↔ (list_of a ≡ list_of b)
items_tell a b xs ys r is_xs is_ys h =
    let shown_a : list_of a ≡ map exp_of xs = list_of-items a ∙ ap (map exp_of) (sym is_xs) in
    let shown_b : list_of b ≡ map exp_of ys = list_of-items b ∙ ap (map exp_of) (sym is_ys) in
    tells r (λ e. shown_a ∙ e ∙ sym shown_b) (λ e. sym shown_a ∙ e ∙ shown_b) h

abbrev exps_back : Exps → List Exp
exps_back no_exps = []
exps_back (exp e es) = e ∷ exps_back es

exps_back-exps_of : (es : List Exp) → exps_back (exps_of es) ≡ es
exps_back-exps_of [] = refl
exps_back-exps_of (e ∷ es) = ap (λ l. e ∷ l) (exps_back-exps_of es)

exps_inside : (x y : Exps) → Some x ≡ Some y → x ≡ y
exps_inside x y e = cc

pub lists_tell : (o p : Option (Bor ExprList)) (a b : Bor ExprList) (r : Bool) → o ≡ Some a → p ≡ Some b
    → IsTrue r ↔ (list_of a.now ≡ list_of b.now) → IsTrue r ↔ (items_in o ≡ items_in p)
lists_tell o p a b r is_o is_p h =
    tells r
    (λ e. ap items_in is_o ∙ ap (λ l. Some (exps_of l)) e ∙ sym (ap items_in is_p))
    (λ e. sym (exps_back-exps_of (list_of a.now)) ∙ ap exps_back (exps_inside (exps_of (list_of a.now)) (exps_of (list_of b.now)) (sym (ap items_in is_o) ∙ e ∙ ap items_in is_p)) ∙ exps_back-exps_of (list_of b.now))
    h

-- the derived `==` of values, item by item
pub values_decide : (vs ws : List Value) → Decides (pointwise (ghosts).eq vs ws) (vs ≡ ws)
values_decide vs ws =
    pointwise_decides (λ v w. let d = value_eq-Decides v w in let e = eq_tests v w in (λ t. d.0 (sym e ∙ t), λ same. e ∙ d.1 same)) vs ws

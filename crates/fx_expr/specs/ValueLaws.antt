-- Laws of values, for this crate and the proofs of those above it: the test of equality is equality, and values tie in their
-- order exactly where they are equal.
use Rattle.std.proofs.Common.{◌≡◌, ◌↔◌, ℕ, true, ◌==◌, List, refl, sym, ◌∙◌, ap, rules, Decides}
use Rattle.std.specs.Cmp.{booleans_Decides, signed_Decides, unsigned_Decides}
use Rattle.std.specs.Cmp.Lexicographic.{pointwise, pointwise_decides}
use Rattle.std.specs.Ordering.{is_eq}
use Rattle.std.specs.declared.cmp.Ordering.{Ordering}
use Rattle.std.specs.declared.cmp.Ordering.TheVariants.{Less, Equal, Greater}
use Rattle.fx_expr.specs.contracts.values.ValueOrd.TheImpl as order
use Rattle.fx_expr.specs.contracts.values.ValueOrd.TheImpl.Laws.{matches_eq-law}
use Rattle.fx_expr.specs.contracts.values.ValuePartialEq.TheImpl as same
use Rattle.fx_expr.specs.declared.values.Value.{Value}
use Rattle.fx_expr.specs.declared.values.Value.TheVariants as value
use Rattle.fx_expr.specs.Value.{value_eq}

texts_decide : (s t : List ℕ) → Decides (pointwise ◌==◌ s t) (s ≡ t)
texts_decide s t = pointwise_decides unsigned_Decides s t

-- the test of two values tells whether they are equal
pub value_eq-Decides : (v w : Value) → Decides (value_eq v w) (v ≡ w)
value_eq-Decides (value.Int m) (value.Int n) = let d = signed_Decides m n in (λ e. ap value.Int (d.0 e), λ e. d.1 (cc))
value_eq-Decides (value.Bool a) (value.Bool b) = let d = booleans_Decides a b in (λ e. ap value.Bool (d.0 e), λ e. d.1 (cc))
value_eq-Decides (value.Text s) (value.Text t) = let d = texts_decide s t in (λ e. ap value.Text (d.0 e), λ e. d.1 (cc))
value_eq-Decides (value.Ints ms) (value.Ints ns) = let d = pointwise_decides signed_Decides ms ns in (λ e. ap value.Ints (d.0 e), λ e. d.1 (cc))
value_eq-Decides (value.Texts ss) (value.Texts ts) = let d = pointwise_decides texts_decide ss ts in (λ e. ap value.Texts (d.0 e), λ e. d.1 (cc))
value_eq-Decides _ _ = (λ e. cc, λ e. cc)

-- the derived `==` is that test
pub eq_tests : (a b : Value) → (same.ghosts).eq a b ≡ value_eq a b
eq_tests (value.Int m) (value.Int n) = search rules
eq_tests (value.Bool m) (value.Bool n) = search rules
eq_tests (value.Text m) (value.Text n) = search rules
eq_tests (value.Ints m) (value.Ints n) = search rules
eq_tests (value.Texts m) (value.Texts n) = search rules
eq_tests _ _ = refl

equal_tie : (o : Ordering) → is_eq o ≡ true → o ≡ Equal
equal_tie Less e = cc
equal_tie Equal e = refl
equal_tie Greater e = cc

-- the order of values ties exactly equal ones
pub order-ties : (a b : Value) → ((order.ghosts).cmp a b ≡ Equal) ↔ (a ≡ b)
order-ties a b =
    let o : Ordering = (order.ghosts).cmp a b in
    let m : (same.ghosts).eq a b ≡ is_eq o = matches_eq-law a b in
    let d = value_eq-Decides a b in
    let e = eq_tests a b in
    (λ t. d.0 (sym e ∙ m ∙ ap is_eq t), λ same. equal_tie o (sym m ∙ e ∙ d.1 same))

-- Which widgets can follow others, as it is tested: none of their keys repeats, and each is matched.
use Rattle.std.proofs.Common.{◌≡◌, ℕ, zero, suc, ◌+◌, ◌<◌, ◌≤◌, ◌==◌, Bool, true, false, not, ◌&&◌, ◌||◌, Option, Some, None, is_some, IfSome, IfNone, List, [], ◌∷◌, length, map, drop, drop-cons, get_or, refl, sym, ap, ◌∙◌, subst, arith, inl, inr}
use Rattle.std.specs.Prelude.{slice_get}
use Rattle.std.specs.List.{All, list_all}
use Rattle.std.specs.Ordering.{eq_by_cmp}
use Rattle.std.proofs.lemmas.Bool.{and_parts, eq-eqb, ne_eqb}
use Rattle.std.proofs.lemmas.List.{drop_all}
use Rattle.fx_expr.specs.declared.values.Value.{Value}
use Rattle.widget_keys.specs.declared.keys.Key.{Key}
use Rattle.widget_keys.specs.Key.{IsRepeat}
use Rattle.widget_model.specs.Plain.{PlainWidget, key_of}
use Rattle.reconcile.specs.Matching.{matching}
use Rattle.build_form.specs.Entering.{first_repeated, unless_repeated, apart}
use Rattle.build_form.specs.Step.{Progress, stops, gives, repeated_sibling_key}
use Rattle.plain_build.proofs.Holding.{value_cmp}
use Rattle.plain_build.proofs.Meeting.{repeat_within}
use Rattle.plain_build.proofs.Meeting.{are_apart as keys_apart, is_repeated}
use Rattle.settled_builds.specs.Retaken.{asked_at, all_asked, are_apart, can_follow_all}
use Rattle.renewed_builds.specs.Renewing.{are_in_order}

-- ---- keys

start : Progress
start = record { entered = 0; met = λ k. false; next = 0; waiting = [] }

module _ (ws : List PlainWidget) where
  no_stop : (r : Option (Key Value)) → unless_repeated r ws start ≡ gives ws start → not (is_some r) ≡ true
  no_stop None e = refl
  no_stop (Some k) e = cc

  a_stop : (r : Option (Key Value)) (k : Key Value) → unless_repeated r ws start ≡ stops (repeated_sibling_key k) → not (is_some r) ≡ false
  a_stop None k e = cc
  a_stop (Some j) k e = refl

  key_at : (ks : List (Key Value)) (i : ℕ) → i < length ks → (k : Key Value) × (slice_get ks i ≡ Some k)
  key_at [] i low = absurd (omega (arith, low))
  key_at (k ∷ ks) zero low = (k, refl)
  key_at (k ∷ ks) (suc i) low = key_at ks i (omega (arith, low))

  pub apart_is : (ks : List (Key Value)) → ks ≡ map key_of ws → (r : Option ℕ) → IfSome r (λ i. IsRepeat (eq_by_cmp value_cmp) ks i) → IfSome r (λ i. (k : ℕ) → k < i → IsRepeat (eq_by_cmp value_cmp) ks k → ⊥)
      → IfNone r ((k : ℕ) → IsRepeat (eq_by_cmp value_cmp) ks k → ⊥) → (b : Bool) → is_some r ≡ not b → b ≡ are_apart ws
  apart_is ks keys None repeat least none true is = sym (no_stop (first_repeated [] (map key_of ws)) (keys_apart ws ks keys start none))
  apart_is ks keys None repeat least none false is = absurd (cc)
  apart_is ks keys (Some i) repeat least none true is = absurd (cc)
  apart_is ks keys (Some i) repeat least none false is =
      let at = key_at ks i (repeat_within ks i repeat) in
      sym (a_stop (first_repeated [] (map key_of ws)) at.0 (is_repeated ws ks keys start i at.0 repeat least at.1))

-- ---- places

-- the next place, and those after it
pub order_next : (js : List ℕ) (i d : ℕ) → i < length js → are_in_order i (drop i js) ≡ ((get_or js i d == i) && are_in_order (i + 1) (drop (i + 1) js))
order_next js i d low =
    let next : suc i ≡ i + 1 = omega arith in
    ap (are_in_order i) (drop-cons js i d low) ∙ ap (λ n. (get_or js i d == i) && are_in_order n (drop n js)) next

pub other_place : (js : List ℕ) (i d : ℕ) (whole : Bool) → i < length js → are_in_order i (drop i js) ≡ whole → (get_or js i d ≡ i → ⊥) → false ≡ whole
other_place js i d whole low so_far other =
    sym (ap (λ b. b && are_in_order (i + 1) (drop (i + 1) js)) (ne_eqb (get_or js i d) i other)) ∙ sym (order_next js i d low) ∙ so_far

pub own_place : (js : List ℕ) (i d : ℕ) (whole : Bool) → i < length js → are_in_order i (drop i js) ≡ whole → get_or js i d ≡ i → are_in_order (i + 1) (drop (i + 1) js) ≡ whole
own_place js i d whole low so_far same =
    sym (ap (λ b. b && are_in_order (i + 1) (drop (i + 1) js)) (eq-eqb (get_or js i d) i same)) ∙ sym (order_next js i d low) ∙ so_far

pub no_place : (js : List ℕ) (i : ℕ) (whole : Bool) → length js ≤ i → are_in_order i (drop i js) ≡ whole → true ≡ whole
no_place js i whole past so_far = sym (ap (are_in_order i) (drop_all i js past)) ∙ so_far

-- ---- matches

and_false : (a b : Bool) → b ≡ false → (a && b) ≡ false
and_false true b e = e
and_false false b e = refl

unasked : (cans : List (PlainWidget → Bool)) (ws : List PlainWidget) (ms : List (Option ℕ)) → length ms ≡ length ws → list_all (λ m. is_some m) ms ≡ false → all_asked cans ws ms ≡ false
unasked cans [] [] many fails = absurd (cc)
unasked cans [] (m ∷ ms) many fails = absurd (omega (arith, many))
unasked cans (w ∷ ws) [] many fails = absurd (omega (arith, many))
unasked cans (w ∷ ws) (None ∷ ms) many fails = refl
unasked cans (w ∷ ws) (Some j ∷ ms) many fails = and_false (asked_at cans (Some j) w) (all_asked cans ws ms) (unasked cans ws ms (omega (arith, many)) fails)

module _ (olds ws : List PlainWidget) where
  pub cannot_many : (length olds ≡ length ws → ⊥) → (cans : List (PlainWidget → Bool)) → can_follow_all olds ws cans ≡ false
  cannot_many other cans = ap (λ b. b && (are_apart ws && all_asked cans ws (matching olds ws))) (ne_eqb (length olds) (length ws) other)

  pub cannot_apart : are_apart ws ≡ false → (cans : List (PlainWidget → Bool)) → can_follow_all olds ws cans ≡ false
  cannot_apart meet cans = and_false (length olds == length ws) _ (ap (λ b. b && all_asked cans ws (matching olds ws)) meet)

  pub cannot_matched : length (matching olds ws) ≡ length ws → list_all (λ m. is_some m) (matching olds ws) ≡ false → (cans : List (PlainWidget → Bool)) → can_follow_all olds ws cans ≡ false
  cannot_matched many fails cans = and_false (length olds == length ws) _ (and_false (are_apart ws) (all_asked cans ws (matching olds ws)) (unasked cans ws (matching olds ws) many fails))

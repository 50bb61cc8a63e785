-- A list of one widget, or of none, that follows another as long.
use Rattle.std.proofs.Common.{◌≡◌, ℕ, zero, suc, ◌<◌, ◌≤◌, ◌==◌, Bool, true, false, not, Option, Some, None, is_some, List, [], ◌∷◌, length, slice_get, refl, sym, ap, ◌∙◌, subst, arith}
use Rattle.std.specs.List.{list_all}
use Rattle.std.proofs.lemmas.Option.{slice_get_within}
use Rattle.fx_expr.specs.declared.values.Value.{Value}
use Rattle.widget_keys.specs.declared.keys.Key.{Key}
use Rattle.widget_keys.specs.declared.keys.Key.TheVariants as key
use Rattle.widget_model.specs.Plain.{PlainWidget, key_of}
use Rattle.widget_model.specs.Update.{updates}
use Rattle.reconcile.specs.Laws.{CanUpdateAt, IsMatched}
use Rattle.reconcile.specs.Matching.{matching, prefix_len}
use Rattle.reconcile.proofs.LawLemmas.{front_greatest, front_kept, length-matching, matched_can_update}
use Rattle.build_form.specs.Entering.{first_repeated}
use Rattle.settled_builds.specs.Retaken.{are_apart, can_follow_all}
use Rattle.renewed_builds.specs.Taking.{FollowAt}
use Rattle.renewed_builds.proofs.Followed.{cannot_matched}

-- ---- lists as short as that

empty_is : {A : Type 0} (xs : List A) → length xs ≡ 0 → xs ≡ []
empty_is [] e = refl
empty_is (x ∷ xs) e = absurd (omega arith)

one_is : {A : Type 0} (xs : List A) (x : A) → length xs ≤ 1 → slice_get xs 0 ≡ Some x → xs ≡ x ∷ []
one_is [] x few at = absurd (cc)
one_is (y ∷ []) x few at = let same : y ≡ x = cc in ap (λ z. z ∷ []) same
one_is (y ∷ z ∷ ys) x few at = absurd (omega arith)

pub not_zero : (n : ℕ) → (n == 0) ≡ false → 0 < n
not_zero zero e = absurd (cc)
not_zero (suc n) e = omega arith

first_there : {A : Type 0} (xs : List A) → length xs ≡ 1 → (x : A) × (slice_get xs 0 ≡ Some x)
first_there [] e = absurd (omega arith)
first_there (x ∷ xs) e = (x, refl)

-- ---- keys

key_apart : (k : Key Value) → not (is_some (first_repeated [] (k ∷ []))) ≡ true
key_apart key.None = refl
key_apart (key.Local v) = refl
key_apart (key.Global v) = refl

one_apart : (ws : List PlainWidget) (b : PlainWidget) → ws ≡ b ∷ [] → are_apart ws ≡ true
one_apart ws b e = ap are_apart e ∙ key_apart (key_of b)

-- ---- none

pub none_follow : (olds ws : List PlainWidget) → length olds ≡ length ws → length olds ≡ 0 → FollowAt olds ws []
none_follow olds ws many none = record {
  many = many;
  apart = ap are_apart (empty_is ws (sym many ∙ none));
  matched = sym (empty_is (matching olds ws) (length-matching olds ws ∙ sym many ∙ none));
}

-- ---- one

module _ (olds ws : List PlainWidget) (a b : PlainWidget) (many : length olds ≡ length ws) (few : length ws ≤ 1) (at_old : slice_get olds 0 ≡ Some a) (at_new : slice_get ws 0 ≡ Some b) where
  only_new : ws ≡ b ∷ []
  only_new = one_is ws b few at_new

  only_old : olds ≡ a ∷ []
  only_old = one_is olds a (omega (arith, many, few)) at_old

  one_match : length (matching olds ws) ≡ 1
  one_match = length-matching olds ws ∙ ap length only_new

  pub one_follows : updates a b ≡ true → FollowAt olds ws (0 ∷ [])
  one_follows can =
      let long : 1 ≤ prefix_len olds ws = (front_greatest olds ws).1 1 (λ i low. let at : i ≡ 0 = omega arith in subst (λ j. CanUpdateAt olds ws j j) (sym at) (a, b, at_old, at_new, can)) in
      record {
        many = many;
        apart = one_apart ws b only_new;
        matched = sym (one_is (matching olds ws) (Some 0) (omega (arith, one_match)) (front_kept olds ws 0 (omega (arith, long))));
      }

  -- one that can't be updated isn't matched
  other_match : updates a b ≡ false → (j : ℕ) → IsMatched olds ws 0 j → ⊥
  other_match cannot j is = by_place j (matched_can_update olds ws 0 j is)
    where
      by_place : (j : ℕ) → CanUpdateAt olds ws j 0 → ⊥
      by_place zero can =
          let old : a ≡ can.0 = cc in
          let new : b ≡ can.1 = cc in
          let is = can.4 in
          cc
      by_place (suc j) can =
          let past = slice_get_within olds (suc j) can.0 can.2 in
          omega (arith, past, many, few)

  unmatched : updates a b ≡ false → (m : Option ℕ) → slice_get (matching olds ws) 0 ≡ Some m → m ≡ None
  unmatched cannot None at = refl
  unmatched cannot (Some j) at = absurd (other_match cannot j at)

  pub one_cannot : updates a b ≡ false → (cans : List (PlainWidget → Bool)) → can_follow_all olds ws cans ≡ false
  one_cannot cannot =
      let first = first_there (matching olds ws) one_match in
      let is : matching olds ws ≡ None ∷ [] = one_is (matching olds ws) None (omega (arith, one_match)) (first.1 ∙ ap Some (unmatched cannot first.0 first.1)) in
      cannot_matched olds ws (length-matching olds ws) (ap (list_all (λ m. is_some m)) is)

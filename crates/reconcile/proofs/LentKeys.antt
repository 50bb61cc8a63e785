-- Keys whose values are lent repeat where the keys with those values do.
use Rattle.std.proofs.Common.{◌≡◌, ℕ, Bool, ◌&&◌, ◌||◌, List, [], ◌∷◌, take, slice_get, map, Option, Some, None, option_map, refl, ap, ◌∙◌}
use Rattle.std.proofs.lemmas.List.{take-map}
use Rattle.std.proofs.lemmas.Option.{slice_get-map}
use Rattle.std.specs.List.{list_any}
use Rattle.std.specs.Borrow.{Bor}
use Rattle.widget_keys.specs.declared.keys.Key.{Key}
use Rattle.widget_keys.specs.declared.keys.Key.TheVariants as key
use Rattle.widget_keys.specs.Key.{is_given, keys_equal, repeats_at, is_repeat}
use Rattle.reconcile.specs.Keys.{of_lent}

module _ {V : Type 0} (same : V → V → Bool) where
  abbrev lent_same : Bor V → Bor V → Bool
  lent_same v w = same v.now w.now

  equal_lent : (a b : Key (Bor V)) → keys_equal lent_same a b ≡ keys_equal same (of_lent a) (of_lent b)
  equal_lent key.None key.None = refl
  equal_lent key.None (key.Local w) = refl
  equal_lent key.None (key.Global w) = refl
  equal_lent (key.Local v) key.None = refl
  equal_lent (key.Local v) (key.Local w) = refl
  equal_lent (key.Local v) (key.Global w) = refl
  equal_lent (key.Global v) key.None = refl
  equal_lent (key.Global v) (key.Local w) = refl
  equal_lent (key.Global v) (key.Global w) = refl

  any_lent : (k : Key (Bor V)) (es : List (Key (Bor V))) → list_any (λ e. keys_equal lent_same k e) es ≡ list_any (λ e. keys_equal same (of_lent k) e) (map of_lent es)
  any_lent k [] = refl
  any_lent k (e ∷ es) =
      ap (λ b. b || list_any (λ x. keys_equal lent_same k x) es) (equal_lent k e)
      ∙ ap (λ b. keys_equal same (of_lent k) (of_lent e) || b) (any_lent k es)

  given_lent : (k : Key (Bor V)) → is_given k ≡ is_given (of_lent k)
  given_lent key.None = refl
  given_lent (key.Local v) = refl
  given_lent (key.Global v) = refl

  repeats_lent : (es : List (Key (Bor V))) (o : Option (Key (Bor V))) → repeats_at lent_same es o ≡ repeats_at same (map of_lent es) (option_map of_lent o)
  repeats_lent es None = refl
  repeats_lent es (Some k) =
      ap (λ b. b && list_any (λ e. keys_equal lent_same k e) es) (given_lent k)
      ∙ ap (λ b. is_given (of_lent k) && b) (any_lent k es)

  pub is_repeat-lent : (keys : List (Key (Bor V))) (i : ℕ) → is_repeat lent_same keys i ≡ is_repeat same (map of_lent keys) i
  is_repeat-lent keys i =
      rw (take-map of_lent i keys, slice_get-map of_lent keys i) (repeats_lent (take i keys) (slice_get keys i))

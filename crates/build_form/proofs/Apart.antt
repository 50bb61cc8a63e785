-- Where no key of a list is found to repeat an earlier one, none does.
use Rattle.std.proofs.Common.{◌≡◌, ℕ, zero, suc, ◌<◌, Bool, true, false, cond, ◌||◌, ◌&&◌, Option, Some, None, List, [], ◌∷◌, ◌++◌, length, map, get_or, refl, sym, subst, arith}
use Rattle.std.specs.List.{list_any}
use Rattle.fx_expr.specs.declared.values.Value.{Value}
use Rattle.widget_keys.specs.declared.keys.Key.{Key}
use Rattle.widget_keys.specs.Key.{is_given}
use Rattle.widget_model.specs.Plain.{PlainWidget, key_of}
use Rattle.widget_model.specs.Update.{key_eq}
use Rattle.widget_model.specs.UpdateLaws.{key_eq-Decides}
use Rattle.reconcile.specs.Keys.{DifferInKey, NoKeyRepeats}
use Rattle.build_form.specs.Entering.{first_repeated}

or_more : (a b c : Bool) → (b ≡ true → c ≡ true) → (a || b) ≡ true → (a || c) ≡ true
or_more true b c f e = refl
or_more false b c f e = f e

or_last : (a b : Bool) → b ≡ true → (a || b) ≡ true
or_last true b e = refl
or_last false b e = e

first_holds : (a : Bool) → a ≡ true → (a || false) ≡ true
first_holds true e = refl
first_holds false e = e

module _ (p : Key Value → Bool) where
  any_still : (xs : List (Key Value)) (y : Key Value) → list_any p xs ≡ true → list_any p (xs ++ y ∷ []) ≡ true
  any_still [] y e = cc
  any_still (x ∷ xs) y e = or_more (p x) (list_any p xs) (list_any p (xs ++ y ∷ [])) (any_still xs y) e

  any_last : (xs : List (Key Value)) (y : Key Value) → p y ≡ true → list_any p (xs ++ y ∷ []) ≡ true
  any_last [] y e = first_holds (p y) e
  any_last (x ∷ xs) y e = or_last (p x) (list_any p (xs ++ y ∷ [])) (any_last xs y e)

went_on : (b : Bool) (k : Key Value) (r : Option (Key Value)) → cond b (Some k) r ≡ None → (b ≡ false) × (r ≡ None)
went_on true k r e = cc
went_on false k r e = (refl, e)

both_hold : (a b : Bool) → a ≡ true → b ≡ true → (a && b) ≡ false → ⊥
both_hold true true e f g = cc
both_hold true false e f g = cc
both_hold false b e f g = cc

-- no later key equals one of the earlier ones
none_of : (e : List (Key Value)) (ws : List PlainWidget) (x : Key Value) → first_repeated e (map key_of ws) ≡ None → list_any (λ k. key_eq x k) e ≡ true → is_given x ≡ true
    → (j : ℕ) (d : PlainWidget) → j < length ws → key_of (get_or ws j d) ≡ x → ⊥
none_of e [] x none there given j d low same = absurd (omega arith)
none_of e (w ∷ ws) x none there given zero d low same =
    let on = went_on (is_given (key_of w) && list_any (λ k. key_eq (key_of w) k) e) (key_of w) (first_repeated (e ++ key_of w ∷ []) (map key_of ws)) none in
    both_hold (is_given (key_of w)) (list_any (λ k. key_eq (key_of w) k) e) (subst (λ q. is_given q ≡ true) (sym same) given)
    (subst (λ q. list_any (λ k. key_eq q k) e ≡ true) (sym same) there) on.0
none_of e (w ∷ ws) x none there given (suc j) d low same =
    let on = went_on (is_given (key_of w) && list_any (λ k. key_eq (key_of w) k) e) (key_of w) (first_repeated (e ++ key_of w ∷ []) (map key_of ws)) none in
    none_of (e ++ key_of w ∷ []) ws x on.1 (any_still (λ k. key_eq x k) e (key_of w) there) given j d (omega arith) same

differ_from : (e : List (Key Value)) (ws : List PlainWidget) → first_repeated e (map key_of ws) ≡ None → (i j : ℕ) (d : PlainWidget) → i < j → j < length ws
    → DifferInKey (get_or ws i d) (get_or ws j d)
differ_from e [] none i j d low high = absurd (omega arith)
differ_from e (w ∷ ws) none i zero d low high = absurd (omega arith)
differ_from e (w ∷ ws) none zero (suc j) d low high = λ given same.
    let on = went_on (is_given (key_of w) && list_any (λ k. key_eq (key_of w) k) e) (key_of w) (first_repeated (e ++ key_of w ∷ []) (map key_of ws)) none in
    none_of (e ++ key_of w ∷ []) ws (key_of w) on.1 (any_last (λ k. key_eq (key_of w) k) e (key_of w) ((key_eq-Decides (key_of w) (key_of w)).1 refl)) given j d (omega arith) (sym same)
differ_from e (w ∷ ws) none (suc i) (suc j) d low high =
    let on = went_on (is_given (key_of w) && list_any (λ k. key_eq (key_of w) k) e) (key_of w) (first_repeated (e ++ key_of w ∷ []) (map key_of ws)) none in
    differ_from (e ++ key_of w ∷ []) ws on.1 i j d (omega arith) (omega arith)

pub none_repeats : (ws : List PlainWidget) → first_repeated [] (map key_of ws) ≡ None → NoKeyRepeats ws
none_repeats ws none = differ_from [] ws none

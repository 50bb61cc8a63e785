-- What is gathered of widgets one after another: what holds of each part, and what a part alone brings.
use Rattle.std.proofs.Common.{◌≡◌, ℕ, zero, suc, ◌+◌, ◌≤◌, Bool, true, false, ◌&&◌, cond, Option, Some, None, List, [], ◌∷◌, ◌++◌, refl, sym, ap, ◌∙◌, subst, arith}
use Rattle.std.specs.Prelude.{slice_get}
use Rattle.std.specs.List.{All}
use Rattle.std.proofs.lemmas.Bool.{and_parts}
use Rattle.std.proofs.lemmas.List.Elements.{All-nil, All-append}
use Rattle.widget_model.specs.Plain.{PlainWidget}
use Rattle.settled_builds.specs.Retaken.{gathered_by, gathered_at, gathered, asked_by, asked_at, all_asked}

-- ---- all parts

module _ {A : Type 0} (P : A → Type 0) (takes : List (PlainWidget → ℕ → List A)) where
  parts_at : ((j : ℕ) (w : PlainWidget) (place : ℕ) → All P (gathered_by (slice_get takes j) w place)) → (m : Option ℕ) (w : PlainWidget) (place : ℕ) → All P (gathered_at takes m w place)
  parts_at each None w place = All-nil P
  parts_at each (Some j) w place = each j w place

  -- where each part may be had
  module _ (cans : List (PlainWidget → Bool)) (each : (j : ℕ) (w : PlainWidget) (place : ℕ) → asked_by (slice_get cans j) w ≡ true → All P (gathered_by (slice_get takes j) w place)) where
    asked_part : (m : Option ℕ) (w : PlainWidget) (place : ℕ) → asked_at cans m w ≡ true → All P (gathered_at takes m w place)
    asked_part None w place can = All-nil P
    asked_part (Some j) w place can = each j w place can

    pub all_parts : (place : ℕ) (ws : List PlainWidget) (ms : List (Option ℕ)) → all_asked cans ws ms ≡ true → All P (gathered takes place ws ms)
    all_parts place [] ms can = All-nil P
    all_parts place (w ∷ ws) [] can = All-nil P
    all_parts place (w ∷ ws) (m ∷ ms) can =
        let parts = and_parts (asked_at cans m w) (all_asked cans ws ms) can in
        All-append P (gathered_at takes m w place) (gathered takes (suc place) ws ms) (asked_part m w place parts.0) (all_parts (suc place) ws ms parts.1)

-- ---- what is seen of a list, one thing after another

module _ {A X : Type 0} (see : List A → X → X) (nothing : (x : X) → see [] x ≡ x) (in_turn : (xs ys : List A) (x : X) → see (xs ++ ys) x ≡ see ys (see xs x)) (takes : List (PlainWidget → ℕ → List A)) where
  -- no part shows anything
  module _ (none_shows : (j : ℕ) (w : PlainWidget) (place : ℕ) (x : X) → see (gathered_by (slice_get takes j) w place) x ≡ x) where
    unseen_at : (m : Option ℕ) (w : PlainWidget) (place : ℕ) (x : X) → see (gathered_at takes m w place) x ≡ x
    unseen_at None w place x = nothing x
    unseen_at (Some j) w place x = none_shows j w place x

    pub unseen : (place : ℕ) (ws : List PlainWidget) (ms : List (Option ℕ)) (x : X) → see (gathered takes place ws ms) x ≡ x
    unseen place [] ms x = nothing x
    unseen place (w ∷ ws) [] x = nothing x
    unseen place (w ∷ ws) (m ∷ ms) x =
        in_turn (gathered_at takes m w place) (gathered takes (suc place) ws ms) x
        ∙ ap (see (gathered takes (suc place) ws ms)) (unseen_at m w place x)
        ∙ unseen (suc place) ws ms x

  -- what comes from one place alone shows
  module _ (j : ℕ) (others : (m : Option ℕ) → (m ≡ Some j → ⊥) → (w : PlainWidget) (place : ℕ) (x : X) → see (gathered_at takes m w place) x ≡ x) where
    pub nowhere : (place : ℕ) (ws : List PlainWidget) (ms : List (Option ℕ)) (x : X) → ((i : ℕ) → slice_get ms i ≡ Some (Some j) → ⊥) → see (gathered takes place ws ms) x ≡ x
    nowhere place [] ms x absent = nothing x
    nowhere place (w ∷ ws) [] x absent = nothing x
    nowhere place (w ∷ ws) (m ∷ ms) x absent =
        in_turn (gathered_at takes m w place) (gathered takes (suc place) ws ms) x
        ∙ ap (see (gathered takes (suc place) ws ms)) (others m (λ is. absent 0 (ap Some is)) w place x)
        ∙ nowhere (suc place) ws ms x (λ i at. absent (suc i) at)

    at_head : (place : ℕ) (w v : PlainWidget) (ws : List PlainWidget) (m : Option ℕ) (ms : List (Option ℕ)) (x : X) → Some v ≡ Some w → Some m ≡ Some (Some j) → ((i : ℕ) → slice_get ms i ≡ Some (Some j) → ⊥)
        → see (gathered_at takes m v place ++ gathered takes (suc place) ws ms) x ≡ see (gathered_by (slice_get takes j) w (place + 0)) x
    at_head place w v ws m ms x is_w is_m absent =
        let w_is : v ≡ w = cc in
        let m_is : m ≡ Some j = cc in
        let here : place ≡ place + 0 = omega arith in
        in_turn (gathered_at takes m v place) (gathered takes (suc place) ws ms) x
        ∙ nowhere (suc place) ws ms (see (gathered_at takes m v place) x) absent
        ∙ (λ i. see (gathered_at takes (m_is i) (w_is i) (here i)) x)

    pub somewhere : (place i : ℕ) (w : PlainWidget) (ws : List PlainWidget) (ms : List (Option ℕ)) (x : X) → slice_get ms i ≡ Some (Some j) → slice_get ws i ≡ Some w
        → ((k : ℕ) → slice_get ms k ≡ Some (Some j) → k ≡ i) → see (gathered takes place ws ms) x ≡ see (gathered_by (slice_get takes j) w (place + i)) x
    somewhere place i w [] ms x at has once = absurd (cc)
    somewhere place i w (v ∷ ws) [] x at has once = absurd (cc)
    somewhere place zero w (v ∷ ws) (m ∷ ms) x at has once = at_head place w v ws m ms x has at (λ k there. let is = once (suc k) there in omega (arith, is))
    somewhere place (suc i) w (v ∷ ws) (m ∷ ms) x at has once =
        let next : suc place + i ≡ place + suc i = omega arith in
        in_turn (gathered_at takes m v place) (gathered takes (suc place) ws ms) x
        ∙ ap (see (gathered takes (suc place) ws ms)) (others m (λ is. let here = once 0 (ap Some is) in omega (arith, here)) v place x)
        ∙ somewhere (suc place) i w ws ms x at has (λ k there. let is = once (suc k) there in omega (arith, is))
        ∙ ap (λ p. see (gathered_by (slice_get takes j) w p) x) next

-- ---- parts one by one

pub past_head : {A : Type 0} (takes : List (PlainWidget → ℕ → List A)) (place : ℕ) (w : PlainWidget) (ws : List PlainWidget) (j : ℕ) (ms : List (Option ℕ)) (take : PlainWidget → ℕ → List A)
    → slice_get takes j ≡ Some take → gathered takes place (w ∷ ws) (Some j ∷ ms) ≡ take w place ++ gathered takes (suc place) ws ms
past_head takes place w ws j ms take at = ap (λ o. gathered_by o w place ++ gathered takes (suc place) ws ms) at

pub asked_head : (cans : List (PlainWidget → Bool)) (w : PlainWidget) (ws : List PlainWidget) (j : ℕ) (ms : List (Option ℕ)) (can : PlainWidget → Bool)
    → slice_get cans j ≡ Some can → all_asked cans (w ∷ ws) (Some j ∷ ms) ≡ (can w && all_asked cans ws ms)
asked_head cans w ws j ms can at = ap (λ o. asked_by o w && all_asked cans ws ms) at

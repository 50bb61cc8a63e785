-- Widgets with keys that go on from others, each from one with its key, where no key repeats among these.
use Rattle.std.proofs.Common.{◌≡◌, ℕ, zero, suc, ◌+◌, ◌-◌, ◌<◌, ◌≤◌, Bool, true, false, not, IsTrue, IfSome, Option, Some, None, is_some, option_map, List, [], ◌∷◌, ◌++◌, length, map, get_or, set, slice_get, inl, inr, ◌⊎◌, refl, sym, ap, ◌∙◌, subst, arith}
use Rattle.std.proofs.lemmas.Bool.{cases_lt}
use Rattle.std.proofs.lemmas.Grind.{get_or-set_at}
use Rattle.std.proofs.lemmas.List.{ext_get_or, get_or-set_other, length-map}
use Rattle.std.proofs.lemmas.Option.{get_or_from_slice_get, slice_get-get_or, slice_get-map, slice_get_within}
use Rattle.widget_keys.specs.Key.{is_given}
use Rattle.widget_model.specs.Plain.{PlainWidget, key_of}
use Rattle.widget_model.specs.Update.{updates}
use Rattle.reconcile.specs.Keys.{NoKeyRepeats}
use Rattle.reconcile.specs.Laws.{CanUpdateAt, HasNoKeyAt, IsMatched, WasBetween}
use Rattle.reconcile.specs.Matching.{matching, prefix_len, suffix_len}
use Rattle.reconcile.specs.Places.{HasKeyAt}
use Rattle.reconcile.proofs.LawLemmas.{end_kept, front_kept, length-matching, matched_by_key, matched_can_update}
use Rattle.reconcile.proofs.MatchLemmas.{one_place}
use Rattle.reconcile.proofs.PlaceLemmas.{key_there}
use Rattle.reconcile.proofs.Repeats.{none_is_found}
use Rattle.reconcile.proofs.Updates.{updates_key}
use Rattle.plain_build.proofs.Meeting.{none_repeated}
use Rattle.settled_builds.specs.Retaken.{are_apart}
use Rattle.renewed_builds.specs.Taking.{FollowAt}

-- the new widget at place i has a key, and the old one at place j can be updated to it
pub record GoesOn (olds ws : List PlainWidget) (i j : ℕ) : Type 0 where
  pub old : PlainWidget
  pub new : PlainWidget
  pub at_old : slice_get olds j ≡ Some old
  pub at_new : slice_get ws i ≡ Some new
  pub can : IsTrue (updates old new)
  pub given : IsTrue (is_given (key_of new))

-- the first new widgets go on from those at these places, each from another, and these places are marked
pub record AreMet (olds ws : List PlainWidget) (places : List ℕ) (taken : List Bool) : Type 0 where
  pub goes : (i j : ℕ) → slice_get places i ≡ Some j → GoesOn olds ws i j
  pub marked : (i j : ℕ) → slice_get places i ≡ Some j → get_or taken j false ≡ true
  pub once : (i k j : ℕ) → slice_get places i ≡ Some j → slice_get places k ≡ Some j → i ≡ k

-- a place that was found is one from which a new widget goes on
pub goes_found : (olds ws : List PlainWidget) (i : ℕ) (w : PlainWidget) (n : ℕ) → slice_get ws i ≡ Some w → n ≡ length olds → (r : Option ℕ) (j : ℕ) → r ≡ Some j → IfSome r (λ k. k < n) → IfSome r (λ k. IsTrue (is_given (key_of w)))
    → IfSome r (λ k. updates (get_or olds k w) w ≡ true) → GoesOn olds ws i j
goes_found olds ws i w n at many None j e within given can = absurd (cc)
goes_found olds ws i w n at many (Some k) j e within given can =
    let here : GoesOn olds ws i k = record { old = get_or olds k w; new = w; at_old = slice_get-get_or olds k w (omega arith); at_new = at; can = can; given = given } in
    let same : k ≡ j = cc in
    subst (λ p. GoesOn olds ws i p) same here

-- what stands in a list with one more
last_or_before : (xs : List ℕ) (x i j : ℕ) → slice_get (xs ++ x ∷ []) i ≡ Some j → (slice_get xs i ≡ Some j) ⊎ ((i ≡ length xs) × (j ≡ x))
last_or_before [] x zero j e = inr (refl, cc)
last_or_before [] x (suc i) j e = absurd (cc)
last_or_before (y ∷ xs) x zero j e = inl e
last_or_before (y ∷ xs) x (suc i) j e = elim (last_or_before xs x i j e) [ inl h ↦ inl h | inr h ↦ inr (ap suc h.0, h.1) ]

module _ (olds ws : List PlainWidget) where
  pub none_met : (taken : List Bool) → AreMet olds ws [] taken
  none_met taken = record {
    goes = λ i j e. absurd (cc);
    marked = λ i j e. absurd (cc);
    once = λ i k j e f. absurd (cc);
  }

  -- one more, at a place that wasn't marked
  module _ (places : List ℕ) (taken : List Bool) (met : AreMet olds ws places taken) (x : ℕ) (within : x < length taken) (free : get_or taken x false ≡ false) (goes : GoesOn olds ws (length places) x) where
    marked_other : (i j : ℕ) → slice_get places i ≡ Some j → j ≡ x → ⊥
    marked_other i j e same = let m = met.marked i j e in cc

    more_goes : (i j : ℕ) → slice_get (places ++ x ∷ []) i ≡ Some j → GoesOn olds ws i j
    more_goes i j e = elim (last_or_before places x i j e) [
      | inl h ↦ met.goes i j h
      | inr h ↦ subst (λ k. GoesOn olds ws k j) (sym h.0) (subst (GoesOn olds ws (length places)) (sym h.1) goes)
    ]

    more_marked : (i j : ℕ) → slice_get (places ++ x ∷ []) i ≡ Some j → get_or (set taken x true) j false ≡ true
    more_marked i j e = elim (last_or_before places x i j e) [
      | inl h ↦ get_or-set_other taken x j true false (marked_other i j h) ∙ met.marked i j h
      | inr h ↦ get_or-set_at taken x j true false h.1 within
    ]

    more_once : (i k j : ℕ) → slice_get (places ++ x ∷ []) i ≡ Some j → slice_get (places ++ x ∷ []) k ≡ Some j → i ≡ k
    more_once i k j e f = elim (last_or_before places x i j e) [
      | inl a ↦ elim (last_or_before places x k j f) [
        | inl b ↦ met.once i k j a b
        | inr b ↦ absurd (marked_other i j a b.1)
      ]
      | inr a ↦ elim (last_or_before places x k j f) [
        | inl b ↦ absurd (marked_other k j b a.1)
        | inr b ↦ a.0 ∙ sym b.0
      ]
    ]

    pub one_more : AreMet olds ws (places ++ x ∷ []) (set taken x true)
    one_more = record { goes = more_goes; marked = more_marked; once = more_once }

  -- the old place of a new widget is told by its key
  module _ (apart : NoKeyRepeats olds) where
    same_place : (i j k : ℕ) → GoesOn olds ws i j → CanUpdateAt olds ws k i → j ≡ k
    same_place i j k g can =
        let same : g.new ≡ can.1 = cc in
        one_place olds (key_of g.new) j k apart g.given
        (subst (λ q. HasKeyAt olds j q) (updates_key g.old g.new g.can) (key_there olds j g.old g.at_old))
        (subst (λ q. HasKeyAt olds k q) (updates_key can.0 can.1 can.4 ∙ ap key_of (sym same)) (key_there olds k can.0 can.2))

    kept_there : (i j k : ℕ) → GoesOn olds ws i j → IsMatched olds ws i k → IsMatched olds ws i j
    kept_there i j k g m = subst (λ p. IsMatched olds ws i p) (sym (same_place i j k g (matched_can_update olds ws i k m))) m

    -- no key repeats among the new widgets
    pub all_differ : (places : List ℕ) (taken : List Bool) → AreMet olds ws places taken → length places ≡ length ws → NoKeyRepeats ws
    all_differ places taken met full = λ i k d low high given same.
        let at_i = slice_get-get_or places i 0 (omega arith) in
        let at_k = slice_get-get_or places k 0 (omega arith) in
        let g = met.goes i (get_or places i 0) at_i in
        let h = met.goes k (get_or places k 0) at_k in
        let key : key_of h.new ≡ key_of g.new =
        ap key_of (sym (get_or_from_slice_get ws k h.new d h.at_new)) ∙ sym same ∙ ap key_of (get_or_from_slice_get ws i g.new d g.at_new) in
        let one : get_or places i 0 ≡ get_or places k 0 =
        one_place olds (key_of g.new) (get_or places i 0) (get_or places k 0) apart g.given
        (subst (λ q. HasKeyAt olds (get_or places i 0) q) (updates_key g.old g.new g.can) (key_there olds (get_or places i 0) g.old g.at_old))
        (subst (λ q. HasKeyAt olds (get_or places k 0) q) (updates_key h.old h.new h.can ∙ key) (key_there olds (get_or places k 0) h.old h.at_old)) in
        let clash = met.once i k (get_or places k 0) (at_i ∙ ap Some one) at_k in
        omega arith

    module _ (differ : NoKeyRepeats ws) (many : length olds ≡ length ws) where
      one_new : (i j p : ℕ) → GoesOn olds ws i j → IsMatched olds ws p j → p ≡ i
      one_new i j p g m =
          let can = matched_can_update olds ws p j m in
          let same : g.old ≡ can.0 = cc in
          let key : key_of can.1 ≡ key_of g.new = sym (updates_key can.0 can.1 can.4) ∙ ap key_of (sym same) ∙ updates_key g.old g.new g.can in
          one_place ws (key_of g.new) p i differ g.given (subst (λ q. HasKeyAt ws p q) key (key_there ws p can.1 can.3)) (key_there ws i g.new g.at_new)

      was_between : (i j : ℕ) → GoesOn olds ws i j → prefix_len olds ws ≤ i → i < length ws - suffix_len olds ws → WasBetween olds ws j
      was_between i j g past low = elim (cases_lt j (prefix_len olds ws)) [
        | inl front ↦ let clash = one_new i j j g (front_kept olds ws j front) in absurd (omega arith)
        | inr behind ↦ elim (cases_lt j (length olds - suffix_len olds ws)) [
          | inl before ↦ (behind, before)
          | inr back ↦
              let inside = slice_get_within olds j g.old g.at_old in
              let there : length olds + j - length ws ≡ j = omega arith in
              let at_end = subst (λ p. IsMatched olds ws j p) there (end_kept olds ws j (omega arith) (omega arith)) in
              let clash = one_new i j j g at_end in
              absurd (omega arith)
        ]
      ]

      has_key : (i j : ℕ) → GoesOn olds ws i j → HasNoKeyAt ws i → ⊥
      has_key i j g none = let at = key_there ws i g.new g.at_new in let given = g.given in cc

      goes_as_matched : (i j : ℕ) → GoesOn olds ws i j → IsMatched olds ws i j
      goes_as_matched i j g =
          let inside = slice_get_within ws i g.new g.at_new in
          elim (cases_lt i (prefix_len olds ws)) [
            | inl front ↦ kept_there i j i g (front_kept olds ws i front)
            | inr behind ↦ elim (cases_lt i (length ws - suffix_len olds ws)) [
              | inl before ↦ matched_by_key olds ws i j apart (behind, before) (was_between i j g behind before) (has_key i j g) (g.old, g.new, g.at_old, g.at_new, g.can)
              | inr back ↦ kept_there i j (length olds + i - length ws) g (end_kept olds ws i back inside)
            ]
          ]

      each_matched : (places : List ℕ) (taken : List Bool) → AreMet olds ws places taken → length places ≡ length ws → map (λ j. Some j) places ≡ matching olds ws
      each_matched places taken met full =
          let n = length-map places (λ j. Some j) in
          let m = length-matching olds ws in
          ext_get_or None (map (λ j. Some j) places) (matching olds ws) (omega arith) (λ i low.
          let at = slice_get-get_or places i 0 (omega arith) in
          get_or_from_slice_get (map (λ j. Some j) places) i (Some (get_or places i 0)) None (slice_get-map (λ j. Some j) places i ∙ ap (option_map (λ j. Some j)) at)
          ∙ sym (get_or_from_slice_get (matching olds ws) i (Some (get_or places i 0)) None (goes_as_matched i (get_or places i 0) (met.goes i (get_or places i 0) at))))

    -- all new widgets are met
    pub all_follow : length olds ≡ length ws → (places : List ℕ) (taken : List Bool) → AreMet olds ws places taken → length places ≡ length ws → FollowAt olds ws places
    all_follow many places taken met full =
        let differ = all_differ places taken met full in
        record {
          many = many;
          apart = ap (λ r. not (is_some r)) (none_repeated [] (map key_of ws) (none_is_found ws differ));
          matched = each_matched differ many places taken met full;
        }

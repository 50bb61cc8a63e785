-- The laws of matching.
use Rattle.std.proofs.Common.{◌≡◌, ℕ, zero, suc, [], ◌∷◌, ◌+◌, ◌-◌, ◌<◌, ◌≤◌, Bool, true, false, cond, IsTrue, Option, Some, None, List, length, get_or, map, reverse, slice_get, min, inl, inr, refl, sym, ◌∙◌, ap, subst, arith}
use Rattle.std.specs.List.{common_prefix_len, All, range_with_len}
use Rattle.std.specs.Option.{IfSome}
use Rattle.std.proofs.lemmas.Bool.{cases_lt}
use Rattle.std.proofs.lemmas.List.Sums.{common_prefix_len-le}
use Rattle.std.proofs.lemmas.List.{get_or-reverse, length-reverse}
use Rattle.std.proofs.lemmas.List.FromFn.{get_or-map-range_with_len, length-map-range_with_len}
use Rattle.std.proofs.lemmas.Option.{slice_get_within, get_or_from_slice_get, slice_get-get_or}
use Rattle.widget_keys.specs.declared.keys.Key.TheVariants as key
use Rattle.widget_keys.specs.Key.{is_given}
use Rattle.widget_model.specs.Plain.{PlainWidget, key_of}
use Rattle.widget_model.specs.Update.{updates}
use Rattle.reconcile.specs.declared.middle.Middle.{Middle}
use Rattle.reconcile.specs.Keys.{NoKeyRepeats}
use Rattle.reconcile.specs.Laws.{CanUpdateAt, IsMatched, IsBetween, WasBetween, HasNoKeyAt, FrontCanUpdate, EndCanUpdate, IsGreatest, each_place}
use Rattle.reconcile.specs.Matching.{prefix_len, suffix_len, middle_of, keyed_match, match_at, matching}
use Rattle.reconcile.specs.Middle.{IsMiddleOf}
use Rattle.reconcile.specs.Places.{HasKeyAt}
use Rattle.reconcile.proofs.Sizes.{prefix_within, suffix_within}
use Rattle.reconcile.proofs.Passes.{common_passes, common_greatest, part_passes, map-range_same}
use Rattle.reconcile.proofs.MatchLemmas.{in_front, in_end, in_middle, one_place, widget_with, keyless, keyed_found}
use Rattle.reconcile.proofs.PlaceLemmas.{key_there}
use Rattle.reconcile.proofs.Updates.{updates_key, updates_itself}

-- all children are matched
pub all_matched : (old new : List PlainWidget) (i n : ℕ) (items : List (Option ℕ)) → items ≡ map (match_at old new) (range_with_len 0 i) → length new ≡ n → i ≤ n → n ≤ i
    → items ≡ matching old new
unfolding matching
all_matched old new i n items h e a b = let same : i ≡ length new = omega arith in h ∙ ap (λ k. map (match_at old new) (range_with_len 0 k)) same

-- an answer for each new child
pub length-matching : (old new : List PlainWidget) → length (matching old new) ≡ length new
unfolding matching
length-matching old new = length-map-range_with_len (match_at old new) 0 (length new)

pub matching_at : (old new : List PlainWidget) (i : ℕ) → i < length new → slice_get (matching old new) i ≡ Some (match_at old new i)
unfolding matching
matching_at old new i below =
    let n = length-map-range_with_len (match_at old new) 0 (length new) in
    slice_get-get_or (map (match_at old new) (range_with_len 0 (length new))) i None (omega arith)
    ∙ ap Some (get_or-map-range_with_len (match_at old new) 0 (length new) i i None below (omega arith))

pub matched_at : (old new : List PlainWidget) (i j : ℕ) → IsMatched old new i j → (i < length new) × (match_at old new i ≡ Some j)
matched_at old new i j h =
    let below : i < length new = omega (arith, slice_get_within (matching old new) i (Some j) h, length-matching old new) in
    let e = matching_at old new i below in
    (below, cc)

-- where an old widget and a new one that are matched stand
pub data HowMatched (old new : List PlainWidget) (i j : ℕ) : Type 0 where
  front : i < prefix_len old new → j ≡ i → HowMatched old new i j
  back : length new - suffix_len old new ≤ i → i < length new → j ≡ length old + i - length new → HowMatched old new i j
  keyed : (a w : PlainWidget) → prefix_len old new ≤ i → i < length new - suffix_len old new → prefix_len old new ≤ j → j < length old - suffix_len old new
      → slice_get old j ≡ Some a → slice_get new i ≡ Some w → IsTrue (is_given (key_of w)) → updates a w ≡ true → HowMatched old new i j

-- at each place of a list stands a widget
at_index : (ws : List PlainWidget) (i : ℕ) → i < length ws → (w : PlainWidget) × (slice_get ws i ≡ Some w)
at_index [] i h = absurd (omega arith)
at_index (w ∷ ws) zero h = (w, refl)
at_index (w ∷ ws) (suc i) h = at_index ws i (omega arith)

middle : List PlainWidget → List PlainWidget → Middle
middle old new = record { start = prefix_len old new; old_end = length old - suffix_len old new; new_end = length new - suffix_len old new }

middle_is : (old new : List PlainWidget) → IsMiddleOf old new (middle old new)
unfolding middle
middle_is old new = record { start = refl; old_end = refl; new_end = refl }

same_pair : (a x b y : PlainWidget) → a ≡ x → b ≡ y → updates x y ≡ true → updates a b ≡ true
same_pair a x b y e f t = ap (λ z. updates z b) e ∙ ap (λ z. updates x z) f ∙ t

if_some : {A : Type 0} (b : Bool) (o : Option A) (x : A) → cond b o None ≡ Some x → (b ≡ true) × (o ≡ Some x)
if_some true o x e = (refl, e)
if_some false o x e = cc

module _ (old new : List PlainWidget) where
  lengths : (prefix_len old new ≤ length old) × (prefix_len old new ≤ length new) × (suffix_len old new ≤ length old - prefix_len old new) × (suffix_len old new ≤ length new - prefix_len old new)
  lengths =
      let p = prefix_within old new in
      let s = suffix_within old new in
      (omega arith, omega arith, omega arith, omega arith)

  keyed_gives : (w : PlainWidget) (j : ℕ) → keyed_match old new w ≡ Some j
      → IsTrue (is_given (key_of w)) × (prefix_len old new ≤ j) × (j < length old - suffix_len old new) × (updates (get_or old j w) w ≡ true)
  unfolding keyed_match middle_of
  keyed_gives w j e =
      let g = if_some (is_given (key_of w)) _ j e in
      let l = lengths in
      let h = part_passes (λ o. updates o w) old (prefix_len old new) (length old - suffix_len old new) j w (omega arith) (omega arith) g.1 in
      (g.0, h.0, h.1, h.2)

  how_matched : (i j : ℕ) → i < length new → match_at old new i ≡ Some j → HowMatched old new i j
  unfolding middle
  how_matched i j below e =
      let l = lengths in
      elim (cases_lt i (prefix_len old new)) [
        | inl in_it ↦ let h = in_front old new (middle old new) (middle_is old new) i in_it in front in_it (cc)
        | inr past ↦ elim (cases_lt i (length new - suffix_len old new)) [
          | inl between ↦
              let w = at_index new i below in
              let h = in_middle old new (middle old new) (middle_is old new) i past between w.0 w.1 (keyed_match old new w.0) refl in
              let k = keyed_gives w.0 j (h ∙ e) in
              let high : j < length old - suffix_len old new = k.2 in
              let a = at_index old j (omega arith) in
              keyed a.0 w.0 past between k.1 k.2 a.1 w.1 k.0 (ap (λ x. updates x w.0) (sym (get_or_from_slice_get old j a.0 w.0 a.1)) ∙ k.3)
          | inr in_end_part ↦
              let h = in_end old new (middle old new) (middle_is old new) i past in_end_part below in
              let same : (length old - suffix_len old new) + (i - (length new - suffix_len old new)) ≡ j = cc in
              back in_end_part below (omega arith)
        ]
      ]

  -- each pair of the front can update
  front_passes : (i : ℕ) → i < prefix_len old new → CanUpdateAt old new i i
  unfolding prefix_len
  front_passes i h =
      let l = common_prefix_len-le updates old new in
      let a = at_index old i (omega arith) in
      let b = at_index new i (omega arith) in (
        a.0,
        b.0,
        a.1,
        b.1,
        same_pair a.0 (get_or old i a.0) b.0 (get_or new i b.0) (sym (get_or_from_slice_get old i a.0 a.0 a.1)) (sym (get_or_from_slice_get new i b.0 b.0 b.1))
            (common_passes updates old new a.0 b.0 i h),
      )

  -- each pair of the end can update
  end_pair : (k : ℕ) (a b : PlainWidget) → k < length old → k < length new → slice_get old (length old - 1 - k) ≡ Some a → slice_get new (length new - 1 - k) ≡ Some b
      → k < common_prefix_len updates (reverse old) (reverse new) → updates a b ≡ true
  end_pair k a b in_old in_new at_old at_new h =
      same_pair a (get_or (reverse old) k a) b (get_or (reverse new) k b)
      (sym (get_or-reverse old k a in_old ∙ get_or_from_slice_get old (length old - 1 - k) a a at_old))
      (sym (get_or-reverse new k b in_new ∙ get_or_from_slice_get new (length new - 1 - k) b b at_new))
      (common_passes updates (reverse old) (reverse new) a b k h)

  suffix_below : (k : ℕ) → k < suffix_len old new → (k < min (length old) (length new)) × (k < common_prefix_len updates (reverse old) (reverse new))
  unfolding suffix_len
  suffix_below k h = (omega arith, omega arith)

  end_passes : (k : ℕ) → k < suffix_len old new → CanUpdateAt old new (length old - 1 - k) (length new - 1 - k)
  end_passes k h =
      let s = suffix_below k h in
      let room : k < min (length old) (length new) = s.0 in
      let a = at_index old (length old - 1 - k) (omega arith) in
      let b = at_index new (length new - 1 - k) (omega arith) in
      (a.0, b.0, a.1, b.1, end_pair k a.0 b.0 (omega arith) (omega arith) a.1 b.1 s.1)

  pair_can_update : (i j : ℕ) → HowMatched old new i j → CanUpdateAt old new j i
  pair_can_update i j (front h e) = subst (λ k. CanUpdateAt old new k i) (sym e) (front_passes i h)
  pair_can_update i j (back past below e) =
      let l = lengths in
      let k : ℕ = length new - 1 - i in
      let in_end_part : length new - 1 - i < suffix_len old new = omega arith in
      let at_new : length new - 1 - (length new - 1 - i) ≡ i = omega arith in
      let at_old : length old - 1 - (length new - 1 - i) ≡ j = omega arith in
      let h = end_passes (length new - 1 - i) in_end_part in
      subst (λ x. CanUpdateAt old new x i) at_old (subst (λ x. CanUpdateAt old new (length old - 1 - (length new - 1 - i)) x) at_new h)
  pair_can_update i j (keyed a w p1 p2 p3 p4 at_old at_new g t) = (a, w, at_old, at_new, t)

  pub matched_can_update : (i j : ℕ) → IsMatched old new i j → CanUpdateAt old new j i
  matched_can_update i j h = let m = matched_at old new i j h in pair_can_update i j (how_matched i j m.0 m.1)

  -- two new widgets that are matched to one old widget
  one_child : NoKeyRepeats new → (i k j : ℕ) → HowMatched old new i j → HowMatched old new k j → i ≡ k
  one_child apart i k j (front a b) (front c d) = omega arith
  one_child apart i k j (front a b) (back c x d) = let l = lengths in absurd (omega arith)
  one_child apart i k j (front a b) (keyed o w p1 p2 p3 p4 p5 p6 p7 p8) = absurd (omega arith)
  one_child apart i k j (back a x b) (front c d) = let l = lengths in absurd (omega arith)
  one_child apart i k j (back a x b) (back c y d) = let l = lengths in omega arith
  one_child apart i k j (back a x b) (keyed o w p1 p2 p3 p4 p5 p6 p7 p8) = let l = lengths in absurd (omega arith)
  one_child apart i k j (keyed o w p1 p2 p3 p4 p5 p6 p7 p8) (front c d) = absurd (omega arith)
  one_child apart i k j (keyed o w p1 p2 p3 p4 p5 p6 p7 p8) (back c y d) = let l = lengths in absurd (omega arith)
  one_child apart i k j (keyed o w p1 p2 p3 p4 p5 p6 p7 p8) (keyed u v q1 q2 q3 q4 q5 q6 q7 q8) =
      let same : o ≡ u = cc in
      let key : key_of w ≡ key_of v = sym (updates_key o w p8) ∙ ap key_of same ∙ updates_key u v q8 in
      one_place new (key_of w) i k apart p7 (key_there new i w p6) (subst (λ q. HasKeyAt new k q) (sym key) (key_there new k v q6))

  pub matched_once : NoKeyRepeats new → (i k j : ℕ) → IsMatched old new i j → IsMatched old new k j → i ≡ k
  matched_once apart i k j a b =
      let m = matched_at old new i j a in
      let n = matched_at old new k j b in
      one_child apart i k j (how_matched i j m.0 m.1) (how_matched k j n.0 n.1)

  -- between the front and the end
  pub unmatched : (i : ℕ) → IsBetween old new i → HasNoKeyAt new i → slice_get (matching old new) i ≡ Some None
  unfolding middle
  unmatched i between none =
      let m = middle old new in
      let is = middle_is old new in
      let w = widget_with new i key.None none in
      let below = slice_get_within new i w.0 w.1 in
      matching_at old new i below ∙ ap Some (sym (in_middle old new m is i between.0 between.1 w.0 w.1 None (keyless old new m is w.0 w.2)))

  pub matched_by_key : (i j : ℕ) → NoKeyRepeats old → IsBetween old new i → WasBetween old new j → (HasNoKeyAt new i → ⊥) → CanUpdateAt old new j i → IsMatched old new i j
  unfolding middle
  matched_by_key i j apart between was given can =
      let m = middle old new in
      let is = middle_is old new in
      let a = can.0 in
      let w = can.1 in
      let below = slice_get_within new i w can.3 in
      let has = subst (λ q. HasKeyAt old j q) (updates_key a w can.4) (key_there old j a can.2) in
      let some_key = λ (e : key_of w ≡ key.None). given (subst (λ q. HasKeyAt new i q) e (key_there new i w can.3)) in
      matching_at old new i below
      ∙ ap Some (sym (in_middle old new m is i between.0 between.1 w can.3 (Some j) (keyed_found old new m is w some_key apart j was.0 was.1 has a can.2 can.4)))

  pub front_kept : (i : ℕ) → i < prefix_len old new → IsMatched old new i i
  unfolding middle
  front_kept i h =
      let l = lengths in
      matching_at old new i (omega arith) ∙ ap Some (sym (in_front old new (middle old new) (middle_is old new) i h))

  pub end_kept : (i : ℕ) → length new - suffix_len old new ≤ i → i < length new → IsMatched old new i (length old + i - length new)
  unfolding middle
  end_kept i past below =
      let l = lengths in
      let same : (length old - suffix_len old new) + (i - (length new - suffix_len old new)) ≡ length old + i - length new = omega arith in
      matching_at old new i below ∙ ap Some (sym (in_end old new (middle old new) (middle_is old new) i (omega arith) past below) ∙ ap Some same)

  longest_front : (k : ℕ) → FrontCanUpdate old new k → k ≤ common_prefix_len updates old new
  longest_front zero h = omega arith
  longest_front (suc k) h =
      let last = h k (omega arith) in
      let a = last.0 in
      let b = last.1 in
      let in_old = slice_get_within old k a last.2 in
      let in_new = slice_get_within new k b last.3 in
      common_greatest updates old new (suc k) a b (omega arith) (omega arith)
      (λ i below. let p = h i below in same_pair _ p.0 _ p.1 (get_or_from_slice_get old i p.0 a p.2) (get_or_from_slice_get new i p.1 b p.3) p.4)

  pub front_greatest : IsGreatest (FrontCanUpdate old new) (prefix_len old new)
  unfolding prefix_len
  front_greatest = (front_passes, longest_front)

  longest_end : (k : ℕ) → EndCanUpdate old new k → k ≤ common_prefix_len updates (reverse old) (reverse new)
  longest_end zero h = omega arith
  longest_end (suc k) h =
      let room : suc k ≤ min (length old) (length new) - prefix_len old new = h.0 in
      let last = h.1 k (omega arith) in
      let a = last.0 in
      let b = last.1 in
      let m = length-reverse old in
      let n = length-reverse new in
      common_greatest updates (reverse old) (reverse new) (suc k) a b (omega arith) (omega arith)
      (λ i below.
      let p = h.1 i below in
      same_pair _ p.0 _ p.1 (get_or-reverse old i a (omega arith) ∙ get_or_from_slice_get old (length old - 1 - i) p.0 a p.2)
      (get_or-reverse new i b (omega arith) ∙ get_or_from_slice_get new (length new - 1 - i) p.1 b p.3) p.4)

  both_caps : (k a b : ℕ) → k ≤ a → k ≤ b → k ≤ min a b
  both_caps k a b p q = omega arith

  longest_shared : (k : ℕ) → EndCanUpdate old new k → k ≤ suffix_len old new
  unfolding suffix_len
  longest_shared k h = both_caps k _ _ (longest_end k h) h.0

  pub end_greatest : IsGreatest (EndCanUpdate old new) (suffix_len old new)
  end_greatest = ((suffix_within old new, end_passes), longest_shared)

-- a list matched with itself
itself_front : (ws : List PlainWidget) → length ws ≤ prefix_len ws ws
itself_front ws =
    (front_greatest ws ws).1 (length ws) (λ i below. let a = at_index ws i below in (a.0, a.0, a.1, a.1, updates_itself a.0))

pub matching_itself : (ws : List PlainWidget) → matching ws ws ≡ map (λ i. Some i) (each_place (length ws))
unfolding matching middle
matching_itself ws =
    map-range_same (match_at ws ws) (λ i. Some i) 0 (length ws)
    (λ i low high. let f = itself_front ws in sym (in_front ws ws (middle ws ws) (middle_is ws ws) i (omega arith)))

-- each place that is answered stands in the old list
pub matching_within : (old new : List PlainWidget) → All (λ place. IfSome place (λ j. j < length old)) (matching old new)
matching_within old new k d below = answer (get_or (matching old new) k d) (slice_get-get_or (matching old new) k d below) where
  answer : (o : Option ℕ) → slice_get (matching old new) k ≡ Some o → IfSome o (λ j. j < length old)
  answer None e = tt
  answer (Some j) e = let c = matched_can_update old new k j e in slice_get_within old j c.0 c.2

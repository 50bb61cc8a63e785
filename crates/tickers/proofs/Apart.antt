-- Tweens that run on fields of their own.
use Rattle.std.proofs.Common.{◌≡◌, ◌≢◌, ℕ, zero, suc, ◌+◌, ◌<◌, ◌≤◌, Bool, true, false, ◌&&◌, ◌==◌, Option, Some, None, List, [], ◌∷◌, ◌++◌, length, take, drop, filter, slice_set, All, refl, sym, ap, ap₂, subst, ◌∙◌, inl, inr, append-nil, arith}
use Rattle.std.specs.List.{position, position_or_len}
use Rattle.std.specs.Str.{bytes_eq}
use Rattle.std.proofs.Math.ListN.{get_or}
use Rattle.std.proofs.lemmas.Bool.{cases_lt, cases_eq, eqb-true, eq-eqb, and_from, false_from_ne_true, false≢true}
use Rattle.std.proofs.lemmas.Grind.{common_steps}
use Rattle.std.proofs.lemmas.List.{get_or-set_same, get_or-set_other, length-set, take_all, drop_all}
use Rattle.std.proofs.lemmas.List.Kept.{AllPairs-cons, AllPairs-filter}
use Rattle.std.proofs.lemmas.List.Quantifiers.{all_pairs_push, all_pairs_remove, position-Some}
use Rattle.std.proofs.lemmas.List.Sums.{fails_before_first}
use Rattle.std.proofs.lemmas.Slice.Eq.{bytes_eq-Decides}
use Rattle.tickers.specs.declared.tween.Tween.{Tween}
use Rattle.tickers.specs.Running.{AreApart, is_on, put, started, without_at}

-- a tween isn't on another's field
abbrev pub IsOff : Tween → Tween → Type 0
IsOff t u = is_on t.node t.field u ≡ false

both_true : (a b : Bool) → (a && b) ≡ true → (a ≡ true) × (b ≡ true)
both_true true true e = (refl, refl)
both_true true false e = absurd (false≢true e)
both_true false b e = absurd (false≢true e)

-- a tween is on a field exactly where the field is its own
same_node : (t u : Tween) → is_on t.node t.field u ≡ true → u.node ≡ t.node
same_node t u e = eqb-true u.node t.node (both_true (u.node == t.node) (bytes_eq u.field t.field) e).0

same_field : (t u : Tween) → is_on t.node t.field u ≡ true → u.field ≡ t.field
same_field t u e = (bytes_eq-Decides u.field t.field).0 (both_true (u.node == t.node) (bytes_eq u.field t.field) e).1

on_from : (t u : Tween) → u.node ≡ t.node → u.field ≡ t.field → is_on t.node t.field u ≡ true
on_from t u node field = and_from (u.node == t.node) (bytes_eq u.field t.field) (eq-eqb u.node t.node node) ((bytes_eq-Decides u.field t.field).1 field)

off_turned : (t u : Tween) → IsOff t u → IsOff u t
off_turned t u off =
    false_from_ne_true (is_on u.node u.field t)
    (λ on. false≢true (sym off ∙ on_from t u (sym (same_node u t on)) (sym (same_field u t on))))

-- one on the same field is off the same fields
off_as : (t old u : Tween) → is_on t.node t.field old ≡ true → IsOff old u → IsOff t u
off_as t old u on off = ap₂ (λ node field. is_on node field u) (sym (same_node t old on)) (sym (same_field t old on)) ∙ off

pub none_apart : AreApart []
none_apart i j d lt within = absurd (omega (arith, within))

-- ---- another is started

none_on : (p : Tween → Bool) (ts : List Tween) (k : ℕ) (d : Tween) → position p ts ≡ None → k < length ts → p (get_or ts k d) ≡ false
none_on p ts k d none within =
    let past : length ts ≤ position_or_len p ts = grind (arith, common_steps) in
    fails_before_first p ts k d (omega arith)

module _ (t : Tween) (ts : List Tween) (apart : AreApart ts) where
  last_apart : position (is_on t.node t.field) ts ≡ None → AreApart (ts ++ t ∷ [])
  last_apart none =
      all_pairs_push IsOff ts t apart (λ k d within. off_turned t (get_or ts k d) (none_on (is_on t.node t.field) ts k d none within))

  module _ (i : ℕ) (found : position (is_on t.node t.field) ts ≡ Some i) where
    inside : (d : Tween) → i < length ts
    inside d = (position-Some (is_on t.node t.field) ts i d found).0

    its_on : (d : Tween) → is_on t.node t.field (get_or ts i d) ≡ true
    its_on d = (position-Some (is_on t.node t.field) ts i d found).1

    others_off : (k : ℕ) (d : Tween) → k ≢ i → k < length ts → IsOff t (get_or ts k d)
    others_off k d other within =
        let off : IsOff (get_or ts i d) (get_or ts k d) = elim (cases_lt k i) [
          | inl below ↦ off_turned (get_or ts k d) (get_or ts i d) (apart k i d below (inside d))
          | inr not_below ↦ apart i k d (omega (arith, other, not_below)) within
        ] in
        off_as t (get_or ts i d) (get_or ts k d) (its_on d) off

    here : (d : Tween) → get_or (slice_set ts i t) i d ≡ t
    here d = get_or-set_same ts i t d (inside d)

    place_apart : AreApart (slice_set ts i t)
    place_apart k j d lt within =
        let long : length (slice_set ts i t) ≡ length ts = length-set ts i t in
        let reached : j < length ts = omega (arith, within, long) in
        elim (cases_eq k i) [
          | inl first ↦
              let other : j ≢ i = λ same. absurd (omega (arith, lt, first, same)) in
              let low : get_or (slice_set ts i t) k d ≡ t = ap (λ n. get_or (slice_set ts i t) n d) first ∙ here d in
              rw (low, get_or-set_other ts i j t d other) (others_off j d other reached)
          | inr other ↦ elim (cases_eq j i) [
            | inl second ↦
                let high : get_or (slice_set ts i t) j d ≡ t = ap (λ n. get_or (slice_set ts i t) n d) second ∙ here d in
                rw (get_or-set_other ts i k t d other, high) (off_turned t (get_or ts k d) (others_off k d other (omega (arith, lt, reached))))
            | inr past ↦ rw (get_or-set_other ts i k t d other, get_or-set_other ts i j t d past) (apart k j d lt reached)
          ]
        ]

  put_apart : (o : Option ℕ) → position (is_on t.node t.field) ts ≡ o → AreApart (put o t ts)
  put_apart None none = last_apart none
  put_apart (Some i) found = place_apart i found

pub started_apart : (t : Tween) (ts : List Tween) → AreApart ts → AreApart (started t ts)
started_apart t ts apart = put_apart t ts apart (position (is_on t.node t.field) ts) refl

-- ---- some are dropped

pub filter_apart : (p : Tween → Bool) (ts : List Tween) → AreApart ts → AreApart (filter p ts)
filter_apart p ts apart = AllPairs-filter IsOff p ts apart

pub without_apart : (i : ℕ) (ts : List Tween) → AreApart ts → AreApart (without_at i ts)
without_apart i ts apart =
    let next : suc i ≡ i + 1 = omega arith in
    elim (cases_lt i (length ts)) [
      | inl within ↦ subst (λ n. AreApart (take i ts ++ drop n ts)) next (all_pairs_remove IsOff ts i within apart)
      | inr past ↦
          let whole : take i ts ++ drop (i + 1) ts ≡ ts = ap₂ (λ a b. a ++ b) (take_all i ts past) (drop_all (i + 1) ts (omega (arith, past))) ∙ append-nil ts in
          subst AreApart (sym whole) apart
    ]

-- ---- one by one

pub head_apart : (t : Tween) (ts : List Tween) → AreApart (t ∷ ts) → All (IsOff t) ts
head_apart t ts apart k d within = apart 0 (suc k) d (omega arith) (omega (arith, within))

pub tail_apart : (t : Tween) (ts : List Tween) → AreApart (t ∷ ts) → AreApart ts
tail_apart t ts apart i j d lt within = apart (suc i) (suc j) d (omega (arith, lt)) (omega (arith, within))

pub first_apart : (t : Tween) (ts : List Tween) → All (IsOff t) ts → AreApart ts → AreApart (t ∷ ts)
first_apart t ts off apart = AllPairs-cons IsOff t ts off apart

pub after_apart : (front back : List Tween) (t : Tween) → AreApart (front ++ t ∷ back) → All (IsOff t) back
after_apart [] back t apart = head_apart t back apart
after_apart (u ∷ us) back t apart = after_apart us back t (tail_apart u (us ++ t ∷ back) apart)

off_middle : (u t : Tween) (us back : List Tween) → All (IsOff u) (us ++ t ∷ back) → IsOff u t
off_middle u t [] back off = off 0 u (omega arith)
off_middle u t (v ∷ vs) back off = off_middle u t vs back (λ k d within. off (suc k) d (omega (arith, within)))

pub before_apart : (front back : List Tween) (t : Tween) → AreApart (front ++ t ∷ back) → All (IsOff t) front
before_apart [] back t apart k d within = absurd (omega (arith, within))
before_apart (u ∷ us) back t apart zero d within = off_turned u t (off_middle u t us back (head_apart u (us ++ t ∷ back) apart))
before_apart (u ∷ us) back t apart (suc k) d within = before_apart us back t (tail_apart u (us ++ t ∷ back) apart) k d (omega (arith, within))

-- What a new widget is matched to.
use Rattle.std.proofs.Common.{◌≡◌, ℕ, ◌+◌, ◌-◌, ◌<◌, ◌≤◌, Bool, true, false, IsTrue, Option, Some, None, List, length, get_or, slice_get, nat_lt, nat_le, inl, inr, refl, sym, ◌∙◌, ap, subst, arith}
use Rattle.std.specs.Option.{option_map}
use Rattle.std.specs.List.{position_from, slice_range}
use Rattle.std.proofs.lemmas.Bool.{cases_lt, lt-ltb, le-ltb}
use Rattle.std.proofs.lemmas.Option.{slice_get-map, slice_get_within, get_or_from_slice_get, slice_get-get_or}
use Rattle.fx_expr.specs.declared.values.Value.{Value}
use Rattle.widget_keys.specs.declared.keys.Key.{Key}
use Rattle.widget_keys.specs.declared.keys.Key.TheVariants as key
use Rattle.widget_keys.specs.Key.{is_given}
use Rattle.widget_model.specs.Plain.{PlainWidget, key_of}
use Rattle.widget_model.specs.Update.{updates}
use Rattle.reconcile.specs.declared.middle.Middle.{Middle}
use Rattle.reconcile.specs.Keys.{NoKeyRepeats}
use Rattle.reconcile.specs.Matching.{prefix_len, suffix_len, middle_of, keyed_match, match_at}
use Rattle.reconcile.specs.Middle.{IsMiddleOf, shared_place}
use Rattle.reconcile.specs.Places.{HasKeyAt, IsPlaceOf}
use Rattle.reconcile.proofs.Sizes.{prefix_within, suffix_within}
use Rattle.reconcile.proofs.Positions.{none_between, first_between}
use Rattle.reconcile.proofs.Updates.{updates_key}
use Rattle.reconcile.proofs.PlaceLemmas.{key_there}

-- where a key stands stands a widget that has it
pub widget_with : (ws : List PlainWidget) (i : ℕ) (q : Key Value) → HasKeyAt ws i q → (w : PlainWidget) × (slice_get ws i ≡ Some w) × (key_of w ≡ q)
widget_with ws i q at = found (slice_get ws i) refl (sym (slice_get-map key_of ws i) ∙ at) where
  found : (o : Option PlainWidget) → slice_get ws i ≡ o → option_map key_of o ≡ Some q → (w : PlainWidget) × (slice_get ws i ≡ Some w) × (key_of w ≡ q)
  found None e h = cc
  found (Some w) e h = (w, e, cc)

-- a key that stands at two places of a list without repeats
pub one_place : (ws : List PlainWidget) (q : Key Value) (j k : ℕ) → NoKeyRepeats ws → IsTrue (is_given q) → HasKeyAt ws j q → HasKeyAt ws k q → j ≡ k
one_place ws q j k apart given at_j at_k =
    let a = widget_with ws j q at_j in
    let b = widget_with ws k q at_k in
    let in_j = slice_get_within ws j a.0 a.1 in
    let in_k = slice_get_within ws k b.0 b.1 in
    let key_j : key_of (get_or ws j a.0) ≡ q = ap key_of (get_or_from_slice_get ws j a.0 a.0 a.1) ∙ a.2 in
    let key_k : key_of (get_or ws k a.0) ≡ q = ap key_of (get_or_from_slice_get ws k b.0 a.0 b.1) ∙ b.2 in
    elim (cases_lt j k) [
      | inl less ↦ absurd (apart j k a.0 less in_k (subst (λ x. IsTrue (is_given x)) (sym key_j) given) (key_j ∙ sym key_k))
      | inr not_less ↦ elim (cases_lt k j) [
        | inl more ↦ absurd (apart k j a.0 more in_j (subst (λ x. IsTrue (is_given x)) (sym key_k) given) (key_k ∙ sym key_j))
        | inr not_more ↦ omega arith
      ]
    ]

bool_or : (b : Bool) → (b ≡ true → ⊥) → b ≡ false
bool_or true h = absurd (h refl)
bool_or false h = refl

pub given_or : (q : Key Value) → (q ≡ key.None → ⊥) → is_given q ≡ true
given_or key.None h = absurd (h refl)
given_or (key.Local v) h = refl
given_or (key.Global v) h = refl

-- a test at the widget of a place, and at what stands there
at_place : (ws : List PlainWidget) (k : ℕ) (d w : PlainWidget) → k < length ws → updates (get_or ws k d) w ≡ true → HasKeyAt ws k (key_of w)
at_place ws k d w below e =
    subst (λ q. HasKeyAt ws k q) (updates_key (get_or ws k d) w e) (key_there ws k (get_or ws k d) (slice_get-get_or ws k d below))

module _ (old new : List PlainWidget) (m : Middle) (middle : IsMiddleOf old new m) where
  pub end_within : (m.old_end ≤ length old) × (m.start ≤ m.old_end) × (m.new_end ≤ length new) × (m.start ≤ m.new_end)
  end_within =
      let p = prefix_within old new in
      let s = suffix_within old new in
      let a = middle.start in
      let b = middle.old_end in
      let c = middle.new_end in
      (omega arith, omega arith, omega arith, omega arith)

module _ (old new : List PlainWidget) (m : Middle) (middle : IsMiddleOf old new m) (w : PlainWidget) where
  pub keyed_at : is_given (key_of w) ≡ true → (o : Option ℕ) → position_from (λ a. updates a w) m.start (slice_range old m.start m.old_end) ≡ o → o ≡ keyed_match old new w
  unfolding keyed_match middle_of
  keyed_at g o e = sym e ∙ rw (g, middle.start, middle.old_end) refl

  pub keyless : key_of w ≡ key.None → None ≡ keyed_match old new w
  unfolding keyed_match
  keyless e = rw e refl

  -- no old widget of the middle has the key
  pub keyed_none : (key_of w ≡ key.None → ⊥) → ((k : ℕ) → m.start ≤ k → k < m.old_end → HasKeyAt old k (key_of w) → ⊥) → None ≡ keyed_match old new w
  keyed_none g none =
      let e = end_within old new m middle in
      keyed_at (given_or (key_of w) g) None
      (none_between (λ a. updates a w) old m.start m.old_end w e.0 e.1
      (λ k low high. bool_or (updates (get_or old k w) w) (λ t. none k low high (at_place old k w w (omega arith) t))))

  module _ (g : key_of w ≡ key.None → ⊥) (apart : NoKeyRepeats old) (j : ℕ) (low : m.start ≤ j) (high : j < m.old_end) (has : HasKeyAt old j (key_of w))
      (a : PlainWidget) (at : slice_get old j ≡ Some a) where
    elsewhere : (k : ℕ) → k < m.old_end → (k ≡ j → ⊥) → updates (get_or old k w) w ≡ false
    elsewhere k below other =
        let e = end_within old new m middle in
        bool_or (updates (get_or old k w) w) (λ t. other (one_place old (key_of w) k j apart (given_or (key_of w) g) (at_place old k w w (omega arith) t) has))

    here : get_or old j w ≡ a
    here = get_or_from_slice_get old j a w at

    -- the one that has the key can't update
    pub keyed_other : updates a w ≡ false → None ≡ keyed_match old new w
    keyed_other fails =
        let e = end_within old new m middle in
        keyed_at (given_or (key_of w) g) None
        (none_between (λ x. updates x w) old m.start m.old_end w e.0 e.1
        (λ k l h. elim (cases_lt k j) [
          | inl less ↦ elsewhere k h (λ same. omega arith)
          | inr not_less ↦ elim (cases_lt j k) [
            | inl more ↦ elsewhere k h (λ same. omega arith)
            | inr not_more ↦ let same : k ≡ j = omega arith in ap (λ n. updates (get_or old n w) w) same ∙ ap (λ x. updates x w) here ∙ fails
          ]
        ]))

    -- the one that has the key can
    pub keyed_found : updates a w ≡ true → Some j ≡ keyed_match old new w
    keyed_found passes =
        let e = end_within old new m middle in
        keyed_at (given_or (key_of w) g) (Some j)
        (first_between (λ x. updates x w) old m.start m.old_end w e.0 j low high (ap (λ x. updates x w) here ∙ passes)
        (λ k l h. elsewhere k (omega arith) (λ same. omega arith)))

-- what a map of places says of a key that it has no place of, and of one that it has
pub no_place : (ws : List PlainWidget) (from to : ℕ) (key : Key Value) (o : Option ℕ) → IsPlaceOf ws from to key o → o ≡ None → IsPlaceOf ws from to key None
no_place ws from to key o h e = subst (λ x. IsPlaceOf ws from to key x) e h

pub a_place : (ws : List PlainWidget) (from to : ℕ) (key : Key Value) (o : Option ℕ) (j : ℕ) → IsPlaceOf ws from to key o → o ≡ Some j → IsPlaceOf ws from to key (Some j)
a_place ws from to key o j h e = subst (λ x. IsPlaceOf ws from to key x) e h

module _ (old new : List PlainWidget) (m : Middle) (middle : IsMiddleOf old new m) (i : ℕ) where
  pub in_front : i < m.start → Some i ≡ match_at old new i
  unfolding match_at
  in_front h =
      let a = middle.start in
      let t : nat_lt i (prefix_len old new) ≡ true = lt-ltb i (prefix_len old new) (omega arith) in
      rw t refl

  pub in_end : m.start ≤ i → m.new_end ≤ i → i < length new → Some (m.old_end + (i - m.new_end)) ≡ match_at old new i
  unfolding match_at
  in_end low past within =
      let a = middle.start in
      let b = middle.old_end in
      let c = middle.new_end in
      let p = prefix_within old new in
      let s = suffix_within old new in
      let t : nat_lt i (prefix_len old new) ≡ false = le-ltb i (prefix_len old new) (omega arith) in
      let u : nat_le (length new - suffix_len old new) i ≡ true = grind arith in
      let e : m.old_end + (i - m.new_end) ≡ length old + i - length new = omega arith in
      rw (t, u) (ap Some e)

  pub in_middle : m.start ≤ i → i < m.new_end → (w : PlainWidget) → slice_get new i ≡ Some w → (r : Option ℕ) → r ≡ keyed_match old new w → r ≡ match_at old new i
  unfolding match_at
  in_middle low before w at r e =
      let a = middle.start in
      let c = middle.new_end in
      let t : nat_lt i (prefix_len old new) ≡ false = le-ltb i (prefix_len old new) (omega arith) in
      let u : nat_le (length new - suffix_len old new) i ≡ false = grind arith in
      rw (t, u, at) e

  -- what is said of a widget in the front or at the end, and that one between is neither
  pub shared_gives : i < length new → (r : Option ℕ) (j : ℕ) → r ≡ shared_place m i → r ≡ Some j → Some j ≡ match_at old new i
  shared_gives within r j e f = elim (cases_lt i m.start) [
    | inl low ↦
        let t : nat_lt i m.start ≡ true = lt-ltb i m.start low in
        let same : shared_place m i ≡ Some i = rw t refl in
        sym (sym same ∙ sym e ∙ f) ∙ in_front low
    | inr past ↦ elim (cases_lt i m.new_end) [
      | inl before ↦ absurd (between_none past before (sym e ∙ f))
      | inr end_part ↦
          let t : nat_lt i m.start ≡ false = le-ltb i m.start past in
          let u : nat_le m.new_end i ≡ true = grind arith in
          let same : shared_place m i ≡ Some (m.old_end + (i - m.new_end)) = rw (t, u) refl in
          sym (sym same ∙ sym e ∙ f) ∙ in_end past end_part within
    ]
  ] where
    between_none : m.start ≤ i → i < m.new_end → shared_place m i ≡ Some j → ⊥
    between_none past before h =
        let t : nat_lt i m.start ≡ false = le-ltb i m.start past in
        let u : nat_le m.new_end i ≡ false = grind arith in
        let none : shared_place m i ≡ None = rw (t, u) refl in
        cc

  pub not_shared : (r : Option ℕ) → r ≡ shared_place m i → r ≡ None → (m.start ≤ i) × (i < m.new_end)
  not_shared r e f = elim (cases_lt i m.start) [
    | inl low ↦
        let t : nat_lt i m.start ≡ true = lt-ltb i m.start low in
        let same : shared_place m i ≡ Some i = rw t refl in
        absurd (cc)
    | inr past ↦ elim (cases_lt i m.new_end) [
      | inl before ↦ (past, before)
      | inr end_part ↦
          let t : nat_lt i m.start ≡ false = le-ltb i m.start past in
          let u : nat_le m.new_end i ≡ true = grind arith in
          let same : shared_place m i ≡ Some (m.old_end + (i - m.new_end)) = rw (t, u) refl in
          absurd (cc)
    ]
  ]

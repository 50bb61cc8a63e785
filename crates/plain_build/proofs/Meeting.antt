-- Which keys were met, in the whole tree and among siblings.
use Rattle.std.proofs.Common.{◌≡◌, ℕ, zero, suc, ◌+◌, ◌<◌, Bool, true, false, cond, ◌||◌, Option, Some, None, List, [], ◌∷◌, ◌++◌, length, map, take, slice_get, refl, sym, ap, ◌∙◌, subst, append_assoc, length-append, inl, inr, arith}
use Rattle.std.specs.BTreeSet.{BTreeSet, Updates}
use Rattle.std.specs.List.{list_any}
use Rattle.std.specs.Ordering.{is_eq, eq_by_cmp}
use Rattle.std.proofs.lemmas.Bool.{cases_lt}
use Rattle.std.proofs.lemmas.Option.{slice_get_past}
use Rattle.fx_expr.specs.declared.values.Value.{Value}
use Rattle.fx_expr.specs.Value.{value_eq}
use Rattle.widget_keys.specs.declared.keys.Key.{Key}
use Rattle.widget_keys.specs.declared.keys.Key.TheVariants as key
use Rattle.widget_keys.specs.Key.{repeats, repeats_at, is_repeat, IsRepeat}
use Rattle.widget_model.specs.Plain.{PlainWidget, key_of}
use Rattle.reconcile.specs.Keys.{NoKeyRepeats}
use Rattle.reconcile.proofs.KeyTests.{is_repeat-ties}
use Rattle.reconcile.proofs.Repeats.{all_differ}
use Rattle.plain_tree.specs.PlainNode.{PlainNode}
use Rattle.build_form.specs.Step.{Progress, stops, gives, repeated_global_key, repeated_sibling_key}
use Rattle.build_form.specs.Entering.{met_once, first_repeated, unless_repeated, apart}
use Rattle.plain_build.specs.WalkView.{has_met}
use Rattle.plain_build.proofs.Holding.{value_cmp, values_tie}

any-same : {X : Type 0} (p q : X → Bool) → ((x : X) → p x ≡ q x) → (xs : List X) → list_any p xs ≡ list_any q xs
any-same p q e [] = refl
any-same p q e (x ∷ xs) = let h = e x in let t = any-same p q e xs in cc

-- what a set answers
pub met_answers : (k : Value) (met : BTreeSet Value) → list_any (λ j. is_eq (value_cmp k j)) met.keys ≡ has_met met k
met_answers k met = any-same (λ j. is_eq (value_cmp k j)) (λ j. value_eq k j) (λ j. values_tie k j) met.keys

or_cond : (a b : Bool) → (a || b) ≡ cond a true b
or_cond true b = refl
or_cond false b = refl

module _ (e n : ℕ) (ws : List (Option PlainNode)) where
  at_set : BTreeSet Value → Progress
  at_set met = record { entered = e; met = λ k. has_met met k; next = n; waiting = ws }

  -- a global key that was met
  pub met_again : (k : Key Value) (g h : Value) (met : BTreeSet Value) → k ≡ key.Global g → has_met met g ≡ true → h ≡ g
      → met_once k (record { entered = e; met = λ v. has_met met v; next = n; waiting = ws }) ≡ stops (repeated_global_key h)
  met_again k g h met is there same = rw (is, there) (ap (λ v. stops (repeated_global_key v)) (sym same))

  -- one that wasn't
  pub met_now : (k : Key Value) (g h : Value) (old new : BTreeSet Value) → k ≡ key.Global g → has_met old g ≡ false → h ≡ g → Updates value_cmp old new h true
      → met_once k (record { entered = e; met = λ v. has_met old v; next = n; waiting = ws }) ≡ gives tt (record { entered = e; met = λ v. has_met new v; next = n; waiting = ws })
  met_now k g h old new is absent same updates =
      let grown : (v : Value) → (value_eq g v || has_met old v) ≡ has_met new v = λ v.
      or_cond (value_eq g v) (has_met old v)
      ∙ ap (λ b. cond b true (has_met old v)) (sym (values_tie g v) ∙ ap (λ x. is_eq (value_cmp x v)) (sym same))
      ∙ ap (cond (is_eq (value_cmp h v)) true) (sym (met_answers v old))
      ∙ sym (updates.0 v)
      ∙ met_answers v new in
      rw (is, absent) (λ at. gives tt (record { entered = e; met = λ v. grown v at; next = n; waiting = ws }))

-- ---- siblings

at_end : (e : List (Key Value)) (k : Key Value) (ks : List (Key Value)) → slice_get (e ++ k ∷ ks) (length e) ≡ Some k
at_end [] k ks = refl
at_end (x ∷ e) k ks = at_end e k ks

before_end : (e ks : List (Key Value)) → take (length e) (e ++ ks) ≡ e
before_end [] ks = refl
before_end (x ∷ e) ks = ap (λ l. x ∷ l) (before_end e ks)

-- whether a key repeats one of the earlier ones
here : (e : List (Key Value)) (k : Key Value) (ks : List (Key Value)) → is_repeat value_eq (e ++ k ∷ ks) (length e) ≡ repeats value_eq e k
here e k ks = ap (repeats_at value_eq (take (length e) (e ++ k ∷ ks))) (at_end e k ks) ∙ ap (λ l. repeats value_eq l k) (before_end e (k ∷ ks))

module _ (e : List (Key Value)) (k : Key Value) (ks : List (Key Value)) where
  joined : (e ++ k ∷ []) ++ ks ≡ e ++ k ∷ ks
  joined = append_assoc e (k ∷ []) ks

  -- no key so far repeats an earlier one
  if_false : (b : Bool) → is_repeat value_eq (e ++ k ∷ ks) (length e) ≡ b → (IsRepeat value_eq (e ++ k ∷ ks) (length e) → ⊥) → b ≡ false
  if_false true is none = absurd (none is)
  if_false false is none = refl

  past : (IsRepeat value_eq (e ++ k ∷ ks) (length e) → ⊥) → first_repeated e (k ∷ ks) ≡ first_repeated (e ++ k ∷ []) ks
  past none = ap (λ b. cond b (Some k) (first_repeated (e ++ k ∷ []) ks)) (sym (here e k ks) ∙ if_false (is_repeat value_eq (e ++ k ∷ ks) (length e)) refl none)

pub none_repeated : (e ks : List (Key Value)) → ((j : ℕ) → IsRepeat value_eq (e ++ ks) j → ⊥) → first_repeated e ks ≡ None
none_repeated e [] none = refl
none_repeated e (k ∷ ks) none =
    past e k ks (none (length e)) ∙ none_repeated (e ++ k ∷ []) ks (λ j r. none j (subst (λ l. IsRepeat value_eq l j) (joined e k ks) r))

pub one_repeated : (e ks : List (Key Value)) (i at : ℕ) → at ≡ length e + i → IsRepeat value_eq (e ++ ks) at → ((j : ℕ) → j < at → IsRepeat value_eq (e ++ ks) j → ⊥)
    → first_repeated e ks ≡ slice_get ks i
one_repeated e [] i at is r least = refl
one_repeated e (k ∷ ks) zero at is r least =
    let same : at ≡ length e = omega arith in
    let r1 : IsRepeat value_eq (e ++ k ∷ ks) (length e) = subst (λ n. IsRepeat value_eq (e ++ k ∷ ks) n) same r in
    ap (λ b. cond b (Some k) (first_repeated (e ++ k ∷ []) ks)) (sym (here e k ks) ∙ r1)
one_repeated e (k ∷ ks) (suc i) at is r least =
    let more : length (e ++ k ∷ []) ≡ length e + 1 = length-append e (k ∷ []) in
    past e k ks (least (length e) (omega arith))
    ∙ one_repeated (e ++ k ∷ []) ks i at (omega arith) (subst (λ l. IsRepeat value_eq l at) (sym (joined e k ks)) r)
    (λ j low q. least j low (subst (λ l. IsRepeat value_eq l j) (joined e k ks) q))

-- ---- of a list of widgets, by the order of values

module _ (ws : List PlainWidget) (ks : List (Key Value)) (keys : ks ≡ map key_of ws) (s : Progress) where
  is_one : (k : ℕ) → is_repeat (eq_by_cmp value_cmp) ks k ≡ is_repeat value_eq (map key_of ws) k
  is_one k = is_repeat-ties ks k ∙ ap (λ l. is_repeat value_eq l k) keys

  -- no key repeats
  pub are_apart : ((k : ℕ) → IsRepeat (eq_by_cmp value_cmp) ks k → ⊥) → apart ws s ≡ gives ws s
  are_apart none = ap (λ o. unless_repeated o ws s) (none_repeated [] (map key_of ws) (λ k r. none k (is_one k ∙ r)))

  -- a key repeats first at a place
  pub is_repeated : (i : ℕ) (k : Key Value) → IsRepeat (eq_by_cmp value_cmp) ks i → ((j : ℕ) → j < i → IsRepeat (eq_by_cmp value_cmp) ks j → ⊥) → slice_get ks i ≡ Some k
      → apart ws s ≡ stops (repeated_sibling_key k)
  is_repeated i k r least at =
      ap (λ o. unless_repeated o ws s)
      (one_repeated [] (map key_of ws) i i (omega arith) (sym (is_one i) ∙ r) (λ j low q. least j low (is_one j ∙ q))
      ∙ ap (λ l. slice_get l i) (sym keys) ∙ at)

  pub keys_differ : ((k : ℕ) → IsRepeat (eq_by_cmp value_cmp) ks k → ⊥) → NoKeyRepeats ws
  keys_differ none = all_differ ws (λ k r. none k (is_one k ∙ r))

past_none : (keys : List (Key Value)) (k : ℕ) → slice_get keys k ≡ None → IsRepeat (eq_by_cmp value_cmp) keys k → ⊥
past_none keys k e r = cc

-- a repeat stands within
pub repeat_within : (keys : List (Key Value)) (i : ℕ) → IsRepeat (eq_by_cmp value_cmp) keys i → i < length keys
repeat_within keys i r = elim (cases_lt i (length keys)) [ inl low ↦ low | inr high ↦ absurd (past_none keys i (slice_get_past keys i high) r) ]

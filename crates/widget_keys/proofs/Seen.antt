-- What a set of the keys so far says of the next key.
use Rattle.std.proofs.Common.{◌≡◌, ℕ, ◌+◌, ◌<◌, Bool, true, false, not, ◌||◌, cond, List, [], ◌∷◌, ◌++◌, length, take, get_or, slice_get, None, ◌≤◌, inl, inr, refl, sym, ◌∙◌, ap, Bor, arith}
use Rattle.std.specs.List.{list_any}
use Rattle.std.specs.Cmp.{IsTotalOrder}
use Rattle.std.specs.Ordering.{is_eq, eq_by_cmp, ordering_reverse}
use Rattle.std.specs.declared.cmp.Ordering.{Ordering}
use Rattle.std.specs.declared.cmp.Ordering.TheVariants.{Less, Equal, Greater}
use Rattle.std.proofs.lemmas.Bool.{cases_lt}
use Rattle.std.proofs.lemmas.List.{take_more}
use Rattle.std.proofs.lemmas.List.Folds.{list_any-append}
use Rattle.std.proofs.lemmas.Option.{slice_get_read, slice_get_past}
use Rattle.widget_keys.specs.declared.keys.Key.{Key}
use Rattle.widget_keys.specs.declared.keys.Key.TheVariants as key
use Rattle.widget_keys.specs.Key.{is_given, keys_equal, repeats, repeats_at, IsRepeat}

-- tests that agree find alike
list_any-same : {X : Type 0} (p q : X → Bool) → ((x : X) → p x ≡ q x) → (xs : List X) → list_any p xs ≡ list_any q xs
list_any-same p q e [] = refl
list_any-same p q e (x ∷ xs) = let h = e x in let t = list_any-same p q e xs in cc

given : {V : Type 0} (k : Key V) → (k ≡ key.None → ⊥) → is_given k ≡ true
given key.None n = absurd (n refl)
given (key.Local v) n = refl
given (key.Global v) n = refl

-- an absent key repeats none
absent_kept : {V : Type 0} (eq : V → V → Bool) (earlier : List (Key V)) (k : Key V) → k ≡ key.None → repeats eq earlier k ≡ false
absent_kept eq earlier key.None e = refl
absent_kept eq earlier (key.Local v) e = cc
absent_kept eq earlier (key.Global v) e = cc

-- whether the key at i is a repeat
pub is_repeat_at : {V : Type 0} (eq : V → V → Bool) (keys : List (Key V)) (i : ℕ) (k : Key V)
    → i < length keys → k ≡ get_or keys i k → repeats_at eq (take i keys) (slice_get keys i) ≡ repeats eq (take i keys) k
is_repeat_at eq keys i k below at = rw (slice_get_read keys (length keys) i k refl below at) refl

pub absent_at : {V : Type 0} (eq : V → V → Bool) (keys : List (Key V)) (i : ℕ) (k : Key V)
    → i < length keys → k ≡ get_or keys i k → k ≡ key.None → IsRepeat eq keys i → ⊥
absent_at eq keys i k below at none r =
    let e = is_repeat_at eq keys i k below at in let f = absent_kept eq (take i keys) k none in cc

-- the set answers for a key that isn't absent whether it repeats an earlier one
pub set_answers : {V : Type 0} (eq : V → V → Bool) (R : Key V → Key V → Ordering)
    → ((a b : Key V) → is_eq (R a b) ≡ keys_equal eq a b)
    → (keys : List (Key V)) (seen : List (Bor (Key V))) (i : ℕ) (k : Key V)
    → i < length keys → k ≡ get_or keys i k → (k ≡ key.None → ⊥)
    → ((q : Key V) → is_given q ≡ true → list_any (λ (s : Bor (Key V)). keys_equal eq q s.now) seen ≡ list_any (keys_equal eq q) (take i keys))
    → repeats_at eq (take i keys) (slice_get keys i) ≡ list_any (λ (s : Bor (Key V)). is_eq (R k s.now)) seen
set_answers eq R same keys seen i k below at some kept =
    let g = given k some in
    let e = is_repeat_at eq keys i k below at in
    let f = kept k g in
    let h = list_any-same (λ s. is_eq (R k s.now)) (λ s. keys_equal eq k s.now) (λ s. same k s.now) seen in
    e ∙ (rw g (sym f ∙ sym h))

-- a key found now, or before
join : (here before : Bool) → cond here true before ≡ (before || (here || false))
join true true = refl
join true false = refl
join false true = refl
join false false = refl

no_absent : {V : Type 0} (eq : V → V → Bool) (q k : Key V) → is_given q ≡ true → k ≡ key.None → keys_equal eq q k ≡ false
no_absent eq key.None k g n = cc
no_absent eq (key.Local v) k g n = rw n refl
no_absent eq (key.Global v) k g n = rw n refl

or_false : (b : Bool) → b ≡ (b || (false || false))
or_false true = refl
or_false false = refl

-- after the key at i is stored, the set answers as one key more
pub set_grows : {V : Type 0} (eq : V → V → Bool) (R : Key V → Key V → Ordering)
    → ((a b : Key V) → is_eq (R a b) ≡ keys_equal eq a b)
    → ((a b : Key V) → is_eq (R a b) ≡ is_eq (R b a))
    → (keys : List (Key V)) (seen grown : List (Bor (Key V))) (i : ℕ) (k : Key V)
    → i < length keys → k ≡ get_or keys i k
    → ((q : Key V) → is_given q ≡ true → list_any (λ (s : Bor (Key V)). keys_equal eq q s.now) seen ≡ list_any (keys_equal eq q) (take i keys))
    → ((q : Key V) → list_any (λ (s : Bor (Key V)). is_eq (R q s.now)) grown ≡ cond (is_eq (R k q)) true (list_any (λ (s : Bor (Key V)). is_eq (R q s.now)) seen))
    → (q : Key V) → is_given q ≡ true → list_any (λ (s : Bor (Key V)). keys_equal eq q s.now) grown ≡ list_any (keys_equal eq q) (take (i + 1) keys)
set_grows eq R same turns keys seen grown i k below at kept grows q g =
    let more : take (i + 1) keys ≡ take i keys ++ k ∷ [] = take_more keys i k below ∙ ap (λ x. take i keys ++ x ∷ []) (sym at) in
    let in_grown = list_any-same (λ (s : Bor (Key _)). is_eq (R q s.now)) (λ s. keys_equal eq q s.now) (λ s. same q s.now) grown in
    let in_seen = list_any-same (λ (s : Bor (Key _)). is_eq (R q s.now)) (λ s. keys_equal eq q s.now) (λ s. same q s.now) seen in
    sym in_grown ∙ grows q
    ∙ rw (turns k q, same q k, in_seen, kept q g, more, list_any-append) (join (keys_equal eq q k) (list_any (keys_equal eq q) (take i keys)))

-- an absent key changes nothing for the others
pub absent_grows : {V : Type 0} (eq : V → V → Bool) (keys : List (Key V)) (i : ℕ) (k : Key V) (found : Bool)
    → i < length keys → k ≡ get_or keys i k → k ≡ key.None
    → (q : Key V) → is_given q ≡ true → found ≡ list_any (keys_equal eq q) (take i keys) → found ≡ list_any (keys_equal eq q) (take (i + 1) keys)
absent_grows eq keys i k found below at none q g e =
    let more : take (i + 1) keys ≡ take i keys ++ k ∷ [] = take_more keys i k below ∙ ap (λ x. take i keys ++ x ∷ []) (sym at) in
    let f = no_absent eq q k g none in
    e ∙ rw (more, list_any-append) (rw f (or_false _))

-- the order that keys have by kind and value ties where keys are equal
pub order_ties : {V : Type 0} (cmp : V → V → Ordering) (R : Key V → Key V → Ordering)
    → (R key.None key.None ≡ Equal)
    → ((w : V) → is_eq (R key.None (key.Local w)) ≡ false)
    → ((w : V) → is_eq (R key.None (key.Global w)) ≡ false)
    → ((v : V) → is_eq (R (key.Local v) key.None) ≡ false)
    → ((v w : V) → is_eq (R (key.Local v) (key.Local w)) ≡ is_eq (cmp v w))
    → ((v w : V) → is_eq (R (key.Local v) (key.Global w)) ≡ false)
    → ((v : V) → is_eq (R (key.Global v) key.None) ≡ false)
    → ((v w : V) → is_eq (R (key.Global v) (key.Local w)) ≡ false)
    → ((v w : V) → is_eq (R (key.Global v) (key.Global w)) ≡ is_eq (cmp v w))
    → (a b : Key V) → is_eq (R a b) ≡ keys_equal (eq_by_cmp cmp) a b
order_ties cmp R nn nl ng ln ll lg gn gl gg key.None key.None = ap is_eq nn
order_ties cmp R nn nl ng ln ll lg gn gl gg key.None (key.Local w) = nl w
order_ties cmp R nn nl ng ln ll lg gn gl gg key.None (key.Global w) = ng w
order_ties cmp R nn nl ng ln ll lg gn gl gg (key.Local v) key.None = ln v
order_ties cmp R nn nl ng ln ll lg gn gl gg (key.Local v) (key.Local w) = ll v w
order_ties cmp R nn nl ng ln ll lg gn gl gg (key.Local v) (key.Global w) = lg v w
order_ties cmp R nn nl ng ln ll lg gn gl gg (key.Global v) key.None = gn v
order_ties cmp R nn nl ng ln ll lg gn gl gg (key.Global v) (key.Local w) = gl v w
order_ties cmp R nn nl ng ln ll lg gn gl gg (key.Global v) (key.Global w) = gg v w

-- equality of keys doesn't depend on which is named first
pub keys_equal-turned : {V : Type 0} (eq : V → V → Bool) → ((v w : V) → eq v w ≡ eq w v) → (a b : Key V) → keys_equal eq a b ≡ keys_equal eq b a
keys_equal-turned eq t key.None key.None = refl
keys_equal-turned eq t key.None (key.Local w) = refl
keys_equal-turned eq t key.None (key.Global w) = refl
keys_equal-turned eq t (key.Local v) key.None = refl
keys_equal-turned eq t (key.Local v) (key.Local w) = t v w
keys_equal-turned eq t (key.Local v) (key.Global w) = refl
keys_equal-turned eq t (key.Global v) key.None = refl
keys_equal-turned eq t (key.Global v) (key.Local w) = refl
keys_equal-turned eq t (key.Global v) (key.Global w) = t v w

turned : (o : Ordering) → is_eq (ordering_reverse o) ≡ is_eq o
turned Less = refl
turned Equal = refl
turned Greater = refl

-- a total order ties both ways
pub ties_turned : {V : Type 0} (cmp : V → V → Ordering) → IsTotalOrder cmp → (v w : V) → is_eq (cmp v w) ≡ is_eq (cmp w v)
ties_turned cmp total v w = ap is_eq (total.antisymm v w) ∙ turned (cmp w v)

-- what `insert` answers says whether the key was there
pub was_there : (added here : Bool) → added ≡ not here → added ≡ false → here ≡ true
was_there added true e f = refl
was_there added false e f = cc

pub was_not_there : (added here : Bool) → added ≡ not here → added ≡ true → here ≡ false
was_not_there added true e f = cc
was_not_there added false e f = refl

past_none : {V : Type 0} (eq : V → V → Bool) (keys : List (Key V)) (k : ℕ) → slice_get keys k ≡ None → IsRepeat eq keys k → ⊥
past_none eq keys k e r = cc

-- past the end stands no key
pub none_past : {V : Type 0} (eq : V → V → Bool) (keys : List (Key V)) (i : ℕ) → ((k : ℕ) → k < i → IsRepeat eq keys k → ⊥) → length keys ≤ i → (k : ℕ) → IsRepeat eq keys k → ⊥
none_past eq keys i before end k r = elim (cases_lt k i) [ inl below ↦ before k below r | inr above ↦ let le : length keys ≤ k = omega arith in past_none eq keys k (slice_get_past keys k le) r ]

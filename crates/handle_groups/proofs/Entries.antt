-- What the entries of a map of sets say of groups, and what a write there changes.
use Rattle.std.proofs.Common.{◌≡◌, ℕ, ◌+◌, ◌≤◌, Bool, true, false, cond, ◌&&◌, ◌||◌, List, [], ◌∷◌, ◌++◌, Option, Some, None, String, string_bytes, Result, Ok, Err, OnOk, refl, sym, ap, ◌∙◌, subst, arith, inl, inr, is_some}
use Rattle.std.proofs.lemmas.Bool.{cases_Bool, false_from_ne_true, false≢true, true≢false}
use Rattle.std.proofs.lemmas.Slice.Eq.{bytes_eq-Decides}
use Rattle.std.proofs.lemmas.Map.Keys.{IsDistinct-head, IsDistinct-tail}
use Rattle.std.specs.List.{list_any, IsDistinct, AllByRecursion, AllZip}
use Rattle.std.specs.Map.{lookup, set_value}
use Rattle.std.specs.Str.{bytes_eq}
use Rattle.std.specs.String.{string_eq}
use Rattle.indexmap.specs.IndexMap.{IndexMap, insert_entry}
use Rattle.indexmap.proofs.CallerLemmas.{insert_entry-new}
use Rattle.indexmap.specs.IndexSet.{IndexSet, spare}
use Rattle.fx_handles.specs.declared.Handle.{Handle}
use Rattle.fx_handles.specs.Handle.{same, times}
use Rattle.fx_handles.specs.HandleLaws.{same-true, same-eq, times-cons}
use Rattle.handle_groups.specs.Groups.{groups_of, handles_in, of_group, room_in, stands_in, with_standing}

pub bytes-same : (m n : List ℕ) → bytes_eq m n ≡ true → m ≡ n
bytes-same m n e = (bytes_eq-Decides m n).0 e

pub bytes-sym : (m n : List ℕ) → bytes_eq m n ≡ bytes_eq n m
bytes-sym m n = elim (cases_Bool (bytes_eq m n)) [
  | inl e ↦ e ∙ sym ((bytes_eq-Decides n m).1 (sym (bytes-same m n e)))
  | inr e ↦ e ∙ sym (false_from_ne_true (bytes_eq n m) (λ there. false≢true (sym e ∙ (bytes_eq-Decides m n).1 (sym (bytes-same n m there)))))
]

-- the two tests of one text agree on a third that passes one of them
pub bytes-agree : (m n x : List ℕ) → bytes_eq m x ≡ true → bytes_eq n x ≡ bytes_eq m n
bytes-agree m n x e = ap (bytes_eq n) (sym (bytes-same m x e)) ∙ bytes-sym n m

pub bytes-apart : (m n x : List ℕ) → bytes_eq m x ≡ false → bytes_eq n x ≡ true → bytes_eq m n ≡ false
bytes-apart m n x apart there = ap (bytes_eq m) (bytes-same n x there) ∙ apart

pub same-sym : (h k : Handle) → same h k ≡ same k h
same-sym h k = elim (cases_Bool (same h k)) [
  | inl e ↦ e ∙ sym (same-eq k h (sym (same-true h k e)))
  | inr e ↦ e ∙ sym (false_from_ne_true (same k h) (λ there. false≢true (sym e ∙ same-eq h k (sym (same-true k h there)))))
]

abbrev pub test : {Z : Type 0} → List ℕ → String Z → Bool
test n k = bytes_eq n (string_bytes k)

abbrev pub handles_of : {S : Type 0} → Option (IndexSet Handle S) → List Handle
handles_of None = []
handles_of (Some s) = s.keys

abbrev pub room_of : {S : Type 0} → Option (IndexSet Handle S) → ℕ
room_of None = 0
room_of (Some s) = spare s

-- another set under a name that is there
put_here : {X : Type 0} (a b c : Bool) (w s rest after : X) → (a ≡ true → b ≡ c) → (a ≡ false → b ≡ true → c ≡ false) → after ≡ cond c w rest
    → cond a (cond b w rest) (cond b s after) ≡ cond c w (cond b s rest)
put_here true b c w s rest after agree apart e = elim (cases_Bool b) [
  | inl t ↦ ap (λ x. cond x w rest) t ∙ sym (ap (λ x. cond x w (cond b s rest)) (sym (agree refl) ∙ t))
  | inr f ↦ ap (λ x. cond x w rest) f ∙ sym (ap (λ x. cond x w (cond b s rest)) (sym (agree refl) ∙ f) ∙ ap (λ x. cond x s rest) f)
]
put_here false b c w s rest after agree apart e = elim (cases_Bool b) [
  | inl t ↦ ap (λ x. cond x s after) t ∙ sym (ap (λ x. cond x w (cond b s rest)) (apart refl t) ∙ ap (λ x. cond x s rest) t)
  | inr f ↦ ap (λ x. cond x s after) f ∙ e ∙ sym (ap (λ x. cond c w (cond x s rest)) f)
]

found_later : {X : Type 0} (a : Bool) (s old : X) (o : Option X) → Some old ≡ cond a (Some s) o → a ≡ false → Some old ≡ o
found_later a s old o found e = found ∙ ap (λ x. cond x (Some s) o) e

module _ {Z S : Type 0} where
  pub handles-lookup : (es : List (String Z × IndexSet Handle S)) (n : List ℕ) → handles_in (groups_of es) n ≡ handles_of (lookup (test n) es)
  handles-lookup [] n = refl
  handles-lookup (e ∷ es) n = by (test n e.0) (handles-lookup es n)
    where
      by : (b : Bool) → handles_in (groups_of es) n ≡ handles_of (lookup (test n) es)
          → cond b e.1.keys (handles_in (groups_of es) n) ≡ handles_of (cond b (Some e.1) (lookup (test n) es))
      by true rest = refl
      by false rest = rest

  pub room-lookup : (es : List (String Z × IndexSet Handle S)) (n : List ℕ) → room_in (groups_of es) n ≡ room_of (lookup (test n) es)
  room-lookup [] n = refl
  room-lookup (e ∷ es) n = by (test n e.0) (room-lookup es n)
    where
      by : (b : Bool) → room_in (groups_of es) n ≡ room_of (lookup (test n) es)
          → cond b (spare e.1) (room_in (groups_of es) n) ≡ room_of (cond b (Some e.1) (lookup (test n) es))
      by true rest = refl
      by false rest = rest

  -- a new group without handles
  pub handles-append : (es : List (String Z × IndexSet Handle S)) (k : String Z) (w : IndexSet Handle S) (n : List ℕ) → w.keys ≡ []
      → handles_in (groups_of (es ++ (k, w) ∷ [])) n ≡ handles_in (groups_of es) n
  handles-append [] k w n none = by (test n k)
    where
      by : (b : Bool) → cond b w.keys [] ≡ []
      by true = none
      by false = refl
  handles-append (e ∷ es) k w n none = ap (λ hs. cond (test n e.0) e.1.keys hs) (handles-append es k w n none)

  module _ {X : Type 0} (f : List Handle → ℕ → X) (d : X) where
    abbrev part_in : List (String Z × IndexSet Handle S) → List ℕ → X
    part_in es n = of_group (λ g. f g.handles g.room) d (groups_of es) n

    put_shape : (a : Bool) (k : String Z) (s w : IndexSet Handle S) (es more : List (String Z × IndexSet Handle S)) (n : List ℕ)
        → part_in (cond a ((k, w) ∷ es) ((k, s) ∷ more)) n ≡ cond a (cond (test n k) (f w.keys (spare w)) (part_in es n)) (cond (test n k) (f s.keys (spare s)) (part_in more n))
    put_shape true k s w es more n = refl
    put_shape false k s w es more n = refl

    pub part-set : (es : List (String Z × IndexSet Handle S)) (m n : List ℕ) (w old : IndexSet Handle S) → Some old ≡ lookup (test m) es
        → part_in (set_value (test m) es w) n ≡ cond (bytes_eq m n) (f w.keys (spare w)) (part_in es n)
    part-set [] m n w old found = absurd (cc)
    part-set (e ∷ es) m n w old found =
        put_shape (test m e.0) e.0 e.1 w es (set_value (test m) es w) n
        ∙ later (part-set es m n w old) (bytes-agree m n (string_bytes e.0)) (bytes-apart m n (string_bytes e.0))
      where
        later : (Some old ≡ lookup (test m) es → part_in (set_value (test m) es w) n ≡ cond (bytes_eq m n) (f w.keys (spare w)) (part_in es n))
            → (test m e.0 ≡ true → test n e.0 ≡ bytes_eq m n) → (test m e.0 ≡ false → test n e.0 ≡ true → bytes_eq m n ≡ false)
            → cond (test m e.0) (cond (test n e.0) (f w.keys (spare w)) (part_in es n)) (cond (test n e.0) (f e.1.keys (spare e.1)) (part_in (set_value (test m) es w) n))
            ≡ cond (bytes_eq m n) (f w.keys (spare w)) (cond (test n e.0) (f e.1.keys (spare e.1)) (part_in es n))
        later rest agree apart = elim (cases_Bool (test m e.0)) [
          | inl t ↦
              ap (λ x. cond x (cond (test n e.0) (f w.keys (spare w)) (part_in es n)) (cond (test n e.0) (f e.1.keys (spare e.1)) (part_in (set_value (test m) es w) n))) t
              ∙ put_here true (test n e.0) (bytes_eq m n) (f w.keys (spare w)) (f e.1.keys (spare e.1)) (part_in es n) (cond (bytes_eq m n) (f w.keys (spare w)) (part_in es n)) (λ _. agree t) (λ z. absurd (true≢false z)) refl
          | inr z ↦
              ap (λ x. cond x (cond (test n e.0) (f w.keys (spare w)) (part_in es n)) (cond (test n e.0) (f e.1.keys (spare e.1)) (part_in (set_value (test m) es w) n))) z
              ∙ put_here false (test n e.0) (bytes_eq m n) (f w.keys (spare w)) (f e.1.keys (spare e.1)) (part_in es n) (part_in (set_value (test m) es w) n) (λ t. absurd (false≢true t)) (λ _. apart z)
              (rest (found_later (test m e.0) e.1 old (lookup (test m) es) found z))
        ]

  pub handles-set : (es : List (String Z × IndexSet Handle S)) (m n : List ℕ) (w old : IndexSet Handle S) → Some old ≡ lookup (test m) es
      → handles_in (groups_of (set_value (test m) es w)) n ≡ cond (bytes_eq m n) w.keys (handles_in (groups_of es) n)
  handles-set es m n w old found = part-set (λ hs r. hs) [] es m n w old found

  -- where nothing is found under a name, nothing stands there
  pub handles-absent : (es : List (String Z × IndexSet Handle S)) (n : List ℕ) → None ≡ lookup (test n) es → handles_in (groups_of es) n ≡ []
  handles-absent es n none = handles-lookup es n ∙ ap handles_of (sym none)

  pub handles-found : (es : List (String Z × IndexSet Handle S)) (n : List ℕ) (s : IndexSet Handle S) → Some s ≡ lookup (test n) es → handles_in (groups_of es) n ≡ s.keys
  handles-found es n s found = handles-lookup es n ∙ ap handles_of (sym found)

  pub room-found : (es : List (String Z × IndexSet Handle S)) (n : List ℕ) (s : IndexSet Handle S) → Some s ≡ lookup (test n) es → room_in (groups_of es) n ≡ spare s
  room-found es n s found = room-lookup es n ∙ ap room_of (sym found)

  pub room-absent : (es : List (String Z × IndexSet Handle S)) (n : List ℕ) → None ≡ lookup (test n) es → room_in (groups_of es) n ≡ 0
  room-absent es n none = room-lookup es n ∙ ap room_of (sym none)

  pub lookup-set : (es : List (String Z × IndexSet Handle S)) (m : List ℕ) (w old : IndexSet Handle S) → Some old ≡ lookup (test m) es → Some w ≡ lookup (test m) (set_value (test m) es w)
  lookup-set [] m w old found = absurd (cc)
  lookup-set (e ∷ es) m w old found = by (test m e.0) refl (lookup-set es m w old)
    where
      by : (a : Bool) → test m e.0 ≡ a → (Some old ≡ lookup (test m) es → Some w ≡ lookup (test m) (set_value (test m) es w))
          → Some w ≡ lookup (test m) (cond a ((e.0, w) ∷ es) (e ∷ set_value (test m) es w))
      by true t rest = sym (ap (λ x. cond x (Some w) (lookup (test m) es)) t)
      by false f rest = rest (found_later (test m e.0) e.1 old (lookup (test m) es) found f) ∙ sym (ap (λ x. cond x (Some e.1) (lookup (test m) (set_value (test m) es w))) f)

  -- what stands under the names, once a set says otherwise of one handle
  pub stands-written : (es fs : List (String Z × IndexSet Handle S)) (m n : List ℕ) (h k : Handle) (b : Bool) (w old : IndexSet Handle S)
      → Some old ≡ lookup (test m) es → fs ≡ set_value (test m) es w
      → ((q : Handle) → list_any (same q) w.keys ≡ cond (same h q) b (list_any (same q) old.keys))
      → stands_in (groups_of fs) n k ≡ with_standing b m h (stands_in (groups_of es)) n k
  unfolding stands_in
  stands-written es fs m n h k b w old found is says =
      ap (λ x. list_any (same k) (handles_in (groups_of x) n)) is
      ∙ ap (list_any (same k)) (handles-set es m n w old found)
      ∙ by (bytes_eq m n) refl
    where
      by : (c : Bool) → bytes_eq m n ≡ c → list_any (same k) (cond c w.keys (handles_in (groups_of es) n)) ≡ cond (c && same h k) b (list_any (same k) (handles_in (groups_of es) n))
      by false f = refl
      by true t =
          says k
          ∙ ap (λ hs. cond (same h k) b (list_any (same k) hs)) (sym (handles-found es m old found) ∙ ap (handles_in (groups_of es)) (bytes-same m n t))

  -- where there is no group, nothing is to be taken away
  pub stands-absent : (es : List (String Z × IndexSet Handle S)) (m n : List ℕ) (h k : Handle) → None ≡ lookup (test m) es
      → stands_in (groups_of es) n k ≡ with_standing false m h (stands_in (groups_of es)) n k
  unfolding stands_in
  stands-absent es m n h k none = by (bytes_eq m n) refl (same h k)
    where
      by : (c : Bool) → bytes_eq m n ≡ c → (d : Bool) → list_any (same k) (handles_in (groups_of es) n) ≡ cond (c && d) false (list_any (same k) (handles_in (groups_of es) n))
      by false f d = refl
      by true t false = refl
      by true t true = ap (list_any (same k)) (sym (ap (handles_in (groups_of es)) (bytes-same m n t)) ∙ handles-absent es m none)

  -- a set with more room holds what it held
  pub handles-reserved : (es fs : List (String Z × IndexSet Handle S)) (m n : List ℕ) (w old : IndexSet Handle S) → Some old ≡ lookup (test m) es
      → fs ≡ set_value (test m) es w → w.keys ≡ old.keys → handles_in (groups_of fs) n ≡ handles_in (groups_of es) n
  handles-reserved es fs m n w old found is keys =
      ap (λ x. handles_in (groups_of x) n) is ∙ handles-set es m n w old found ∙ ap (λ hs. cond (bytes_eq m n) hs (handles_in (groups_of es) n)) keys ∙ by (bytes_eq m n) refl
    where
      by : (c : Bool) → bytes_eq m n ≡ c → cond c old.keys (handles_in (groups_of es) n) ≡ handles_in (groups_of es) n
      by true t = sym (handles-found es m old found) ∙ ap (handles_in (groups_of es)) (bytes-same m n t)
      by false f = refl

  pub room-reserved : {E : Type 0} (r : Result (Unit {0}) E) (es fs : List (String Z × IndexSet Handle S)) (m : List ℕ) (w old : IndexSet Handle S) → Some old ≡ lookup (test m) es
      → fs ≡ set_value (test m) es w → OnOk r (1 ≤ spare w) → OnOk r (1 ≤ room_in (groups_of fs) m)
  room-reserved (Ok u) es fs m w old found is room =
      let there : room_in (groups_of fs) m ≡ spare w = ap (λ x. room_in (groups_of x) m) is ∙ room-found (set_value (test m) es w) m w (lookup-set es m w old found) in
      subst (λ (n : ℕ). 1 ≤ n) (sym there) room
  room-reserved (Err e) es fs m w old found is room = room

  pub stands-same : (es fs : List (String Z × IndexSet Handle S)) (n : List ℕ) (k : Handle) → handles_in (groups_of fs) n ≡ handles_in (groups_of es) n
      → stands_in (groups_of fs) n k ≡ stands_in (groups_of es) n k
  unfolding stands_in
  stands-same es fs n k e = ap (list_any (same k)) e

pub stands-kept : {Z S : Type 0} (es fs : List (String Z × IndexSet Handle S)) (m n : List ℕ) (h k : Handle) → fs ≡ es → None ≡ lookup (test m) es
    → stands_in (groups_of fs) n k ≡ with_standing false m h (stands_in (groups_of es)) n k
stands-kept es fs m n h k same none = ap (λ x. stands_in (groups_of x) n k) same ∙ stands-absent es m n h k none

-- a set that keeps its room keeps that of all groups
pub room-kept : {Z S : Type 0} (es fs : List (String Z × IndexSet Handle S)) (m n : List ℕ) (w old : IndexSet Handle S) → Some old ≡ lookup (test m) es
    → fs ≡ set_value (test m) es w → spare old ≤ spare w → room_in (groups_of es) n ≤ room_in (groups_of fs) n
room-kept es fs m n w old found is kept =
    let after : room_in (groups_of fs) n ≡ cond (bytes_eq m n) (spare w) (room_in (groups_of es) n) = ap (λ x. room_in (groups_of x) n) is ∙ part-set (λ hs r. r) 0 es m n w old found in
    subst (λ (x : ℕ). room_in (groups_of es) n ≤ x) (sym after) (by (bytes_eq m n) refl)
  where
    by : (c : Bool) → bytes_eq m n ≡ c → room_in (groups_of es) n ≤ cond c (spare w) (room_in (groups_of es) n)
    by true t =
        let here : room_in (groups_of es) n ≡ spare old = ap (room_in (groups_of es)) (sym (bytes-same m n t)) ∙ room-found es m old found in
        omega (arith, here, kept)
    by false f = (omega arith)

pub room-same : {Z S : Type 0} (es fs : List (String Z × IndexSet Handle S)) (n : List ℕ) → fs ≡ es → room_in (groups_of es) n ≤ room_in (groups_of fs) n
room-same es fs n same =
    let e : room_in (groups_of fs) n ≡ room_in (groups_of es) n = ap (λ x. room_in (groups_of x) n) same in
    omega (arith, e)

none_from_is_some : {A : Type 0} (r : Option A) → false ≡ is_some r → r ≡ None
none_from_is_some None h = refl
none_from_is_some (Some x) h = absurd (true≢false (sym h))

-- the map after a group without handles came under a new name
pub handles-new : {Z S T : Type 0} (m : IndexMap (String Z) (IndexSet Handle S) T) (fs : List (String Z × IndexSet Handle S)) (k : String Z) (w : IndexSet Handle S) (name n : List ℕ)
    → name ≡ string_bytes k → false ≡ is_some (lookup (test name) m.entries) → fs ≡ insert_entry string_eq m.entries k w → w.keys ≡ []
    → handles_in (groups_of fs) n ≡ handles_in (groups_of m.entries) n
handles-new m fs k w name n same none put empty =
    let absent : false ≡ is_some (lookup (test (string_bytes k)) m.entries) = none ∙ ap (λ l. is_some (lookup (test l) m.entries)) same in
    ap (λ es. handles_in (groups_of es) n) (put ∙ insert_entry-new string_eq m k w (none_from_is_some (lookup (test (string_bytes k)) m.entries) absent)) ∙ handles-append m.entries k w n empty

-- ---- lists of handles

-- a handle that a list has is found by the test
pub times-any : (k : Handle) (hs : List Handle) → list_any (same k) hs ≡ false → times k hs ≡ 0
times-any k [] e = refl
times-any k (x ∷ xs) e = by (same k x) refl (times-any k xs) e
  where
    by : (b : Bool) → same k x ≡ b → (list_any (same k) xs ≡ false → times k xs ≡ 0) → (b || list_any (same k) xs) ≡ false → times k (x ∷ xs) ≡ 0
    by true t rest e = absurd (true≢false e)
    by false f rest e =
        let here : cond {A = ℕ} (same x k) 1 0 ≡ 0 = ap (λ b. cond {A = ℕ} b 1 0) (same-sym x k ∙ f) in
        let later : times k xs ≡ 0 = rest e in
        omega (arith, times-cons k x xs)

pub any-times : (k : Handle) (hs : List Handle) → list_any (same k) hs ≡ true → 1 ≤ times k hs
any-times k [] e = absurd (false≢true e)
any-times k (x ∷ xs) e = by (same k x) refl (any-times k xs) e
  where
    by : (b : Bool) → same k x ≡ b → (list_any (same k) xs ≡ true → 1 ≤ times k xs) → (b || list_any (same k) xs) ≡ true → 1 ≤ times k (x ∷ xs)
    by true t rest e =
        let here : cond {A = ℕ} (same x k) 1 0 ≡ 1 = ap (λ b. cond {A = ℕ} b 1 0) (same-sym x k ∙ t) in
        omega (arith, times-cons k x xs)
    by false f rest e =
        let later : 1 ≤ times k xs = rest e in
        omega (arith, times-cons k x xs)

pub among-any : (k : Handle) (hs : List Handle) → 1 ≤ times k hs → list_any (same k) hs ≡ true
among-any k hs among = elim (cases_Bool (list_any (same k) hs)) [
  | inl t ↦ t
  | inr f ↦ let none = times-any k hs f in absurd (omega (arith))
]

module _ {Z S : Type 0} where
  pub among-under : (es : List (String Z × IndexSet Handle S)) (n : List ℕ) (s : IndexSet Handle S) (hs : List Handle) (k : Handle) → Some s ≡ lookup (test n) es → hs ≡ s.keys
      → (1 ≤ times k hs → stands_in (groups_of es) n k ≡ true) × (stands_in (groups_of es) n k ≡ true → 1 ≤ times k hs)
  unfolding stands_in
  among-under es n s hs k found keys =
      let under : handles_in (groups_of es) n ≡ hs = handles-found es n s found ∙ sym keys in
      (λ among. ap (list_any (same k)) under ∙ among-any k hs among, λ stands. any-times k hs (sym (ap (list_any (same k)) under) ∙ stands))

  pub none-under : (es : List (String Z × IndexSet Handle S)) (n : List ℕ) (k : Handle) → None ≡ lookup (test n) es
      → (1 ≤ times k [] → stands_in (groups_of es) n k ≡ true) × (stands_in (groups_of es) n k ≡ true → 1 ≤ times k [])
  unfolding stands_in
  none-under es n k none =
      let under = handles-absent es n none in
      (λ among. absurd (omega (arith, among)), λ stands. absurd (false≢true (sym (ap (list_any (same k)) under) ∙ stands)))

apart-times : (h x : Handle) (xs : List Handle) → same x h ≡ true → AllByRecursion (λ y. same x y ≡ false) xs → times h xs ≡ 0
apart-times h x [] is apart = refl
apart-times h x (y ∷ ys) is apart =
    let later : times h ys ≡ 0 = apart-times h x ys is apart.1 in
    let here : cond {A = ℕ} (same y h) 1 0 ≡ 0 = ap (λ b. cond {A = ℕ} b 1 0) (same-sym y h ∙ ap (λ z. same z y) (sym (same-true x h is)) ∙ apart.0) in
    omega (arith, times-cons h y ys)

-- no handle stands twice in a list without repeats
pub distinct-times : (hs : List Handle) → IsDistinct same hs → (h : Handle) → times h hs ≤ 1
distinct-times [] distinct h = (omega arith)
distinct-times (x ∷ xs) distinct h = elim (cases_Bool (same x h)) [
  | inl t ↦
      let here : cond {A = ℕ} (same x h) 1 0 ≡ 1 = ap (λ b. cond {A = ℕ} b 1 0) t in
      let later : times h xs ≡ 0 = apart-times h x xs t (IsDistinct-head same x xs distinct) in
      omega (arith, times-cons h x xs)
  | inr f ↦
      let here : cond {A = ℕ} (same x h) 1 0 ≡ 0 = ap (λ b. cond {A = ℕ} b 1 0) f in
      let later : times h xs ≤ 1 = distinct-times xs (IsDistinct-tail same x xs distinct) h in
      omega (arith, times-cons h x xs)
]

-- ---- copies

keys-copied : (D : Handle → Handle → Type 0) (is : (h k : Handle) → D h k → k ≡ h) (hs ks : List Handle) → AllZip D hs ks → ks ≡ hs
keys-copied D is [] [] all = refl
keys-copied D is [] (k ∷ ks) all = absurd all
keys-copied D is (h ∷ hs) [] all = absurd all
keys-copied D is (h ∷ hs) (k ∷ ks) all = λ i. is h k all.0 i ∷ keys-copied D is hs ks all.1 i

module _ {Z S : Type 0} (C : String Z → String Z → Type 0) (D : Handle → Handle → Type 0) (name : (s t : String Z) → C s t → string_bytes t ≡ string_bytes s) (is : (h k : Handle) → D h k → k ≡ h) where
  pub handles-copied : (es fs : List (String Z × IndexSet Handle S)) (n : List ℕ) → AllZip (λ p q. C p.0 q.0 × AllZip D p.1.keys q.1.keys) es fs
      → handles_in (groups_of fs) n ≡ handles_in (groups_of es) n
  handles-copied [] [] n all = refl
  handles-copied [] (f ∷ fs) n all = absurd all
  handles-copied (e ∷ es) [] n all = absurd all
  handles-copied (e ∷ es) (f ∷ fs) n all = λ i. cond (bytes_eq n (name e.0 f.0 all.0.0 i)) (keys-copied D is e.1.keys f.1.keys all.0.1 i) (handles-copied es fs n all.1 i)

-- Laws of arenas, for this crate and the proofs of those above it: what a handle reaches, also after a write, and that there are as many
-- live handles as values.
use Rattle.std.proofs.Common.{◌≡◌, ◌≢◌, ◌⊎◌, ℕ, zero, suc, ◌+◌, ◌<◌, ◌≤◌, Bool, true, false, cond, List, [], ◌∷◌, length, get_or, set, drop, Option, Some, None, IsSome, count_by, sum, refl, sym, ap, ◌∙◌, inl, inr, arith}
use Rattle.std.proofs.lemmas.Bool.{cases_eq, cases_lt, eq-eqb, ne_eqb}
use Rattle.std.proofs.lemmas.List.{get_or-set_same, get_or-set_other, get_or_past, set-set, set-get_or}
use Rattle.std.proofs.lemmas.List.Sums.{sum_by-cons}
use Rattle.fx_handles.specs.declared.Handle.{Handle}
use Rattle.fx_handles.specs.Handle.{times, Among, AreDistinct}
use Rattle.fx_handles.specs.Arena.{Arena, held, is_used, is_retired, generation_at, get, IsLive, used_count, generation_sum, with_value, WritesIn}
use Rattle.fx_handles.specs.HandleLaws.{handles_equal, handles_differ, times-cons, times_here, times_there}

-- what a full option has
pub some_of : {X : Type 0} (o : Option X) → IsSome o → (x : X) × (o ≡ Some x)
some_of None some = absurd (cc)
some_of (Some x) some = (x, refl)

pub same_Some : {X : Type 0} {x y : X} → Some x ≡ Some y → x ≡ y
same_Some e = cc

-- a slot counts only by what it holds
module _ {X : Type 0} (p : Option X → Bool) (vacant : p None ≡ false) where
  abbrev one : Option X → ℕ
  one o = cond (p o) 1 0

  count-none : (o : Option X) → o ≡ None → one o ≡ 0
  count-none o e = ap one e ∙ ap (λ b. cond {A = ℕ} b 1 0) vacant

  pub count-first : (xs : List (Option X)) → count_by p xs ≡ cond (p (get_or xs 0 None)) 1 0 + count_by p (drop 1 xs)
  count-first [] = let none = count-none None refl in omega arith
  count-first (x ∷ xs) = sum_by-cons (λ o. cond (p o) 1 0) x xs

  -- lists that agree at each place count the same
  pub count-same : (old new : List (Option X)) → ((k : ℕ) → get_or new k None ≡ get_or old k None) → count_by p new ≡ count_by p old
  count-same [] [] same = refl
  count-same [] (y ∷ ys) same =
      let first = count-none y (same 0) in
      omega (arith, sum_by-cons (λ o. cond (p o) 1 0) y ys, count-same [] ys (λ k. same (suc k)))
  count-same (x ∷ xs) [] same =
      let first = count-none x (sym (same 0)) in
      omega (arith, sum_by-cons (λ o. cond (p o) 1 0) x xs, count-same xs [] (λ k. same (suc k)))
  count-same (x ∷ xs) (y ∷ ys) same =
      let first : one y ≡ one x = ap one (same 0) in
      omega (arith, sum_by-cons (λ o. cond (p o) 1 0) x xs, sum_by-cons (λ o. cond (p o) 1 0) y ys, count-same xs ys (λ k. same (suc k)))

  get_or-drop_one : (xs : List (Option X)) (k : ℕ) → get_or (drop 1 xs) k None ≡ get_or xs (suc k) None
  get_or-drop_one [] k = refl
  get_or-drop_one (x ∷ xs) k = refl

  -- lists that differ at one place count the difference there
  pub count-changed : (old new : List (Option X)) (key : ℕ) → ((k : ℕ) → k ≢ key → get_or new k None ≡ get_or old k None) → count_by p new + cond (p (get_or old key None)) 1 0 ≡ count_by p old + cond (p (get_or new key None)) 1 0
  count-changed old new zero others =
      let rest = count-same (drop 1 old) (drop 1 new) (λ k. rw (get_or-drop_one new k, get_or-drop_one old k) (others (suc k) (λ e. absurd (omega arith)))) in
      omega (arith, count-first old, count-first new)
  count-changed old new (suc key) others =
      let first : one (get_or new 0 None) ≡ one (get_or old 0 None) = ap one (others 0 (λ e. absurd (omega arith))) in
      let rest = rw (get_or-drop_one new key, get_or-drop_one old key) at (count-changed (drop 1 old) (drop 1 new) key (λ k differs. rw (get_or-drop_one new k, get_or-drop_one old k) (others (suc k) (λ e. differs (omega arith))))) in
      omega (arith, count-first old, count-first new)

module _ {T : Type 0} where
  -- what a slot counts as, by what it holds
  pub used-held : (o : Option (Option T)) (x : T) → held o ≡ Some x → o ≡ Some (Some x)
  used-held None x e = absurd cc
  used-held (Some None) x e = absurd cc
  used-held (Some (Some y)) x e = ap Some e

  -- the value of a slot where the generations agree, and where they don't
  pub get-agree : (a : Arena T) (h : Handle) → h.generation ≡ generation_at a h.index → get a h ≡ held (get_or a.slots h.index None)
  unfolding get
  get-agree a h e = rw (eq-eqb h.generation (generation_at a h.index) e) refl

  pub get-differ : (a : Arena T) (h : Handle) → (h.generation ≡ generation_at a h.index → ⊥) → get a h ≡ None
  unfolding get
  get-differ a h ne = rw (ne_eqb h.generation (generation_at a h.index) ne) refl

  pub get-elsewhere : (old new : Arena T) (k : Handle) → get_or new.slots k.index None ≡ get_or old.slots k.index None → generation_at new k.index ≡ generation_at old k.index → get new k ≡ get old k
  unfolding get
  get-elsewhere old new k slot generation = rw (slot, generation) refl

  -- a live handle has its slot's generation, and the slot has its value
  pub live-agree : (a : Arena T) (h : Handle) (x : T) → get a h ≡ Some x → h.generation ≡ generation_at a h.index
  live-agree a h x e = elim (cases_eq h.generation (generation_at a h.index)) [ inl same ↦ same | inr differ ↦ absurd (let none = get-differ a h differ in cc) ]

  pub live-slot : (a : Arena T) (h : Handle) (x : T) → get a h ≡ Some x → get_or a.slots h.index None ≡ Some (Some x)
  live-slot a h x e = used-held _ x (sym (get-agree a h (live-agree a h x e)) ∙ e)

  -- a handle with another generation than its slot reaches nothing, and so it stays
  pub get-other_generation : (old new : Arena T) (k : Handle) → (k.generation ≡ generation_at old k.index → ⊥)
      → (k.generation ≡ generation_at new k.index → held (get_or new.slots k.index None) ≡ None) → get new k ≡ get old k
  get-other_generation old new k differ nothing =
      get_nothing (cases_eq k.generation (generation_at new k.index)) ∙ sym (get-differ old k differ)
    where
      get_nothing : (k.generation ≡ generation_at new k.index) ⊎ (k.generation ≡ generation_at new k.index → ⊥) → get new k ≡ None
      get_nothing (inl agree) = get-agree new k agree ∙ nothing agree
      get_nothing (inr apart) = get-differ new k apart

  -- what the other handles reach after one slot has changed, where its generation stays or is raised
  -- and the slot emptied
  pub get-others : (old new : Arena T) (h : Handle) → h.generation ≡ generation_at old h.index
      → ((i : ℕ) → i ≢ h.index → get_or new.slots i None ≡ get_or old.slots i None)
      → ((i : ℕ) → i ≢ h.index → generation_at new i ≡ generation_at old i)
      → ((g : ℕ) → g ≢ h.generation → g ≡ generation_at new h.index → held (get_or new.slots h.index None) ≡ None)
      → (k : Handle) → k ≢ h → get new k ≡ get old k
  get-others old new h agree slots generations emptied k differs =
      by_index (cases_eq k.index h.index)
    where
      by_index : (k.index ≡ h.index) ⊎ (k.index ≡ h.index → ⊥) → get new k ≡ get old k
      by_index (inl same) =
          let apart = handles_differ h k differs same in
          get-other_generation old new k
          (λ e. apart (e ∙ ap (generation_at old) same ∙ sym agree))
          (λ e. ap (λ i. held (get_or new.slots i None)) same ∙ emptied k.generation apart (e ∙ ap (generation_at new) same))
      by_index (inr other) = get-elsewhere old new k (slots k.index other) (generations k.index other)

  pub writes : (old new : Arena T) (h : Handle) (was value : T)
      → get old h ≡ Some was
      → get_or new.slots h.index None ≡ Some (Some value)
      → ((i : ℕ) → i ≢ h.index → get_or new.slots i None ≡ get_or old.slots i None)
      → new.generations ≡ old.generations
      → WritesIn old new h value
  writes old new h was value live stored others generations =
      let agree = live-agree old h was live in
      let slot = live-slot old h was live in
      let same : (i : ℕ) → generation_at new i ≡ generation_at old i = λ i. ap (λ xs. get_or xs i 0) generations in
      let here : cond {A = ℕ} (is_used (get_or new.slots h.index None)) 1 0 ≡ 1 = ap (λ o. cond (is_used o) 1 0) stored in
      let before : cond {A = ℕ} (is_used (get_or old.slots h.index None)) 1 0 ≡ 1 = ap (λ o. cond (is_used o) 1 0) slot in
      let used : used_count new ≡ used_count old = omega (arith, count-changed is_used refl old.slots new.slots h.index others) in
      let total : generation_sum new ≡ generation_sum old = ap sum generations in
      record {
        found = get-agree new h (agree ∙ sym (same h.index)) ∙ ap held stored;
        others = get-others old new h agree others (λ i _. same i) (λ g apart e. absurd (apart (e ∙ same h.index ∙ sym agree)));
        generations = same;
        spent = λ k spent. rw (same k.index) spent;
        used = used;
        retired =
            let here : cond {A = ℕ} (is_retired (get_or new.slots h.index None)) 1 0 ≡ 0 = ap (λ o. cond (is_retired o) 1 0) stored in
            let before : cond {A = ℕ} (is_retired (get_or old.slots h.index None)) 1 0 ≡ 0 = ap (λ o. cond (is_retired o) 1 0) slot in
            omega (arith, count-changed is_retired refl old.slots new.slots h.index others);
        generation_sum = total;
        inserted = omega arith;
      }

  -- a write through `get_mut` writes the value of that handle
  pub written : (a : Arena T) (h : Handle) (value : T) → IsLive a h → WritesIn a (with_value a h value) h value
  written a h value live =
      let found = some_of (get a h) live in
      let slot = live-slot a h found.0 found.1 in
      let within = within_slots (cases_lt h.index (length a.slots)) slot in
      writes a (with_value a h value) h found.0 value found.1
      (get_or-set_same a.slots h.index (Some (Some value)) None within)
      (λ i differs. get_or-set_other a.slots h.index i (Some (Some value)) None differs)
      refl
    where
      within_slots : {x : T} → (h.index < length a.slots) ⊎ (length a.slots ≤ h.index) → get_or a.slots h.index None ≡ Some (Some x) → h.index < length a.slots
      within_slots (inl lt) e = lt
      within_slots (inr past) e = absurd (let none = get_or_past a.slots h.index None past in cc)

  -- a value that is written over and back leaves the arena as it was
  pub written_back : (a : Arena T) (h : Handle) (was value : T) → get a h ≡ Some was → with_value (with_value a h value) h was ≡ a
  written_back a h was value live =
      let slot = live-slot a h was live in
      let back : set (set a.slots h.index (Some (Some value))) h.index (Some (Some was)) ≡ a.slots = set-set a.slots h.index (Some (Some value)) (Some (Some was)) ∙ ap (set a.slots h.index) (sym slot) ∙ set-get_or a.slots h.index None in
      ap (λ xs. record a { slots = xs }) back

-- a list in which no element counts
count_nothing : {X : Type 0} (p : Option X → Bool) (xs : List (Option X)) → ((i : ℕ) → p (get_or xs i None) ≡ false) → count_by p xs ≡ 0
count_nothing p [] none_counts = refl
count_nothing p (x ∷ xs) none_counts =
    let here : cond {A = ℕ} (p x) 1 0 ≡ 0 = ap (λ b. cond {A = ℕ} b 1 0) (none_counts 0) in
    omega (arith, sum_by-cons (λ o. cond {A = ℕ} (p o) 1 0) x xs, count_nothing p xs (λ i. none_counts (suc i)))

set_none : {X : Type 0} (xs : List (Option X)) (i : ℕ) → get_or (set xs i None) i None ≡ None
set_none [] i = refl
set_none (x ∷ xs) zero = refl
set_none (x ∷ xs) (suc i) = set_none xs i

module _ {T : Type 0} where
  -- the arena without what is in a handle's slot
  abbrev cleared : Arena T → Handle → Arena T
  cleared a h = record a { slots = set a.slots h.index None }

  cleared-elsewhere : (a : Arena T) (h k : Handle) → k.index ≢ h.index → get (cleared a h) k ≡ get a k
  cleared-elsewhere a h k differs = get-elsewhere a (cleared a h) k (get_or-set_other a.slots h.index k.index None None differs) refl

  cleared-here : (a : Arena T) (h k : Handle) → k.index ≡ h.index → get (cleared a h) k ≡ None
  cleared-here a h k here = by_generation (cases_eq k.generation (generation_at a k.index))
    where
      by_generation : (k.generation ≡ generation_at a k.index) ⊎ (k.generation ≡ generation_at a k.index → ⊥) → get (cleared a h) k ≡ None
      by_generation (inl agree) = get-agree (cleared a h) k agree ∙ ap held (ap (λ i. get_or (set a.slots h.index None) i None) here ∙ set_none a.slots h.index)
      by_generation (inr differ) = get-differ (cleared a h) k differ

  -- a live handle's slot counts once
  used-cleared : (a : Arena T) (h : Handle) → IsLive a h → used_count (cleared a h) + 1 ≡ used_count a
  used-cleared a h live =
      let found = some_of (get a h) live in
      let was : cond {A = ℕ} (is_used (get_or a.slots h.index None)) 1 0 ≡ 1 = ap (λ o. cond {A = ℕ} (is_used o) 1 0) (live-slot a h found.0 found.1) in
      let now : cond {A = ℕ} (is_used (get_or (set a.slots h.index None) h.index None)) 1 0 ≡ 0 = ap (λ o. cond {A = ℕ} (is_used o) 1 0) (set_none a.slots h.index) in
      omega (arith, count-changed is_used refl a.slots (set a.slots h.index None) h.index (λ i differs. get_or-set_other a.slots h.index i None None differs))

  used-cleared_le : (a : Arena T) (h : Handle) → used_count a ≤ used_count (cleared a h) + 1
  used-cleared_le a h =
      let now : cond {A = ℕ} (is_used (get_or (set a.slots h.index None) h.index None)) 1 0 ≡ 0 = ap (λ o. cond {A = ℕ} (is_used o) 1 0) (set_none a.slots h.index) in
      at_most (is_used (get_or a.slots h.index None)) (count-changed is_used refl a.slots (set a.slots h.index None) h.index (λ i differs. get_or-set_other a.slots h.index i None None differs)) now
    where
      at_most : (b : Bool) → used_count (cleared a h) + cond {A = ℕ} b 1 0 ≡ used_count a + cond {A = ℕ} (is_used (get_or (set a.slots h.index None) h.index None)) 1 0 → cond {A = ℕ} (is_used (get_or (set a.slots h.index None) h.index None)) 1 0 ≡ 0 → used_count a ≤ used_count (cleared a h) + 1
      at_most true e now = omega arith
      at_most false e now = omega arith

  -- two live handles of one slot are one
  pub live-same_slot : (a : Arena T) (h k : Handle) → IsLive a h → IsLive a k → k.index ≡ h.index → k ≡ h
  live-same_slot a h k live other here =
      let first = some_of (get a h) live in
      let second = some_of (get a k) other in
      handles_equal h k here (live-agree a k second.0 second.1 ∙ ap (generation_at a) here ∙ sym (live-agree a h first.0 first.1))

  -- distinct live handles are at most as many as the values
  pub length-le-used_count : (a : Arena T) (hs : List Handle) → AreDistinct hs → ((h : Handle) → Among h hs → IsLive a h) → length hs ≤ used_count a
  length-le-used_count a [] distinct live = omega arith
  length-le-used_count a (h ∷ hs) distinct live =
      let here = times_here h hs in
      let live_here : IsLive a h = live h (omega arith) in
      let absent : times h hs ≡ 0 = omega (arith, distinct h) in
      omega (
        arith,
        used-cleared a h live_here,
        length-le-used_count (cleared a h) hs
            (λ k. omega (arith, distinct k, times-cons k h hs))
            (λ k among.
            let apart : k ≢ h = λ e. absurd (let same_times : times k hs ≡ times h hs = ap (λ x. times x hs) e in omega arith) in
            let live_there : IsLive a k = live k (omega (arith, times-cons k h hs)) in
            rw (cleared-elsewhere a h k (λ e. apart (live-same_slot a h k live_here live_there e))) live_there),
      )

  -- a list of all live handles is as long as there are values, or longer
  pub used_count-le-length : (a : Arena T) (hs : List Handle) → ((h : Handle) → IsLive a h → Among h hs) → used_count a ≤ length hs
  used_count-le-length a [] all = omega (arith, count_nothing is_used a.slots unused)
    where
      unused : (i : ℕ) → is_used (get_or a.slots i None) ≡ false
      unused i = by_use (get_or a.slots i None) refl
        where
          by_use : (slot : Option (Option T)) → get_or a.slots i None ≡ slot → is_used slot ≡ false
          by_use None e = refl
          by_use (Some None) e = refl
          by_use (Some (Some x)) e =
              let h : Handle = record { index = i; generation = generation_at a i } in
              let reaches : get a h ≡ Some x = get-agree a h refl ∙ ap held e in
              absurd (omega (arith, all h (rw reaches refl)))
  used_count-le-length a (h ∷ hs) all =
      omega (
        arith,
        used-cleared_le a h,
        used_count-le-length (cleared a h) hs (λ k live. elim (cases_eq k.index h.index) [
          | inl here ↦ absurd (let nothing = cleared-here a h k here in let found = some_of (get (cleared a h) k) live in cc)
          | inr there ↦
              let live_there : IsLive a k = rw (cleared-elsewhere a h k there) at live in
              let among = all k live_there in
              omega (arith, times_there k h hs (λ e. there (sym (ap (λ x. x.index) e))))
        ]),
      )

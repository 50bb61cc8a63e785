-- Lemmas on what a contract sees of an `Arena`.
use Rattle.std.proofs.Common.{◌≡◌, ◌≢◌, ◌⊎◌, ℕ, zero, suc, ◌+◌, ◌-◌, ◌*◌, ◌<◌, ◌≤◌, Bool, true, false, cond, eqb, List, [], ◌∷◌, length, get_or, set, Option, Some, None, IfSome, IfNone, is_some, Result, Ok, Err, is_err, OnOk, count_by, sum, refl, sym, ap, ◌∙◌, inl, inr, arith}
use Rattle.std.proofs.lemmas.Bool.{cases_eq, eq-eqb, eqb-true}
use Rattle.std.proofs.lemmas.List.{get_or-set_same, get_or-set_other, length-set}
use Rattle.std.proofs.lemmas.List.Sums.{sum_by-cons, sum_by-set}
use Rattle.fx_handles.specs.declared.Handle.{Handle}
use Rattle.fx_handles.specs.declared.TheConstants.{SLOTS_MAX, LAST_GENERATION}
use Rattle.fx_handles.specs.ArenaLaws.{count-changed, get-agree, get-differ, get-others, live-agree, live-slot, some_of}
use Rattle.fx_handles.specs.Arena.{Arena, held, is_used, is_retired, generation_at, get, IsLive, IsSpent, used_count, retired_count, generation_sum, IsNew, Inserts, Removes, IsSound}

-- a fact of the value that is there, and one of the absence of a value that is there
pub if_some : {X : Type 0} (o : Option X) (x : X) (P : X → Type 0) → o ≡ Some x → P x → IfSome o P
if_some o x P e p = rw e p

pub if_none : {X : Type 0} (o : Option X) (x : X) (P : Type 0) → o ≡ Some x → IfNone o P
if_none None x P e = absurd (cc)
if_none (Some y) x P e = tt

-- what holds on success, where the call succeeded
pub ok_of : {A E : Type 0} (r : Result A E) (P : Type 0) → is_err r ≡ false → OnOk r P → P
ok_of (Ok x) P fine p = p
ok_of (Err e) P fine p = absurd (cc)

module _ {T : Type 0} where
  -- a slot in use or retired is one that the slab has
  pub filled_is : (slots : List (Option (Option T))) → count_by is_some slots ≡ count_by is_used slots + count_by is_retired slots
  filled_is [] = refl
  filled_is (None ∷ slots) = omega (arith, filled_is slots, sum_by-cons (λ o. cond (is_some o) 1 0) None slots, sum_by-cons (λ o. cond (is_used o) 1 0) None slots, sum_by-cons (λ o. cond (is_retired o) 1 0) None slots)
  filled_is (Some None ∷ slots) = omega (arith, filled_is slots, sum_by-cons (λ o. cond (is_some o) 1 0) (Some None) slots, sum_by-cons (λ o. cond (is_used o) 1 0) (Some None) slots, sum_by-cons (λ o. cond (is_retired o) 1 0) (Some None) slots)
  filled_is (Some (Some x) ∷ slots) = omega (arith, filled_is slots, sum_by-cons (λ o. cond (is_some o) 1 0) (Some (Some x)) slots, sum_by-cons (λ o. cond (is_used o) 1 0) (Some (Some x)) slots, sum_by-cons (λ o. cond (is_retired o) 1 0) (Some (Some x)) slots)

  -- each retired slot has its share of the removals
  pub retired_share : (last : ℕ) (slots : List (Option (Option T))) (generations : List ℕ) → 0 < last
      → ((k : ℕ) → get_or slots k None ≡ Some None → get_or generations k 0 ≡ last) → count_by is_retired slots * last ≤ sum generations
  retired_share last [] generations some shares = omega arith
  retired_share last (None ∷ slots) [] some shares =
      omega (arith, retired_share last slots [] some (λ k. shares (suc k)), sum_by-cons (λ o. cond (is_retired o) 1 0) None slots)
  retired_share last (Some (Some x) ∷ slots) [] some shares =
      omega (arith, retired_share last slots [] some (λ k. shares (suc k)), sum_by-cons (λ o. cond (is_retired o) 1 0) (Some (Some x)) slots)
  retired_share last (Some None ∷ slots) [] some shares = absurd (omega (arith, shares 0 refl))
  retired_share last (None ∷ slots) (g ∷ gs) some shares =
      let e : count_by is_retired (None ∷ slots) ≡ count_by is_retired slots = sum_by-cons (λ o. cond (is_retired o) 1 0) None slots ∙ omega arith in
      rw e (omega (arith, retired_share last slots gs some (λ k. shares (suc k)), sum_by-cons (λ x. x) g gs))
  retired_share last (Some (Some x) ∷ slots) (g ∷ gs) some shares =
      let e : count_by is_retired (Some (Some x) ∷ slots) ≡ count_by is_retired slots = sum_by-cons (λ o. cond (is_retired o) 1 0) (Some (Some x)) slots ∙ omega arith in
      rw e (omega (arith, retired_share last slots gs some (λ k. shares (suc k)), sum_by-cons (λ x. x) g gs))
  retired_share last (Some None ∷ slots) (g ∷ gs) some shares =
      let e : count_by is_retired (Some None ∷ slots) ≡ suc (count_by is_retired slots) = sum_by-cons (λ o. cond (is_retired o) 1 0) (Some None) slots ∙ omega arith in
      let here : g ≡ last = shares 0 refl in
      let rest = retired_share last slots gs some (λ k. shares (suc k)) in
      rw e (omega (arith, sum_by-cons (λ x. x) g gs))

  pub inserts : (old new : Arena T) (h : Handle) (value : T)
      → get_or old.slots h.index None ≡ None
      → get_or new.slots h.index None ≡ Some (Some value)
      → ((i : ℕ) → i ≢ h.index → get_or new.slots i None ≡ get_or old.slots i None)
      → ((i : ℕ) → generation_at new i ≡ generation_at old i)
      → generation_sum new ≡ generation_sum old
      → h.generation ≡ generation_at new h.index
      → Inserts old new h value
  inserts old new h value vacant stored others generations total agree =
      let was = agree ∙ generations h.index in
      let here : cond {A = ℕ} (is_used (get_or new.slots h.index None)) 1 0 ≡ 1 = ap (λ o. cond (is_used o) 1 0) stored in
      let before : cond {A = ℕ} (is_used (get_or old.slots h.index None)) 1 0 ≡ 0 = ap (λ o. cond (is_used o) 1 0) vacant in
      let used : used_count new ≡ used_count old + 1 = omega (arith, count-changed is_used refl old.slots new.slots h.index others) in
      record {
        was_absent = get-agree old h was ∙ ap held vacant;
        was_not_spent = was;
        found = get-agree new h agree ∙ ap held stored;
        others = get-others old new h was others (λ i _. generations i) (λ g apart e. absurd (apart (e ∙ sym agree)));
        generations = generations;
        spent = λ k spent. rw (generations k.index) spent;
        used = used;
        retired =
            let here : cond {A = ℕ} (is_retired (get_or new.slots h.index None)) 1 0 ≡ 0 = ap (λ o. cond (is_retired o) 1 0) stored in
            let before : cond {A = ℕ} (is_retired (get_or old.slots h.index None)) 1 0 ≡ 0 = ap (λ o. cond (is_retired o) 1 0) vacant in
            omega (arith, count-changed is_retired refl old.slots new.slots h.index others);
        generation_sum = total;
        inserted = omega arith;
      }

  -- what a slot becomes when its value is removed
  abbrev pub emptied : Bool → Option (Option T)
  emptied retires = cond retires (Some None) None

  -- an emptied slot has no value, and is retired where it was to be
  pub held-emptied : (slot : Option (Option T)) (retires : Bool) → slot ≡ emptied retires → held slot ≡ None
  held-emptied slot true e = ap held e
  held-emptied slot false e = ap held e

  pub used-emptied : (slot : Option (Option T)) (retires : Bool) → slot ≡ emptied retires → is_used slot ≡ false
  used-emptied slot true e = ap is_used e
  used-emptied slot false e = ap is_used e

  pub retired-emptied : (slot : Option (Option T)) (retires : Bool) → slot ≡ emptied retires → is_retired slot ≡ retires
  retired-emptied slot true e = ap is_retired e
  retired-emptied slot false e = ap is_retired e

  pub removes : (old new : Arena T) (h : Handle) (value : T) (retires : Bool)
      → get old h ≡ Some value
      → get_or new.slots h.index None ≡ emptied retires
      → ((i : ℕ) → i ≢ h.index → get_or new.slots i None ≡ get_or old.slots i None)
      → new.generations ≡ set old.generations h.index (h.generation + 1)
      → h.index < length old.generations
      → retires ≡ eqb (h.generation + 1) LAST_GENERATION
      → Removes old new h value
  removes old new h value retires live taken others generations within last =
      let agree = live-agree old h value live in
      let slot = live-slot old h value live in
      let raised : generation_at new h.index ≡ h.generation + 1 = ap (λ xs. get_or xs h.index 0) generations ∙ get_or-set_same old.generations h.index (h.generation + 1) 0 within in
      let nothing : held (get_or new.slots h.index None) ≡ None = held-emptied _ retires taken in
      let same : (i : ℕ) → i ≢ h.index → generation_at new i ≡ generation_at old i = λ i differs. ap (λ xs. get_or xs i 0) generations ∙ get_or-set_other old.generations h.index i (h.generation + 1) 0 differs in
      let here : cond {A = ℕ} (is_used (get_or new.slots h.index None)) 1 0 ≡ 0 = ap (λ b. cond {A = ℕ} b 1 0) (used-emptied _ retires taken) in
      let before : cond {A = ℕ} (is_used (get_or old.slots h.index None)) 1 0 ≡ 1 = ap (λ o. cond (is_used o) 1 0) slot in
      let used : used_count new + 1 ≡ used_count old = omega (arith, count-changed is_used refl old.slots new.slots h.index others) in
      let sums = ap sum generations in
      let total : generation_sum new ≡ generation_sum old + 1 = omega (arith, sum_by-set (λ x. x) old.generations h.index (h.generation + 1) 0 within) in
      record {
        was = live;
        absent = get-differ new h (λ e. absurd (omega arith));
        others = get-others old new h agree others same (λ g apart e. nothing);
        raised = raised;
        generations = same;
        now_spent = omega arith;
        spent = λ k spent. stays k spent (cases_eq k.index h.index);
        used = used;
        retired =
            let here : cond {A = ℕ} (is_retired (get_or new.slots h.index None)) 1 0 ≡ cond {A = ℕ} (eqb (h.generation + 1) LAST_GENERATION) 1 0 = ap (λ b. cond {A = ℕ} b 1 0) (retired-emptied _ retires taken ∙ last) in
            let before : cond {A = ℕ} (is_retired (get_or old.slots h.index None)) 1 0 ≡ 0 = ap (λ o. cond (is_retired o) 1 0) slot in
            omega (arith, count-changed is_retired refl old.slots new.slots h.index others);
        generation_sum = total;
        inserted = omega arith;
      }
    where
      stays : (k : Handle) → IsSpent old k → (k.index ≡ h.index) ⊎ (k.index ≡ h.index → ⊥) → IsSpent new k
      stays k spent (inl here) =
          let agree = live-agree old h value live in
          let raised : generation_at new h.index ≡ h.generation + 1 = ap (λ xs. get_or xs h.index 0) generations ∙ get_or-set_same old.generations h.index (h.generation + 1) 0 within in
          let before : k.generation < h.generation = rw (agree ∙ ap (generation_at old) (sym here)) spent in
          rw (ap (generation_at new) here ∙ raised) (omega arith)
      stays k spent (inr there) = rw (ap (λ xs. get_or xs k.index 0) generations ∙ get_or-set_other old.generations h.index k.index (h.generation + 1) 0 there) spent

  -- the fields stay sound through an insert, a write and a removal
  pub sound-stored : (slots slots' : List (Option (Option T))) (generations generations' : List ℕ) (used used' index : ℕ) (value : T)
      → IsSound slots generations used
      → (get_or slots index None ≡ Some None → ⊥)
      → get_or slots' index None ≡ Some (Some value)
      → ((i : ℕ) → i ≢ index → get_or slots' i None ≡ get_or slots i None)
      → ((i : ℕ) → get_or generations' i 0 ≡ get_or generations i 0)
      → length generations ≤ length generations'
      → index < length generations'
      → used' ≡ count_by is_used slots'
      → count_by is_used slots' + count_by is_retired slots' ≤ SLOTS_MAX
      → IsSound slots' generations' used'
  sound-stored slots slots' generations generations' used used' index value sound unretired stored others same longer within counted few =
      record {
        retired = λ i e. elim (cases_eq i index) [
          | inl here ↦ absurd (let now : get_or slots' i None ≡ Some (Some value) = ap (λ i. get_or slots' i None) here ∙ stored in cc)
          | inr there ↦ same i ∙ sound.retired i (sym (others i there) ∙ e)
        ];
        at_last = λ i e. elim (cases_eq i index) [
          | inl here ↦ absurd (unretired (ap (λ i. get_or slots i None) (sym here) ∙ sound.at_last i (sym (same i) ∙ e)))
          | inr there ↦ others i there ∙ sound.at_last i (sym (same i) ∙ e)
        ];
        covered = λ i some. elim (cases_eq i index) [
          | inl here ↦ omega arith
          | inr there ↦ let before : i < length generations = sound.covered i (rw (others i there) at some) in omega arith
        ];
        counted = counted;
        few = few;
      }

  pub sound-emptied : (slots slots' : List (Option (Option T))) (generations : List ℕ) (used used' index generation : ℕ) (retires : Bool)
      → IsSound slots generations used
      → get_or slots' index None ≡ emptied retires
      → ((i : ℕ) → i ≢ index → get_or slots' i None ≡ get_or slots i None)
      → index < length generations
      → retires ≡ eqb generation LAST_GENERATION
      → used' ≡ count_by is_used slots'
      → count_by is_used slots' + count_by is_retired slots' ≤ SLOTS_MAX
      → IsSound slots' (set generations index generation) used'
  sound-emptied slots slots' generations used used' index generation retires sound taken others within last counted few =
      record {
        retired = λ i e. elim (cases_eq i index) [
          | inl here ↦ ap (λ i. get_or (set generations index generation) i 0) here ∙ get_or-set_same generations index generation 0 within ∙ retired (ap (λ i. get_or slots' i None) (sym here) ∙ e)
          | inr there ↦ get_or-set_other generations index i generation 0 there ∙ sound.retired i (sym (others i there) ∙ e)
        ];
        at_last = λ i e. elim (cases_eq i index) [
          | inl here ↦ ap (λ i. get_or slots' i None) here ∙ at_last (sym (get_or-set_same generations index generation 0 within) ∙ ap (λ i. get_or (set generations index generation) i 0) (sym here) ∙ e)
          | inr there ↦ others i there ∙ sound.at_last i (sym (get_or-set_other generations index i generation 0 there) ∙ e)
        ];
        covered = λ i some. rw length-set (elim (cases_eq i index) [
          | inl here ↦ omega arith
          | inr there ↦ sound.covered i (rw (others i there) at some)
        ]);
        counted = counted;
        few = few;
      }
    where
      retired : get_or slots' index None ≡ Some None → generation ≡ LAST_GENERATION
      retired e = eqb-true generation LAST_GENERATION (sym last ∙ sym (retired-emptied _ retires taken) ∙ ap is_retired e)

      at_last : generation ≡ LAST_GENERATION → get_or slots' index None ≡ Some None
      at_last e = taken ∙ ap emptied (last ∙ eq-eqb generation LAST_GENERATION e)

  -- a live handle's slot stands in the list of generations, whose end is past it
  pub live-within : (a : Arena T) (used : ℕ) (h : Handle) → IsSound a.slots a.generations used → IsLive a h → h.index < length a.generations
  live-within a used h sound live =
      let found = some_of (get a h) live in
      sound.covered h.index (rw (live-slot a h found.0 found.1) refl)

  -- a live handle stands for one of the values
  pub live-used : (a : Arena T) (h : Handle) → IsLive a h → 1 ≤ used_count a
  live-used a h live =
      let found = some_of (get a h) live in
      let slot = live-slot a h found.0 found.1 in
      let here : cond {A = ℕ} (is_used (get_or a.slots h.index None)) 1 0 ≡ 1 = ap (λ o. cond (is_used o) 1 0) slot in
      let without = set_none a.slots h.index in
      omega (arith, count-changed is_used refl a.slots (set a.slots h.index None) h.index (λ i differs. get_or-set_other a.slots h.index i None None differs))
    where
      set_none : (slots : List (Option (Option T))) (i : ℕ) → cond {A = ℕ} (is_used (get_or (set slots i None) i None)) 1 0 ≡ 0
      set_none [] i = refl
      set_none (x ∷ xs) zero = refl
      set_none (x ∷ xs) (suc i) = set_none xs i

  -- a live handle's generation is not the last one
  pub live-not_last : (a : Arena T) (used : ℕ) (h : Handle) → IsSound a.slots a.generations used → IsLive a h → h.generation ≢ LAST_GENERATION
  live-not_last a used h sound live = λ last.
      let found = some_of (get a h) live in
      let slot = live-slot a h found.0 found.1 in
      let retired = sound.at_last h.index (sym (live-agree a h found.0 found.1) ∙ last) in
      absurd (cc)

  -- an arena without slots is new
  pub new_arena : (a : Arena T) → a.slots ≡ [] → a.generations ≡ [] → IsNew a
  new_arena a slots generations =
      record {
        absent = λ h. let slot : get_or a.slots h.index None ≡ None = ap (λ xs. get_or xs h.index None) slots in nothing_at h slot (cases_eq h.generation (generation_at a h.index));
        generations = λ i. ap (λ xs. get_or xs i 0) generations;
        used = ap (count_by is_used) slots;
        retired = ap (count_by is_retired) slots;
        generation_sum = ap sum generations;
        inserted = let used = ap (count_by is_used) slots in let total = ap sum generations in omega arith;
        slots = ap length generations;
      }
    where
      nothing_at : (h : Handle) → get_or a.slots h.index None ≡ None → (h.generation ≡ generation_at a h.index) ⊎ (h.generation ≡ generation_at a h.index → ⊥) → get a h ≡ None
      nothing_at h slot (inl agree) = get-agree a h agree ∙ ap held slot
      nothing_at h slot (inr differ) = get-differ a h differ

  -- the fields stay sound through an insert
  pub sound-inserted : (old new : Arena T) (h : Handle) (value : T) (used : ℕ)
      → IsSound old.slots old.generations used
      → get_or old.slots h.index None ≡ None
      → get_or new.slots h.index None ≡ Some (Some value)
      → ((i : ℕ) → i ≢ h.index → get_or new.slots i None ≡ get_or old.slots i None)
      → ((i : ℕ) → generation_at new i ≡ generation_at old i)
      → length old.generations ≤ length new.generations
      → h.index < length new.generations
      → Inserts old new h value
      → used_count old + retired_count old < SLOTS_MAX
      → IsSound new.slots new.generations (used + 1)
  sound-inserted old new h value used sound vacant stored others generations longer within inserted few =
      sound-stored old.slots new.slots old.generations new.generations used (used + 1) h.index value sound
      (λ e. absurd (let both : None ≡ Some None = sym vacant ∙ e in cc))
      stored others generations longer within
      (omega (arith, inserted.used, sound.counted))
      (omega (arith, inserted.used, inserted.retired))

  -- and through a removal
  pub sound-removed : (old new : Arena T) (h : Handle) (value : T) (retires : Bool) (used : ℕ)
      → IsSound old.slots old.generations used
      → get_or new.slots h.index None ≡ emptied retires
      → ((i : ℕ) → i ≢ h.index → get_or new.slots i None ≡ get_or old.slots i None)
      → new.generations ≡ set old.generations h.index (h.generation + 1)
      → h.index < length old.generations
      → retires ≡ eqb (h.generation + 1) LAST_GENERATION
      → Removes old new h value
      → IsSound new.slots (set old.generations h.index (h.generation + 1)) (used - 1)
  sound-removed old new h value retires used sound taken others generations within last removed =
      sound-emptied old.slots new.slots old.generations used (used - 1) h.index (h.generation + 1) retires sound taken others within last
      (omega (arith, removed.used, sound.counted))
      (one_more (eqb (h.generation + 1) LAST_GENERATION) removed.used removed.retired sound.few)
    where
      one_more : (b : Bool) → used_count new + 1 ≡ used_count old → retired_count new ≡ retired_count old + cond b 1 0 → used_count old + retired_count old ≤ SLOTS_MAX → used_count new + retired_count new ≤ SLOTS_MAX
      one_more true u r few = omega arith
      one_more false u r few = omega arith

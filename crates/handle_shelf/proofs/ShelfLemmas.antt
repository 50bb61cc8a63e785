-- Lemmas on what a shelf keeps after a slot was written.
use Rattle.std.proofs.Common.{◌≡◌, ◌≢◌, ◌⊎◌, ℕ, ◌+◌, ◌<◌, ◌≤◌, Bool, true, false, cond, eqb, List, [], length, get_or, set, Option, Some, None, IsSome, IfSome, is_some, refl, sym, ap, ◌∙◌, subst, inl, inr, arith}
use Rattle.std.proofs.lemmas.Bool.{cases_eq, cases_lt, eq-eqb, ne_eqb}
use Rattle.std.proofs.lemmas.List.{get_or-set_same, get_or-set_other, get_or_past}
use Rattle.fx_handles.specs.declared.Handle.{Handle}
use Rattle.fx_handles.specs.Arena.{Arena, IsLive}
use Rattle.fx_handles.specs.HandleLaws.{handles_equal, same-eq, same-ne, cases_same, same_self}
use Rattle.fx_handles.specs.ArenaLaws.{some_of, live-same_slot}
use Rattle.handle_shelf.specs.Shelf.{Shelf, reached, kept_at, with_kept, without_kept}

module _ {V : Type 0} where
  abbrev at : List (Option (ℕ × V)) → Handle → Option V
  at slots k = reached k.generation (get_or slots k.index None)

  pub kept_is : (slots : List (Option (ℕ × V))) (k : Handle) → kept_at (record { slots = slots }) k ≡ at slots k
  unfolding kept_at
  kept_is slots k = refl

  reached-same : (g : ℕ) (v : V) → reached g (Some (g, v)) ≡ Some v
  reached-same g v = ap (λ b. cond {A = Option V} b (Some v) None) (eq-eqb g g refl)

  reached-other : (g e : ℕ) (v : V) → e ≢ g → reached g (Some (e, v)) ≡ None
  reached-other g e v ne = ap (λ b. cond {A = Option V} b (Some v) None) (ne_eqb e g ne)

  set-here : (slots : List (Option (ℕ × V))) (i : ℕ) (o : Option (ℕ × V)) (k : Handle) → i < length slots → k.index ≡ i → at (set slots i o) k ≡ reached k.generation o
  set-here slots i o k within here = ap (λ j. reached k.generation (get_or (set slots i o) j None)) here ∙ ap (reached k.generation) (get_or-set_same slots i o None within)

  set-there : (slots : List (Option (ℕ × V))) (i : ℕ) (o : Option (ℕ × V)) (k : Handle) → k.index ≢ i → at (set slots i o) k ≡ at slots k
  set-there slots i o k there = ap (reached k.generation) (get_or-set_other slots i k.index o None there)

  -- nothing is kept in no slot
  pub empty_is : (slots : List (Option (ℕ × V))) → slots ≡ [] → (k : Handle) → kept_at (record { slots = slots }) k ≡ None
  empty_is slots is k = kept_is slots k ∙ ap (λ xs. at xs k) is

  -- where something is reached there is a slot
  pub within_slots : (slots : List (Option (ℕ × V))) (h : Handle) → IsSome (at slots h) → h.index < length slots
  within_slots slots h some = elim (cases_lt h.index (length slots)) [
    | inl lt ↦ lt
    | inr past ↦ absurd (let nothing : at slots h ≡ None = ap (reached h.generation) (get_or_past slots h.index None past) in let found = some_of (at slots h) some in cc)
  ]

  -- what a lookup says
  pub is_there : (o p : Option V) → o ≡ p → (r : Bool) → r ≡ is_some o → r ≡ true → IsSome p
  is_there None p e r is yes_there = absurd (let both = sym is ∙ yes_there in cc)
  is_there (Some v) p e r is yes_there = rw (sym e) refl

  pub is_absent : (o p : Option V) → o ≡ p → (r : Bool) → r ≡ is_some o → r ≡ false → p ≡ None
  is_absent None p e r is none_there = sym e
  is_absent (Some v) p e r is none_there = absurd (let both = sym is ∙ none_there in cc)

  -- what a slot tells of its handles
  pub handle_kept : (slots : List (Option (ℕ × V))) (i : ℕ) (o : Option Handle) → IfSome o (λ h. h.index ≡ i) → IfSome o (λ h. IsSome (reached h.generation (get_or slots i None)))
      → IfSome o (λ h. IsSome (kept_at (record { slots = slots }) h))
  handle_kept slots i None here kept = tt
  handle_kept slots i (Some h) here kept = subst IsSome (sym (kept_is slots h ∙ ap (λ j. reached h.generation (get_or slots j None)) here)) kept

  pub others_absent : (slots : List (Option (ℕ × V))) (i : ℕ) (o : Option Handle)
      → ((k : Handle) → k.index ≡ i → (o ≡ Some k → ⊥) → reached k.generation (get_or slots i None) ≡ None)
      → (k : Handle) → k.index ≡ i → (o ≡ Some k → ⊥) → kept_at (record { slots = slots }) k ≡ None
  others_absent slots i o absent k here other = kept_is slots k ∙ ap (λ j. reached k.generation (get_or slots j None)) here ∙ absent k here other

  pub past_slots : (slots : List (Option (ℕ × V))) (k : Handle) → length slots ≤ k.index → kept_at (record { slots = slots }) k ≡ None
  past_slots slots k past = kept_is slots k ∙ ap (reached k.generation) (get_or_past slots k.index None past)

  -- a value is put for h
  pub put_is : (old slots new : List (Option (ℕ × V))) (h : Handle) (v : V) → ((i : ℕ) → get_or slots i None ≡ get_or old i None) → h.index < length slots → new ≡ set slots h.index (Some (h.generation, v))
      → (k : Handle) → kept_at (record { slots = new }) k ≡ with_kept h v (kept_at (record { slots = old })) k
  put_is old slots new h v same_slots within is k =
      kept_is new k ∙ ap (λ xs. at xs k) is ∙ elim (cases_same k h) [
        | inl e ↦
            ap (at (set slots h.index (Some (h.generation, v)))) e ∙ set-here slots h.index (Some (h.generation, v)) h within refl ∙ reached-same h.generation v
            ∙ sym (ap (λ b. cond {A = Option V} b (Some v) (cond (eqb k.index h.index) None (kept_at (record { slots = old }) k))) (same-eq k h e))
        | inr ne ↦ elim (cases_eq k.index h.index) [
          | inl here ↦
              set-here slots h.index (Some (h.generation, v)) k within here ∙ reached-other k.generation h.generation v (λ g. ne (handles_equal h k here (sym g)))
              ∙ sym (ap (λ b. cond {A = Option V} b (Some v) (cond (eqb k.index h.index) None (kept_at (record { slots = old }) k))) (same-ne k h ne)
              ∙ ap (λ b. cond {A = Option V} b None (kept_at (record { slots = old }) k)) (eq-eqb k.index h.index here))
          | inr there ↦
              set-there slots h.index (Some (h.generation, v)) k there ∙ ap (reached k.generation) (same_slots k.index) ∙ sym (kept_is old k)
              ∙ sym (ap (λ b. cond {A = Option V} b (Some v) (cond (eqb k.index h.index) None (kept_at (record { slots = old }) k))) (same-ne k h ne)
              ∙ ap (λ b. cond {A = Option V} b None (kept_at (record { slots = old }) k)) (ne_eqb k.index h.index there))
        ]
      ]

  -- nothing is changed where the slots are the same
  pub same_kept : (old new : List (Option (ℕ × V))) → ((i : ℕ) → get_or new i None ≡ get_or old i None) → (k : Handle) → kept_at (record { slots = new }) k ≡ kept_at (record { slots = old }) k
  same_kept old new same_slots k = kept_is new k ∙ ap (reached k.generation) (same_slots k.index) ∙ sym (kept_is old k)

  -- what is kept for h is taken away
  pub removed_is : (old new : List (Option (ℕ × V))) (h : Handle) → IsSome (at old h) → new ≡ set old h.index None
      → (k : Handle) → kept_at (record { slots = new }) k ≡ without_kept h (kept_at (record { slots = old })) k
  removed_is old new h some is k =
      kept_is new k ∙ ap (λ xs. at xs k) is ∙ elim (cases_same k h) [
        | inl e ↦
            ap (at (set old h.index None)) e ∙ set-here old h.index None h within refl
            ∙ sym (ap (λ b. cond {A = Option V} b None (kept_at (record { slots = old }) k)) (same-eq k h e))
        | inr ne ↦ other ne (cases_eq k.index h.index) ∙ sym (ap (λ b. cond {A = Option V} b None (kept_at (record { slots = old }) k)) (same-ne k h ne))
      ]
    where
      within : h.index < length old
      within = within_slots old h some

      nothing : (o : Option (ℕ × V)) → IsSome (reached h.generation o) → k.generation ≢ h.generation → reached k.generation o ≡ None
      nothing None e apart = refl
      nothing (Some p) e apart = elim (cases_eq p.0 h.generation) [
        | inl mine ↦ reached-other k.generation p.0 p.1 (λ g. apart (sym g ∙ mine))
        | inr other_one ↦ absurd (let none_here = reached-other h.generation p.0 p.1 other_one in let found = some_of (reached h.generation (Some p)) e in cc)
      ]

      other : k ≢ h → (k.index ≡ h.index) ⊎ (k.index ≡ h.index → ⊥) → at (set old h.index None) k ≡ kept_at (record { slots = old }) k
      other ne (inl here) =
          set-here old h.index None k within here ∙ sym (kept_is old k ∙ ap (λ i. reached k.generation (get_or old i None)) here ∙ nothing (get_or old h.index None) some (λ g. ne (handles_equal h k here g)))
      other ne (inr there) = set-there old h.index None k there ∙ sym (kept_is old k)

  -- nothing was kept for h
  pub nothing_removed : (old : List (Option (ℕ × V))) (h : Handle) → at old h ≡ None
      → (k : Handle) → kept_at (record { slots = old }) k ≡ without_kept h (kept_at (record { slots = old })) k
  nothing_removed old h none_there k = elim (cases_same k h) [
    | inl e ↦ ap (kept_at (record { slots = old })) e ∙ kept_is old h ∙ none_there ∙ sym (ap (λ b. cond {A = Option V} b None (kept_at (record { slots = old }) k)) (same-eq k h e))
    | inr ne ↦ sym (ap (λ b. cond {A = Option V} b None (kept_at (record { slots = old }) k)) (same-ne k h ne))
  ]

  -- the slots below i have been looked at
  pub record Retaining {T : Type 0} (a : Arena T) (i : ℕ) (old new : List (Option (ℕ × V))) : Type 0 where
    pub len : length new ≡ length old
    pub live : (k : Handle) → IsLive a k → at new k ≡ at old k
    pub dead : (k : Handle) → k.index < i → (IsLive a k → ⊥) → at new k ≡ None

  pub retaining-start : {T : Type 0} (a : Arena T) (slots : List (Option (ℕ × V))) → Retaining a 0 slots slots
  retaining-start a slots = record { len = refl; live = λ k live. refl; dead = λ k below gone. absurd (omega arith) }

  pub retaining-kept : {T : Type 0} (a : Arena T) (i : ℕ) (old new : List (Option (ℕ × V))) → Retaining a i old new
      → ((k : Handle) → k.index ≡ i → (IsLive a k → ⊥) → reached k.generation (get_or new i None) ≡ None) → Retaining a (i + 1) old new
  retaining-kept a i old new so_far fresh =
      record {
        len = so_far.len;
        live = so_far.live;
        dead = λ k below gone. elim (cases_eq k.index i) [
          | inl here ↦ ap (λ j. reached k.generation (get_or new j None)) here ∙ fresh k here gone
          | inr other ↦ so_far.dead k (omega arith) gone
        ];
      }

  pub retaining-cleared : {T : Type 0} (a : Arena T) (i : ℕ) (old new after : List (Option (ℕ × V))) → Retaining a i old new → i < length new
      → ((k : Handle) → k.index ≡ i → IsLive a k → reached k.generation (get_or new i None) ≡ None) → after ≡ set new i None → length after ≡ length new → Retaining a (i + 1) old after
  retaining-cleared a i old new after so_far within stale is len =
      record {
        len = len ∙ so_far.len;
        live = λ k live. ap (λ xs. at xs k) is ∙ elim (cases_eq k.index i) [
          | inl here ↦ set-here new i None k within here ∙ sym (ap (λ j. reached k.generation (get_or new j None)) here ∙ stale k here live) ∙ so_far.live k live
          | inr other ↦ set-there new i None k other ∙ so_far.live k live
        ];
        dead = λ k below gone. ap (λ xs. at xs k) is ∙ elim (cases_eq k.index i) [
          | inl here ↦ set-here new i None k within here
          | inr other ↦ set-there new i None k other ∙ so_far.dead k (omega arith) gone
        ];
      }

  pub retaining-live : {T : Type 0} (a : Arena T) (i : ℕ) (old new : List (Option (ℕ × V))) → Retaining a i old new → (k : Handle) → IsLive a k → kept_at (record { slots = new }) k ≡ kept_at (record { slots = old }) k
  retaining-live a i old new so_far k live = kept_is new k ∙ so_far.live k live ∙ sym (kept_is old k)

  pub retaining-dead : {T : Type 0} (a : Arena T) (i : ℕ) (old new : List (Option (ℕ × V))) → Retaining a i old new → length old ≤ i → (k : Handle) → (IsLive a k → ⊥) → kept_at (record { slots = new }) k ≡ None
  retaining-dead a i old new so_far all k gone = kept_is new k ∙ elim (cases_lt k.index i) [
    | inl below ↦ so_far.dead k below gone
    | inr past ↦ ap (reached k.generation) (get_or_past new k.index None (omega (arith, so_far.len)))
  ]

  -- the laws
  pub put_others : {T : Type 0} (a : Arena T) (s t : Shelf V) (h k : Handle) (v : V) → IsLive a h → IsLive a k → k ≢ h → kept_at t k ≡ with_kept h v (kept_at s) k → kept_at t k ≡ kept_at s k
  put_others a s t h k v live_h live_k ne is =
      is ∙ ap (λ b. cond {A = Option V} b (Some v) (cond (eqb k.index h.index) None (kept_at s k))) (same-ne k h ne)
      ∙ ap (λ b. cond {A = Option V} b None (kept_at s k)) (ne_eqb k.index h.index (λ i. ne (live-same_slot a h k live_h live_k i)))

  pub put_own : (s t : Shelf V) (h : Handle) (v : V) → kept_at t h ≡ with_kept h v (kept_at s) h → kept_at t h ≡ Some v
  put_own s t h v is = is ∙ ap (λ b. cond {A = Option V} b (Some v) (cond (eqb h.index h.index) None (kept_at s h))) (same_self h)

-- What a contract sees of an `Arena`: which handles are live and what they reach, which are spent, and
-- how many slots are in use, retired, and removed from. No caller has to speak of slots.
use Rattle.std.specs.Prelude.{◌≡◌, ◌≢◌, ◌==◌, ℕ, ◌+◌, ◌<◌, ◌≤◌, Bool, true, false, if◌then◌else◌, List, length, Option, Some, None, IsSome, count_by, sum, slice_index, slice_index_or, slice_set, refl}
use Rattle.std.specs.Coded.{Coded, code_by, coded×, coded_ℕ, coded_list, coded_option}
use Rattle.fx_handles.specs.declared.Handle.{Handle}
use Rattle.fx_handles.specs.declared.TheConstants.{SLOTS_MAX, LAST_GENERATION}

-- what each slot holds (`None` where it is vacant, `Some None` once it is retired), and its generation,
-- which is 0 past the end of the list
pub record Arena (T : Type 0) : Type 0 where
  pub slots : List (Option (Option T))
  pub generations : List ℕ

-- an arena is stored as the pair of its fields
abbrev pub arena_code : {T : Type 0} → Coded T → Coded (Arena T)
arena_code {T} code =
    code_by
    (List (Option (Option T)) × List ℕ)
    (coded× (coded_list (coded_option (coded_option code))) (coded_list coded_ℕ))
    (λ a. (a.slots, a.generations))
    (λ p. record { slots = p.0; generations = p.1 })
    (λ _. refl)

module _ {T : Type 0} where
  -- the value in a slot
  abbrev pub held : Option (Option T) → Option T
  held None = None
  held (Some value) = value

  -- the slot has a value
  abbrev pub is_used : Option (Option T) → Bool
  is_used None = false
  is_used (Some None) = false
  is_used (Some (Some value)) = true

  -- the slot is never given out again
  abbrev pub is_retired : Option (Option T) → Bool
  is_retired None = false
  is_retired (Some None) = true
  is_retired (Some (Some value)) = false

  -- how often a value was removed from this slot
  abbrev pub generation_at : Arena T → ℕ → ℕ
  generation_at a index = slice_index a.generations index

  -- the value that the handle reaches: that of its slot, where the generations agree
  unfoldable pub get : Arena T → Handle → Option T
  get a h = if h.generation == generation_at a h.index then held (slice_index_or a.slots h.index None) else None

  -- the handle reaches a value
  abbrev pub IsLive : Arena T → Handle → Type 0
  IsLive a h = IsSome (get a h)

  -- the handle's value was removed
  abbrev pub IsSpent : Arena T → Handle → Type 0
  IsSpent a h = h.generation < generation_at a h.index

  -- how many slots have a value
  abbrev pub used_count : Arena T → ℕ
  used_count a = count_by is_used a.slots

  -- how many slots are never given out again
  abbrev pub retired_count : Arena T → ℕ
  retired_count a = count_by is_retired a.slots

  -- the sum of all generations, which is how many values were removed so far
  abbrev pub generation_sum : Arena T → ℕ
  generation_sum a = sum a.generations

  -- how many slots have a generation: each that was ever given out has one
  abbrev pub slot_count : Arena T → ℕ
  slot_count a = length a.generations

  -- how many values were inserted so far: those that are there, and those that were removed
  abbrev pub inserted_count : Arena T → ℕ
  inserted_count a = used_count a + generation_sum a

  -- the arena after a write through `get_mut`
  abbrev pub with_value : Arena T → Handle → T → Arena T
  with_value a h value = record a { slots = slice_set a.slots h.index (Some (Some value)) }

  -- no handle is live or spent, and nothing was counted yet
  pub record IsNew (a : Arena T) : Type 0 where
    pub absent : (h : Handle) → get a h ≡ None
    pub generations : (index : ℕ) → generation_at a index ≡ 0
    pub used : used_count a ≡ 0
    pub retired : retired_count a ≡ 0
    pub generation_sum : generation_sum a ≡ 0
    pub inserted : inserted_count a ≡ 0
    pub slots : slot_count a ≡ 0

  -- the handle was neither live nor spent and now has the value, and no other handle changes
  pub record Inserts (old new : Arena T) (h : Handle) (value : T) : Type 0 where
    pub was_absent : get old h ≡ None
    pub was_not_spent : h.generation ≡ generation_at old h.index
    pub found : get new h ≡ Some value
    pub others : (k : Handle) → k ≢ h → get new k ≡ get old k
    pub generations : (index : ℕ) → generation_at new index ≡ generation_at old index
    pub spent : (k : Handle) → IsSpent old k → IsSpent new k
    pub used : used_count new ≡ used_count old + 1
    pub retired : retired_count new ≡ retired_count old
    pub generation_sum : generation_sum new ≡ generation_sum old
    pub inserted : inserted_count new ≡ inserted_count old + 1

  -- the handle had the value and is now spent, its slot is retired where it has reached the last
  -- generation, and no other handle changes
  pub record Removes (old new : Arena T) (h : Handle) (value : T) : Type 0 where
    pub was : get old h ≡ Some value
    pub absent : get new h ≡ None
    pub others : (k : Handle) → k ≢ h → get new k ≡ get old k
    pub raised : generation_at new h.index ≡ h.generation + 1
    pub generations : (index : ℕ) → index ≢ h.index → generation_at new index ≡ generation_at old index
    pub now_spent : IsSpent new h
    pub spent : (k : Handle) → IsSpent old k → IsSpent new k
    pub used : used_count new + 1 ≡ used_count old
    pub retired : retired_count new ≡ retired_count old + (if h.generation + 1 == LAST_GENERATION then 1 else 0)
    pub generation_sum : generation_sum new ≡ generation_sum old + 1
    pub inserted : inserted_count new ≡ inserted_count old

  -- the live handle now has this value, and nothing else changes
  pub record WritesIn (old new : Arena T) (h : Handle) (value : T) : Type 0 where
    pub found : get new h ≡ Some value
    pub others : (k : Handle) → k ≢ h → get new k ≡ get old k
    pub generations : (index : ℕ) → generation_at new index ≡ generation_at old index
    pub spent : (k : Handle) → IsSpent old k → IsSpent new k
    pub used : used_count new ≡ used_count old
    pub retired : retired_count new ≡ retired_count old
    pub generation_sum : generation_sum new ≡ generation_sum old
    pub inserted : inserted_count new ≡ inserted_count old

  -- what the fields of every arena keep
  pub record IsSound (slots : List (Option (Option T))) (generations : List ℕ) (used : ℕ) : Type 0 where
    -- a slot is retired exactly at the last generation
    pub retired : (index : ℕ) → slice_index_or slots index None ≡ Some None → slice_index generations index ≡ LAST_GENERATION
    pub at_last : (index : ℕ) → slice_index generations index ≡ LAST_GENERATION → slice_index_or slots index None ≡ Some None
    -- each slot that was given out has its generation in the list
    pub covered : (index : ℕ) → IsSome (slice_index_or slots index None) → index < length generations
    pub counted : used ≡ count_by is_used slots
    pub few : count_by is_used slots + count_by is_retired slots ≤ SLOTS_MAX

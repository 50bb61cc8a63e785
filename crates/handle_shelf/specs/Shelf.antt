-- What a contract sees of a `Shelf`: which value it keeps for a handle.
use Rattle.std.specs.Prelude.{◌==◌, ℕ, List, Option, Some, None, slice_index_or, if◌then◌else◌, refl}
use Rattle.std.specs.Coded.{Coded, code_by, coded×, coded_ℕ, coded_list, coded_option}
use Rattle.fx_handles.specs.declared.Handle.{Handle}
use Rattle.fx_handles.specs.Handle.{same}

-- for each slot the generation of the handle for which a value is kept there, and the value
pub record Shelf (V : Type 0) : Type 0 where
  pub slots : List (Option (ℕ × V))

-- a shelf is stored as its list
abbrev pub shelf_code : {V : Type 0} → Coded V → Coded (Shelf V)
shelf_code {V} code =
    code_by
    (List (Option (ℕ × V)))
    (coded_list (coded_option (coded× coded_ℕ code)))
    (λ s. s.slots)
    (λ xs. record { slots = xs })
    (λ _. refl)

module _ {V : Type 0} where
  -- what a slot has for a handle of this generation
  abbrev pub reached : ℕ → Option (ℕ × V) → Option V
  reached g None = None
  reached g (Some (e, value)) = if e == g then Some value else None

  -- the value that is kept for the handle
  unfoldable pub kept_at : Shelf V → Handle → Option V
  kept_at s h = reached h.generation (slice_index_or s.slots h.index None)

  -- what is kept for each handle after a value was put there for h: its own for h, nothing for another handle of the same slot
  abbrev pub with_kept : Handle → V → (Handle → Option V) → Handle → Option V
  with_kept h value kept k = if same k h then Some value else (if k.index == h.index then None else kept k)

  -- what is kept for each handle after what was kept for h was taken away
  abbrev pub without_kept : Handle → (Handle → Option V) → Handle → Option V
  without_kept h kept k = if same k h then None else kept k

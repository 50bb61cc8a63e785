-- Handles as plain data: when two are one, and how often one stands in a list.
use Rattle.std.specs.Prelude.{◌==◌, ◌&&◌, ℕ, ◌≤◌, Bool, List, count_by}
use Rattle.fx_handles.specs.declared.Handle.{Handle}

-- whether two handles are one
unfoldable pub same : Handle → Handle → Bool
same h k = h.index == k.index && h.generation == k.generation

-- how often a handle stands in the list
abbrev pub times : Handle → List Handle → ℕ
times h hs = count_by (λ k. same k h) hs

-- the handle stands in the list
abbrev pub Among : Handle → List Handle → Type 0
Among h hs = 1 ≤ times h hs

-- no handle stands in the list twice
abbrev pub AreDistinct : List Handle → Type 0
AreDistinct hs = (h : Handle) → times h hs ≤ 1

use Rattle.std.proofs.Common.{◌≡◌, ℕ, None, length, slice_index_or}
use Rattle.build_owner.proofs.arriving.nothing_by_place.Given as goal

abbrev pub invariant-loop : goal.invariant-loop
invariant-loop l = (length l.by_place.items ≡ l.counter) × ((j : ℕ) → slice_index_or l.by_place.items j None ≡ None)

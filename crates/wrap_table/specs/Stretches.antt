-- Stretches along an axis, one after another: how far they reach together, and where each begins. Row and Column place their
-- children by these words too.
use Rattle.std.specs.Prelude.{ℕ, ◌+◌, max, List, [], ◌∷◌}
use Rattle.fx_geom.specs.Len.{stopped}

-- the greatest of some extents
abbrev pub greatest_of : List ℕ → ℕ
greatest_of [] = 0
greatest_of (e ∷ es) = max e (greatest_of es)

-- the extent of stretches one after another, with a gap between two of them
abbrev pub spaced_extent : ℕ → List ℕ → ℕ
spaced_extent gap [] = 0
spaced_extent gap (e ∷ []) = e
spaced_extent gap (e ∷ f ∷ es) = e + gap + spaced_extent gap (f ∷ es)

-- where stretches begin, one after another with a gap between two of them, the first at this place: each place is a
-- length, and stops at the greatest one
abbrev pub starts_from : ℕ → ℕ → List ℕ → List ℕ
starts_from gap from [] = []
starts_from gap from (e ∷ es) = stopped from ∷ starts_from gap (from + e + gap) es

abbrev pub starts_of : ℕ → List ℕ → List ℕ
starts_of gap extents = starts_from gap 0 extents

-- A stretch of a list, changed place by place: what the code does to the rows of a grid, and to the cells of a row.
use Rattle.std.specs.Prelude.{ℕ, ◌+◌, Bool, ◌&&◌, nat_le, nat_lt, if◌then◌else◌, List, [], ◌∷◌}

-- a place lies from one place on and before another
abbrev pub lies_in : ℕ → ℕ → ℕ → Bool
lies_in from to k = nat_le from k && nat_lt k to

-- a change that is made there alone
abbrev pub within : {A : Type 0} → ℕ → ℕ → (ℕ → A → A) → ℕ → A → A
within from to f k x = if lies_in from to k then f k x else x

-- each element, changed by its place, of a list that begins at a place
abbrev pub changed : {A : Type 0} → (ℕ → A → A) → ℕ → List A → List A
changed f k [] = []
changed f k (x ∷ xs) = f k x ∷ changed f (k + 1) xs

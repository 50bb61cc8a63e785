-- Places that are added to a list of places.
use Rattle.std.specs.Prelude.{◌≡◌, ℕ, ◌==◌, Bool, ◌||◌, List}
use Rattle.std.specs.List.{list_any}

-- a place is among these
abbrev pub is_among : ℕ → List ℕ → Bool
is_among i places = list_any (λ place. place == i) places

-- the places of the new list are those of the old one, and those that pass a test
abbrev pub AddsPlaces : List ℕ → List ℕ → (ℕ → Bool) → Type 0
AddsPlaces old new test = (i : ℕ) → is_among i new ≡ (is_among i old || test i)

-- Of a walk over the items of a list, each of which adds places: what is there now, with what the rest of the items will add, is what was
-- there, with what all of them add.
abbrev pub LeftToAdd : {X : Type 0} → (ℕ → List X → Bool) → List ℕ → List ℕ → List X → List X → Type 0
LeftToAdd some old now all rest = (i : ℕ) → (is_among i now || some i rest) ≡ (is_among i old || some i all)

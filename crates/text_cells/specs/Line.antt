-- Where the lines of a paragraph are cut.
use Rattle.std.specs.Prelude.{◌≡◌, ℕ, ◌<◌, ◌≤◌, ◌⊎◌, Bool, true, false, nat_le, List, [], ◌∷◌, length, take, drop, Option, Some, None}
use Rattle.text_cells.specs.Cluster.{Cluster, width}

-- whether a width is within a limit of cells, where there is one
abbrev pub fits : Option ℕ → ℕ → Bool
fits None cells = true
fits (Some limit) cells = nat_le cells limit

-- the last of some clusters is a space
abbrev pub last_is_space : List Cluster → Bool
last_is_space [] = false
last_is_space (c ∷ []) = c.is_space
last_is_space (c ∷ d ∷ rest) = last_is_space (d ∷ rest)

-- the last of the first n clusters is a space
abbrev pub ends_in_space : List Cluster → ℕ → Bool
ends_in_space cs n = last_is_space (take n cs)

-- of the clusters that are left, the first n are the most that fit, and at least one
pub record IsFit (limit : Option ℕ) (left : List Cluster) (n : ℕ) : Type 0 where
  pub some : 1 ≤ n
  pub there : n ≤ length left
  pub fit : (fits limit (width (take n left)) ≡ true) ⊎ (n ≡ 1)
  pub most : (more : ℕ) → n < more → more ≤ length left → fits limit (width (take more left)) ≡ false

-- within the first n clusters, the greatest place after a space; n where there is no space
pub record IsAfterSpace (left : List Cluster) (n place : ℕ) : Type 0 where
  pub some : 1 ≤ place
  pub within : place ≤ n
  pub space : ends_in_space left place ≡ true
  pub last : (more : ℕ) → place < more → more ≤ n → ends_in_space left more ≡ false

pub record HasNoSpace (left : List Cluster) (n : ℕ) : Type 0 where
  pub none : (more : ℕ) → 1 ≤ more → more ≤ n → ends_in_space left more ≡ false

abbrev pub IsBreak : List Cluster → ℕ → ℕ → Type 0
IsBreak left n place = IsAfterSpace left n place ⊎ (HasNoSpace left n × (place ≡ n))

-- The first line of what is left of a paragraph takes all of it where that fits. Otherwise it ends after the last space
-- among the most clusters that fit, and after these where there is no space.
abbrev pub IsLine : Option ℕ → List Cluster → ℕ → Type 0
IsLine limit left n =
    ((fits limit (width left) ≡ true) × (n ≡ length left))
    ⊎ ((fits limit (width left) ≡ false) × ((most : ℕ) × IsFit limit left most × IsBreak left most n))

-- The lines of what is left of a paragraph, as numbers of clusters: each begins where the one before it ends, and before the
-- paragraph's end; the last one ends there. An empty paragraph has one line.
abbrev pub AreLines : Option ℕ → List Cluster → List ℕ → Type 0
AreLines limit left [] = ⊥
AreLines limit left (n ∷ []) = IsLine limit left n × (n ≡ length left)
AreLines limit left (n ∷ m ∷ more) = IsLine limit left n × (n < length left) × AreLines limit (drop n left) (m ∷ more)

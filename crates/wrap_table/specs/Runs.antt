-- Children cut into runs: those of a Wrap, which take as many children as fit, and the rows of a Table.
use Rattle.std.specs.Prelude.{◌≡◌, ℕ, ◌<◌, ◌≤◌, ◌==◌, ◌⊎◌, Bool, nat_lt, if◌then◌else◌, List, [], ◌∷◌, ◌++◌, length, map}
use Rattle.std.specs.List.{flat_map}
use Rattle.fx_geom.specs.declared.lengths.Len.{Len}
use Rattle.fx_geom.specs.declared.shapes.Size.{Size}
use Rattle.fx_geom.specs.Len.{limit_of, stopped}
use Rattle.wrap_table.specs.Stretches.{spaced_extent}

-- the width of children side by side; it is a length, and stops at the greatest one
abbrev pub width_of : ℕ → List Size → ℕ
width_of gap children = stopped (spaced_extent gap (map (λ child. child.w) children))

-- a run of a Wrap: it has a child, and its children fit side by side, unless there is only one
pub record IsRun (limit : Len) (gap : ℕ) (run : List Size) : Type 0 where
  pub some : 1 ≤ length run
  pub fits : (width_of gap run ≤ limit_of limit) ⊎ (length run ≡ 1)

-- a run that others follow: it would exceed the limit with the next child, which is the first of the next run
abbrev pub IsEnded : Len → ℕ → List Size → List (List Size) → Type 0
IsEnded limit gap run [] = Unit {0}
IsEnded limit gap run ([] ∷ more) = ⊥
IsEnded limit gap run ((next ∷ rest) ∷ more) = limit_of limit < width_of gap (run ++ next ∷ [])

abbrev pub AreRuns : Len → ℕ → List (List Size) → Type 0
AreRuns limit gap [] = Unit {0}
AreRuns limit gap (run ∷ more) = IsRun limit gap run × IsEnded limit gap run more × AreRuns limit gap more

-- the runs of the children of a Wrap
pub record IsCut (limit : Len) (gap : ℕ) (children : List Size) (runs : List (List Size)) : Type 0 where
  pub whole : flat_map (λ run. run) runs ≡ children
  pub each : AreRuns limit gap runs

-- a cut of a list, given where a stretch ends before the next element: first what is left after the start of a stretch
abbrev pub cut_after : {A : Type 0} → (List A → A → Bool) → List A → List A → List (List A)
cut_after ends stretch [] = stretch ∷ []
cut_after ends stretch (x ∷ xs) =
    if ends stretch x then stretch ∷ cut_after ends (x ∷ []) xs else cut_after ends (stretch ++ x ∷ []) xs

abbrev pub cut_of : {A : Type 0} → (List A → A → Bool) → List A → List (List A)
cut_of ends [] = []
cut_of ends (x ∷ xs) = cut_after ends (x ∷ []) xs

-- the runs of a Wrap, child by child: a run ends before the child with which it would exceed the limit
abbrev pub exceeds : Len → ℕ → List Size → Size → Bool
exceeds limit gap run next = nat_lt (limit_of limit) (width_of gap (run ++ next ∷ []))

abbrev pub runs_of : Len → ℕ → List Size → List (List Size)
runs_of limit gap children = cut_of (exceeds limit gap) children

-- the rows of the children of a Table with this many columns: each has a child in each column, and the last one has
-- those that are left
abbrev pub is_full : {A : Type 0} → ℕ → List A → A → Bool
is_full columns row next = length row == columns

abbrev pub rows_of : {A : Type 0} → ℕ → List A → List (List A)
rows_of columns children = cut_of (is_full columns) children

-- The gaps along the main axis of a Row or a Column (MainAxisAlignment).
use Rattle.std.specs.Prelude.{ℕ, ◌+◌, ◌-◌, ◌/◌, ◌==◌, if◌then◌else◌}
use Rattle.fx_geom.specs.declared.words.MainAlign.{MainAlign}
use Rattle.fx_geom.specs.declared.words.MainAlign.TheVariants.{Start, End, Center, Between, Around, Evenly}
use Rattle.flex_layout.specs.declared.spacing.Gaps.{Gaps}

-- the gap between two of n children, n being at least 1, where rest is left on the axis
abbrev pub between_of : MainAlign → ℕ → ℕ → ℕ
between_of Start rest n = 0
between_of End rest n = 0
between_of Center rest n = 0
between_of Between rest n = if n == 1 then 0 else rest / (n - 1)
between_of Around rest n = rest / n
between_of Evenly rest n = rest / (n + 1)

-- the gap before the first of n children, n being at least 1
abbrev pub lead_of : MainAlign → ℕ → ℕ → ℕ
lead_of Start rest n = 0
lead_of End rest n = rest
lead_of Center rest n = rest / 2
lead_of Between rest n = 0
lead_of Around rest n = rest / n / 2
lead_of Evenly rest n = rest / (n + 1)

-- both gaps; without children there are none
abbrev pub gaps_of : MainAlign → ℕ → ℕ → Gaps
gaps_of align rest n =
    record { lead = if n == 0 then 0 else lead_of align rest n; between = if n == 0 then 0 else between_of align rest n }

-- Which value a name has among those that are provided.
use Rattle.std.specs.Prelude.{ℕ, ◌==◌, Option, option_map, List}
use Rattle.std.specs.List.{find}
use Rattle.fx_expr.specs.declared.values.Value.{Value}

-- of the values that were provided, each with its name and the innermost first, the first of this name
abbrev pub provided : List (ℕ × Value) → ℕ → Option Value
provided ps name = option_map (λ (p : ℕ × Value). p.1) (find (λ (p : ℕ × Value). p.0 == name) ps)

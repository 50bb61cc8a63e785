-- Which inherited values the output of a component depends on.
use Rattle.std.specs.Prelude.{◌≡◌, ℕ, List, [], ◌∷◌}
use Rattle.fx_expr.specs.declared.values.Value.{Value}
use Rattle.fx_expr.specs.Scope.{value_at}

-- two lists of the values of all inherited names have the same value of each of these names
abbrev pub AgreeAt : List ℕ → List Value → List Value → Type 0
AgreeAt [] was now = Unit {0}
AgreeAt (name ∷ names) was now = (value_at was name ≡ value_at now name) × AgreeAt names was now

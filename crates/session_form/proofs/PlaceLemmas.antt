-- Places of names, counted from a later one.
use Rattle.std.proofs.Common.{◌≡◌, ℕ, ◌+◌, Option, Some, None, option_map, refl, ap, arith}
use Rattle.fx_expr.specs.declared.values.Ty.{Ty}
use Rattle.expr_check.specs.Names.{one_later}

abbrev pub later : ℕ → ℕ × Ty → ℕ × Ty
later i p = (i + p.0, p.1)

pub later_none : (o : Option (ℕ × Ty)) → option_map (later 0) o ≡ o
later_none None = refl
later_none (Some p) = let e : 0 + p.0 ≡ p.0 = omega arith in ap (λ n. Some (n, p.1)) e

pub later_more : (i : ℕ) (o : Option (ℕ × Ty)) → option_map (later i) (option_map one_later o) ≡ option_map (later (i + 1)) o
later_more i None = refl
later_more i (Some p) = let e : i + (p.0 + 1) ≡ i + 1 + p.0 = omega arith in ap (λ n. Some (n, p.1)) e

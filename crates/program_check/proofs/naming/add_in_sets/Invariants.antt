use Rattle.std.proofs.Common.{ℕ, map, drop}
use Rattle.std.specs.List.{list_any}
use Rattle.fx_expr.specs.Exp.{Exp}
use Rattle.fx_expr.specs.SomeForm.{reads_inherited}
use Rattle.fx_expr.specs.View.{set_of}
use Rattle.fx_expr.specs.Places.{LeftToAdd}
use Rattle.program_check.proofs.naming.add_in_sets.Given as goal

abbrev pub invariant-loop-i : goal.invariant-loop-i
invariant-loop-i l =
    LeftToAdd (λ i ss. list_any (λ (set : ℕ × Exp). reads_inherited i set.1) (map set_of ss)) l.initial.places.items l.places.items l.sets (drop l.i l.sets)

use Rattle.std.proofs.Common.{map, drop}
use Rattle.std.specs.List.{list_any}
use Rattle.fx_expr.specs.SomeForm.{reads_inherited}
use Rattle.fx_expr.specs.View.{exp_of}
use Rattle.fx_expr.specs.Places.{LeftToAdd}
use Rattle.program_check.proofs.naming.add_in_exprs.Given as goal

abbrev pub invariant-loop-e : goal.invariant-loop-e
invariant-loop-e l =
    LeftToAdd (λ i es. list_any (reads_inherited i) (map exp_of es)) l.initial.places.items l.places.items l.exprs (drop l.e-index l.exprs)

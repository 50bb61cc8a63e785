use Rattle.std.proofs.Common.{◌≡◌, map, drop, take, vec_len}
use Rattle.fx_expr.specs.Exp.{exps_of}
use Rattle.fx_expr.specs.SomeForm.{is_inherited, some_form_of_each}
use Rattle.fx_expr.specs.View.{exp_of}
use Rattle.fx_expr.specs.Places.{LeftToAdd}
use Rattle.fx_expr.proofs.naming.+naming.Given as goal

abbrev pub invariant-add_each-loop-e : goal.invariant-add_each-loop-e
invariant-add_each-loop-e l =
    LeftToAdd (λ i es. some_form_of_each (is_inherited i) (exps_of (map exp_of es))) l.initial.places.items l.places.items l.e-items (drop l.e-index l.e-items)
    × (take (vec_len l.initial.places) l.places.items ≡ l.initial.places.items)

use Rattle.std.proofs.Common.{◌≡◌, ◌<◌, ℕ, false, get_or, []}
use Rattle.fx_expr.specs.declared.values.Ty.TheVariants as ty
use Rattle.element_tree.specs.Fields.{is_named}
use Rattle.element_tree.proofs.fields.place_of.Given as goal

-- no field so far has the name
abbrev pub invariant-loop-i : goal.invariant-loop-i
invariant-loop-i l = (k : ℕ) → k < l.i → is_named l.name (get_or l.fields k ([], ty.Int)) ≡ false

use Rattle.std.proofs.Common.{◌≡◌, ◌<◌, ℕ, false, get_or}
use Rattle.fx_expr.specs.declared.values.Value.TheVariants as value
use Rattle.fx_expr.specs.Value.{type_of}
use Rattle.element_tree.proofs.element.Element.fits.Given as goal

-- the values so far have the types of the fields
abbrev pub invariant-loop-i : goal.invariant-loop-i
invariant-loop-i l = (k : ℕ) → k < l.i → type_of (get_or l.values k (value.Bool false)) ≡ type_of (get_or l.self.fields k (value.Bool false))

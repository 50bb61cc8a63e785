-- The nodes so far, from the end back, are held.
use Rattle.std.proofs.Common.{◌≡◌, map, drop}
use Rattle.std.specs.List.{find}
use Rattle.std.specs.Option.{option_or}
use Rattle.fx_expr.specs.declared.values.Value.{Value}
use Rattle.plain_tree.specs.States.{seen}
use Rattle.build_form.specs.Partner.{has_global}
use Rattle.plain_build.specs.PartnerView.{held}
use Rattle.plain_build.proofs.holders.hold_all.Given as goal

abbrev pub invariant-loop-i : goal.invariant-loop-i
invariant-loop-i l = (k : Value) → held l.holders k ≡ option_or (find (has_global k) (drop l.i (map seen l.nodes))) (held l.fn.holders k)

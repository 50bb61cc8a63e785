use Rattle.std.proofs.Common.{◌≡◌, map, drop}
use Rattle.fx_expr.specs.View.{set_of}
use Rattle.program_form.specs.HandlerView.{plain_set}
use Rattle.expr_check.specs.ScopeView.{plain_names}
use Rattle.expr_check.specs.Check.{in_order}
use Rattle.expr_check.specs.Handlers.{checked_handler}
use Rattle.expr_check.proofs.HandlerLemmas.{resumed, set_check}
use Rattle.expr_check.proofs.handlers.check_sets.Given as goal

abbrev pub invariant-loop-i : goal.invariant-loop-i
invariant-loop-i l =
    checked_handler (plain_names l.names) (map plain_set l.sets)
    ≡ resumed (map set_of l.checked.items) (in_order (map (set_check (plain_names l.names)) (drop l.i l.sets)))

-- What the sets that are still to come do to the fields of now is what all do to the first ones.
use Rattle.std.proofs.Common.{◌≡◌, map, drop}
use Rattle.fx_expr.specs.Value.{type_of}
use Rattle.fx_expr.specs.View.{set_of}
use Rattle.fx_expr.specs.Sets.{fields_after, FitFields}
use Rattle.fx_expr.proofs.handlers.run_sets.Given as goal

abbrev pub invariant-loop-set : goal.invariant-loop-set
invariant-loop-set l =
    (fields_after (map set_of (drop l.set-index l.sets)) l.fields.items l.event.0 l.event.1
    ≡ fields_after (map set_of l.fn.sets) l.fn.fields.items l.fn.event.0 l.fn.event.1)
    × FitFields (map type_of l.fields.items) (map set_of (drop l.set-index l.sets))

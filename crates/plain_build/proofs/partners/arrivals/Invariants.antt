use Rattle.std.proofs.Common.{◌≡◌, ◌++◌, map, drop}
use Rattle.widget_model.specs.View.{shared}
use Rattle.build_form.specs.Partner.{arrivals_from}
use Rattle.plain_build.specs.PartnerView.{plain_arrival}
use Rattle.plain_build.proofs.partners.arrivals.Given as goal

abbrev pub invariant-loop-i : goal.invariant-loop-i
invariant-loop-i l =
    map plain_arrival l.arrivals.items ++ arrivals_from l.nodes l.i (drop l.i (map shared l.widgets)) (drop l.i l.matched.items)
    ≡ arrivals_from l.nodes 0 (map shared l.widgets) l.matched.items

use Rattle.std.proofs.Common.{◌≡◌, map, drop}
use Rattle.program_form.specs.TemplateView.{plain_prop}
use Rattle.expr_check.specs.Check.{in_order}
use Rattle.program_check.specs.Judged.{prop_place}
use Rattle.expr_check.proofs.HandlerLemmas.{resumed}
use Rattle.program_check.proofs.parts.prop_places.Given as goal

abbrev pub invariant-loop-i : goal.invariant-loop-i
invariant-loop-i l =
    in_order (map (prop_place l.declared) (map plain_prop l.given))
    ≡ resumed l.places.items (in_order (map (prop_place l.declared) (map plain_prop (drop l.i l.given))))

use Rattle.std.proofs.Common.{◌≡◌, map, drop}
use Rattle.program_check.specs.JudgedView.{content_of}
use Rattle.expr_check.specs.Check.{in_order}
use Rattle.program_check.specs.Judged.{slot_place}
use Rattle.expr_check.proofs.HandlerLemmas.{resumed}
use Rattle.program_check.proofs.bodies.slot_places.Given as goal

abbrev pub invariant-loop-i : goal.invariant-loop-i
invariant-loop-i l =
    in_order (map (slot_place l.declared) (map content_of l.given))
    ≡ resumed l.places.items (in_order (map (slot_place l.declared) (map content_of (drop l.i l.given))))

use Rattle.std.proofs.Common.{ap, ◌∙◌}
use Rattle.program_check.proofs.NamingLemmas.{chosen-marked, chosen-unmarked}
use Rattle.program_check.proofs.naming.chosen.Goals as goal
use Rattle.program_check.proofs.naming.chosen.Goals.{then-marks-i+in_ok-push, else-marks-i}

pub loop-i-preserved : goal.loop-i-preserved
loop-i-preserved c =
    elim c.if-marks-i.branch [
      | then-marks-i+in_ok-push w ↦
          chosen-marked c.args.marks.now c.loop-i.i c.loop-i.places.items c.if-marks-i.places.items c.loop-i.invariant w.if-marks-i.true
          (ap (λ v. v.items) w.places-is ∙ w.in_ok-push.ensures.items)
      | else-marks-i w ↦ ap (λ v. v.items) w.places-is ∙ chosen-unmarked c.args.marks.now c.loop-i.i c.loop-i.places.items c.loop-i.invariant w.if-marks-i.false
    ]

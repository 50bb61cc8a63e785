use Rattle.program_check.proofs.GivenLemmas.{marked-start, marked-step}
use Rattle.program_check.proofs.given.marked.Goals as goal

pub loop-left-init : goal.loop-left-init
loop-left-init c = marked-start c.args.count c.args.places.now c.in_ok-marks.marks.items (c.in_ok-marks.ensures.items_if_clones_equal (λ y e. e))

pub loop-left-preserved : goal.loop-left-preserved
loop-left-preserved c =
    marked-step c.args.count c.args.places.now c.loop-left.left c.loop-left.marks.items c.put.new.table.items c.loop-left.invariant c.loop-left-test.true c.put.ensures

use Rattle.std.proofs.Common.{◌∙◌, ap, arith}
use Rattle.gesture_arena.specs.Stored.{offset_of, moment_of, stepped, given_stepped}
use Rattle.gesture_arena.proofs.InPlace.{step_next}
use Rattle.gesture_arena.proofs.deciding.step_each.Goals as goal

pub loop-t-preserved : goal.loop-t-preserved
loop-t-preserved c =
    let s = c.args.scale.now in
    let from = offset_of c.args.from in
    let x = moment_of c.args.happening.now in
    step_next (given_stepped c.args.answers.now s from x) c.args.members.now c.loop-t.members c.loop-t.t-index _ c.after.result
    (omega arith) c.loop-t.invariant (c.after.ensures ∙ ap (stepped s from x) c.given_to.ensures)

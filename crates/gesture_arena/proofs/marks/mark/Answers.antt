use Rattle.std.proofs.lemmas.List.{get_or_default}
use Rattle.gesture_arena.proofs.Marked.{more_marked}
use Rattle.gesture_arena.proofs.marks.mark.Goals as goal

pub loop-member-preserved : goal.loop-member-preserved
loop-member-preserved c =
    more_marked _ _ c.args.gone.now c.loop-member.member-index _ c.loop-member-test.true
    (get_or_default c.args.gone.now c.loop-member.member-index _ _ c.loop-member-test.true) c.put_mark.ensures c.loop-member.invariant

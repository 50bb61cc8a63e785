use Rattle.std.proofs.Common.{subst, sym}
use Rattle.gesture_arena.specs.Marks.{NoneIsMarked}
use Rattle.gesture_arena.proofs.meeting.drop_one.Goals as goal
use Rattle.gesture_arena.proofs.meeting.drop_one.Goals.{then-not-is_empty, else-not-is_empty}

pub mark-requires : goal.mark-requires
mark-requires c =
    elim c.if-not-is_empty.branch [
      | then-not-is_empty w ↦ subst (λ m. NoneIsMarked m) (sym w.marks-is) w.place_each.ensures.marks
      | else-not-is_empty w ↦ subst (λ m. NoneIsMarked m) (sym w.marks-is) (subst (λ m. NoneIsMarked m) (sym c.replace-marks.ensures.value) c.args.held.now.unmarked)
    ]

use Rattle.std.proofs.Common.{sym, ◌∙◌}
use Rattle.gesture_arena.proofs.Kept.{none_given}
use Rattle.gesture_arena.proofs.arena.settle.Goals as goal

pub settle_waiting-requires : goal.settle_waiting-requires
settle_waiting-requires c = none_given c.args.answers.now (sym c.accept.ensures ∙ c.if-accept.false) c.args.members.now c.requires

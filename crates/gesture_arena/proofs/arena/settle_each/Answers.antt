use Rattle.std.proofs.Common.{false, sym, map}
use Rattle.gesture_arena.specs.Answering.{answered}
use Rattle.gesture_arena.proofs.Answered.{ends_whole}
use Rattle.gesture_arena.proofs.arena.settle_each.Goals as goal

pub loop-t-init : goal.loop-t-init
loop-t-init c = sym (ends_whole c.args.goes_up false (map (answered c.args.answers.now) c.args.members.now))

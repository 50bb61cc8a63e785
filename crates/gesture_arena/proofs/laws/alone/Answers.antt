use Rattle.gesture_arena.proofs.Own.{is_alone}
use Rattle.gesture_arena.proofs.laws.alone.Goals as goal

pub returns : goal.returns
returns c = is_alone

use Rattle.gesture_arena.proofs.Own.{due_in_order}
use Rattle.gesture_arena.proofs.laws.deadlines_in_order.Goals as goal

pub returns : goal.returns
returns c = due_in_order

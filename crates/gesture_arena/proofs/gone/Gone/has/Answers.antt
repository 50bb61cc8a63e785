use Rattle.gesture_arena.proofs.Marked.{found_mark}
use Rattle.gesture_arena.proofs.gone.Gone.has.Goals as goal

pub returns-in-Some : goal.returns-in-Some
returns-in-Some c = c.args.self.now.marked c.args.member c.of.result (found_mark _ c.args.member c.in-Some.node.now c.of.result c.in-Some.ensures.value c.of.ensures)

use Rattle.std.proofs.Common.{◌≡◌}
use Rattle.gesture_arena.specs.Answering.{answer_in}
use Rattle.gesture_arena.specs.Settled.{decision_after}
use Rattle.gesture_arena.specs.declared.answers.Answers.{Answers}
use Rattle.gesture_arena.proofs.Answered.{by_gesture}
use Rattle.gesture_arena.proofs.answers.Answers.then.Goals as goal

pub returns : goal.returns
returns c =
    let first = c.args.self.now in
    let next = c.args.next.now in
    let all : Answers = record {
      tap = c.then.result;
      long = c.then-2.result;
      vertical = c.then-3.result;
      horizontal = c.then-4.result;
      pan = c.then-5.result;
    } in
    by_gesture (λ g. answer_in all g ≡ decision_after (answer_in first g) (answer_in next g))
    c.then.ensures c.then-2.ensures c.then-3.ensures c.then-4.ensures c.then-5.ensures

use Rattle.std.proofs.Common.{◌≡◌}
use Rattle.gesture_arena.specs.Answering.{answer, answer_in}
use Rattle.gesture_arena.specs.Stored.{offset_of, moment_of}
use Rattle.gesture_arena.specs.declared.answers.Answers.{Answers}
use Rattle.gesture_arena.proofs.Answered.{by_gesture}
use Rattle.gesture_arena.proofs.answers.Answers.of.Goals as goal

pub returns : goal.returns
returns c =
    let all : Answers = record {
      tap = c.gesture_says.result;
      long = c.gesture_says-2.result;
      vertical = c.gesture_says-3.result;
      horizontal = c.gesture_says-4.result;
      pan = c.gesture_says-5.result;
    } in
    by_gesture (λ g. answer_in all g ≡ answer c.args.scale.now (offset_of c.args.from) g (moment_of c.args.happening.now))
    c.gesture_says.ensures c.gesture_says-2.ensures c.gesture_says-3.ensures c.gesture_says-4.ensures c.gesture_says-5.ensures

use Rattle.std.proofs.Common.{refl, ap, ◌∙◌, map}
use Rattle.std.specs.List.{list_any}
use Rattle.gesture_arena.specs.Answering.{answered}
use Rattle.gesture_arena.specs.Settled.{has_accepted}
use Rattle.gesture_arena.proofs.Kept.{all_waiting, fresh_quiet}
use Rattle.gesture_arena.proofs.held.HeldPointer.touched.Goals as goal

pub invariant_of-result : goal.invariant_of-result
invariant_of-result c =
    let ts = c.in_ok-tracked.tracked.items in
    record {
      unmarked = c.no_marks-marks.ensures;
      quiet = ap (λ a. list_any has_accepted (map (answered a) ts)) c.waiting.ensures ∙ fresh_quiet c.args.members.now ts c.in_ok-tracked.ensures;
    }

pub returns : goal.returns
returns c s =
    let ts = c.in_ok-tracked.tracked.items in
    record {
      number = refl;
      from = refl;
      last = refl;
      began = refl;
      is_due = refl;
      members = ap (λ a. map (answered a) ts) c.waiting.ensures ∙ all_waiting ts ∙ c.in_ok-tracked.ensures;
      arena = refl;
    }

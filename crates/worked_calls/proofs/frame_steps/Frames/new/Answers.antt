use Rattle.std.proofs.Common.{[], None}
use Rattle.worked_calls.proofs.frame_steps.Frames.new.Goals as goal

pub returns : goal.returns
returns c = λ delegates.
    let kept = c.new.ensures in
    record {
      marks = [];
      tree = None;
      stands = kept.stands _ delegates;
      room = kept.room;
      well = tt;
      typed = c.in_ok-root.ensures.typed;
      sized = c.in_ok-root.ensures.sized;
    }

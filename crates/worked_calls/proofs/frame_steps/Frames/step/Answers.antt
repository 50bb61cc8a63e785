use Rattle.worked_calls.proofs.frame_steps.Frames.step.Goals as goal

pub build-requires : goal.build-requires
build-requires g c = c.requires

pub frame-requires : goal.frame-requires
frame-requires g c = c.requires

pub returns : goal.returns
returns g c =
    let after = c.in_ok-frame.ensures in
    record {
      marks = after.marks;
      tree = after.tree;
      stands = after.stands;
      room = after.room;
      well = c.in_ok-built.ensures;
      typed = after.typed;
      sized = after.sized;
    }

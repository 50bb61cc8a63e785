use Rattle.worked_calls.proofs.frame_steps.Frames.set_root.Goals as goal

pub returns : goal.returns
returns c = λ delegates old. record {
  marks = old.marks;
  tree = old.tree;
  stands = old.stands;
  room = old.room;
  well = old.well;
  typed = c.in_ok-root.ensures.typed;
  sized = c.in_ok-root.ensures.sized;
}

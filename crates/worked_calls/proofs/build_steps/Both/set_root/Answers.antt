use Rattle.worked_calls.proofs.build_steps.Both.set_root.Goals as goal

pub returns : goal.returns
returns c = record {
  marks = c.requires.marks;
  scrolled = c.requires.scrolled;
  stands = c.requires.stands;
  next_is = c.requires.next_is;
  typed = c.in_ok-root.ensures.typed;
  sized = c.in_ok-root.ensures.sized;
}

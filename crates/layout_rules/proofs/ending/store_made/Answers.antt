use Rattle.std.proofs.Common.{Some, false}
use Rattle.layout_rules.proofs.ending.store_made.Goals as goal

pub returns-clause-made : goal.returns-clause-made
returns-clause-made g c = λ i. record c.args.state.now {
  scroll = c.scrolled_to-state.ensures i;
  frame = Some c.args.frame;
  notes = c.args.notes;
  plugged = c.is_plugged-plugged.ensures i;
  scrolled = c.args.scrolled;
  needs_layout = false;
}

pub returns-clause-same : goal.returns-clause-same
returns-clause-same g c = c.is_remade-remade.ensures.same

pub returns-clause-other : goal.returns-clause-other
returns-clause-other g c = c.is_remade-remade.ensures.other

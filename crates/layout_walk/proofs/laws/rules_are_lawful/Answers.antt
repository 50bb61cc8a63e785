use Rattle.layout_walk.proofs.Lawfully.{lawful}
use Rattle.layout_walk.proofs.laws.rules_are_lawful.Goals as goal

pub returns : goal.returns
returns c = lawful (record {
  within = c.frames_meet_bounds.ensures.boxes;
  fixed = c.bounds_fix_sizes.ensures;
  blind_asks = c.hidden_boxes_are_blind.ensures.asks;
  blind_makes = c.hidden_boxes_are_blind.ensures.makes;
})

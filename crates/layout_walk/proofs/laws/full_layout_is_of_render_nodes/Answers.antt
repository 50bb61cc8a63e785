use Rattle.layout_walk.proofs.Whole.{whole}
use Rattle.layout_walk.proofs.laws.full_layout_is_of_render_nodes.Goals as goal

pub returns : goal.returns
returns c = whole (record {
  boxes = c.rules_see_frames.ensures.boxes;
  slivers = c.rules_see_frames.ensures.slivers;
  greatest = c.sizes_see_no_offsets.ensures.greatest;
})

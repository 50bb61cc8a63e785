use Rattle.layout_walk.proofs.Whole.{trees_answer, trees_like}
use Rattle.layout_walk.proofs.laws.trees_answer_as_render_nodes.Goals as goal

pub returns-clause-answers : goal.returns-clause-answers
returns-clause-answers c = trees_answer (record {
  boxes = c.rules_see_frames.ensures.boxes;
  slivers = c.rules_see_frames.ensures.slivers;
  greatest = c.sizes_see_no_offsets.ensures.greatest;
})

pub returns-clause-likes : goal.returns-clause-likes
returns-clause-likes c = trees_like (record {
  boxes = c.rules_see_frames.ensures.boxes;
  slivers = c.rules_see_frames.ensures.slivers;
  greatest = c.sizes_see_no_offsets.ensures.greatest;
})

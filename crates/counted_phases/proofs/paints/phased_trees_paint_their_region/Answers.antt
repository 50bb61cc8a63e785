use Rattle.counted_phases.proofs.Counts.{few_paints}
use Rattle.counted_phases.proofs.Ending.{few_painted}
use Rattle.counted_phases.proofs.paints.phased_trees_paint_their_region.Goals as goal

pub returns-clause-painted : goal.returns-clause-painted
returns-clause-painted c = λ before last now_laid then now changed old brought laid new top built plugs alone_old alone_laid kinds caused renders out marks.
    few_painted c.same_means_equal.ensures.looks before last now_laid then now plugs changed old brought laid new top built caused out marks alone_old alone_laid kinds renders

pub returns-clause-frames : goal.returns-clause-frames
returns-clause-frames c = λ s view before old brought new top lo ln po pn last then steps.
    few_paints c.same_means_equal.ensures.looks c.layouts_leave_frames.ensures.put s view before old brought new top lo ln po pn last then steps

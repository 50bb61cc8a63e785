use Rattle.counted_phases.proofs.Redrawn.{all_before, all_framed, outer_before, outer_framed}
use Rattle.counted_phases.proofs.laws.redrawn_nodes_are_as_before.Goals as goal

pub returns-clause-alike : goal.returns-clause-alike
returns-clause-alike c = λ old made d g grows differ. all_before old made grows differ d g

pub returns-clause-frames : goal.returns-clause-frames
returns-clause-frames c = λ frames old made d g grows differ agree. all_framed old made grows differ frames agree d g

pub returns-clause-outer : goal.returns-clause-outer
returns-clause-outer c = outer_before

pub returns-clause-outer_frames : goal.returns-clause-outer_frames
returns-clause-outer_frames c = outer_framed

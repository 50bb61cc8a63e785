use Rattle.counted_work.proofs.Asked.{synced_asked}
use Rattle.counted_work.proofs.Synced.{synced_inside, synced_frames}
use Rattle.counted_work.proofs.laws.builds_flag_their_region.Goals as goal

pub returns-clause-flags : goal.returns-clause-flags
returns-clause-flags c = λ before old new top synced. synced_inside old new top synced before c.same_means_equal.ensures.told c.same_means_equal.ensures.looks

pub returns-clause-frames : goal.returns-clause-frames
returns-clause-frames c = λ before old new top synced. synced_frames old new top synced before.frames

pub returns-clause-asked : goal.returns-clause-asked
returns-clause-asked c = synced_asked

use Rattle.settled_builds.proofs.Joining.{spots_stay}
use Rattle.settled_builds.proofs.rearranging.marked_spots_stay.Goals as goal

pub returns : goal.returns
returns c = λ b marks wanted next root tree p ws k ready first can marked. spots_stay (λ v w. (c.same_means_equal.ensures.widgets v w).0) b marks wanted next root tree p ws ready first can k marked

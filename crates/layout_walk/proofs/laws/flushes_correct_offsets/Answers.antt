use Rattle.layout_walk.proofs.Offsets.{flush_scrolled}
use Rattle.layout_walk.proofs.laws.flushes_correct_offsets.Goals as goal

pub returns : goal.returns
returns c = λ P law ask at h v kids w below. flush_scrolled P law ask at h v kids w below

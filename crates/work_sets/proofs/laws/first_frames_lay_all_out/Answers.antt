use Rattle.work_sets.proofs.FirstFrame.{first_layout}
use Rattle.work_sets.proofs.laws.first_frames_lay_all_out.Goals as goal

pub returns : goal.returns
returns c = first_layout

use Rattle.paint_owner.proofs.CalmCount.{calm_frame_costs}
use Rattle.paint_owner.proofs.laws.calm_frames_count_nothing.Goals as goal

pub returns : goal.returns
returns c = λ f shown calm. calm_frame_costs f shown calm

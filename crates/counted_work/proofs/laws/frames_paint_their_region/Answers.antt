use Rattle.counted_work.proofs.Drawn.{first_asked}
use Rattle.counted_work.proofs.Frames.{frame_painted, painted_nodes}
use Rattle.render_tree.specs.Plain.{root_tree}
use Rattle.counted_work.proofs.laws.frames_paint_their_region.Goals as goal

pub returns-clause-first : goal.returns-clause-first
returns-clause-first c = λ before shows changed old brought laid new top synced was keeps is_laid alone marks.
    painted_nodes old brought top synced laid keeps new changed before shows is_laid alone marks (first_asked before shows (root_tree new) was)

pub returns-clause-paints : goal.returns-clause-paints
returns-clause-paints c = λ before last now_laid then now changed old brought laid new top synced.
    frame_painted c.same_means_equal.ensures.told c.same_means_equal.ensures.looks before last now_laid then now changed old brought laid new top synced

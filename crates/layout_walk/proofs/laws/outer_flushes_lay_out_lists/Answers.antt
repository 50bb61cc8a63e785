use Rattle.layout_walk.proofs.Flushing.{lists_full}
use Rattle.layout_walk.proofs.laws.outer_flushes_lay_out_lists.Goals as goal

pub returns : goal.returns
returns c = lists_full

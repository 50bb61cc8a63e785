use Rattle.tree_marks.proofs.SweepTrees.{live_from_stands}
use Rattle.tree_marks.proofs.sweep.sweep_root.Goals as goal

pub sweep_at-requires : goal.sweep_at-requires
sweep_at-requires g c = live_from_stands c.args.tree.now c.in-Some.h _ c.in-Some.ensures.holds

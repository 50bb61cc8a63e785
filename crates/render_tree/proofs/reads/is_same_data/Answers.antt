use Rattle.render_tree.proofs.SameReads.{same_data}
use Rattle.render_tree.proofs.reads.is_same_data.Goals as goal

pub returns : goal.returns
returns c = same_data c.all_four.result c.is_same_placed-placed.result c.args.a c.args.b c.all_four.ensures c.is_same_placed-placed.ensures

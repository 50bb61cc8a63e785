use Rattle.render_tree.proofs.Updating.{read_same}
use Rattle.render_tree.proofs.updates.is_read_same.Goals as goal

pub returns : goal.returns
returns c =
    read_same c.args.old.now c.args.new.now c.both.result c.is_same_for_layout-look.result c.lazy_count.result c.lazy_count-2.result c.both.ensures c.is_same_for_layout-look.ensures c.lazy_count.ensures
    c.lazy_count-2.ensures

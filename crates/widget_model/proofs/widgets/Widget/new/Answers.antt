use Rattle.widget_model.specs.View.{slots_in}
use Rattle.widget_model.proofs.Counting.{size_around}
use Rattle.widget_model.proofs.widgets.Widget.new.Goals as goal

pub returns-clause-size : goal.returns-clause-size
returns-clause-size c =
    size_around (slots_in c.args.kind) c.args.children _ _ _ _ c.slots_size.ensures c.total_size.ensures c.saturating_add-below.ensures c.saturating_add.ensures

use Rattle.std.proofs.Common.{◌∙◌, ap, length}
use Rattle.widget_model.specs.View.{look_in}
use Rattle.laid_cursor.proofs.Children.{child_count}
use Rattle.laid_cursor.proofs.place.LaidPlaceLaidCursor.len.Goals as goal

pub returns : goal.returns
returns c =
    let n = c.node.inside in
    ap length c.as_slice.ensures.value
    ∙ child_count n.number (look_in n.widget.value.kind) n.facts n.children.items c.args.self.now.node.now c.node.view_is

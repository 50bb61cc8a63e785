use Rattle.std.proofs.Common.{◌≡◌, ◌∙◌, ap, ◌<◌, ◌≤◌, length, arith}
use Rattle.widget_model.specs.View.{look_in}
use Rattle.plain_tree.specs.Laid.{laid}
use Rattle.plain_tree.specs.LaidView.{laids_in}
use Rattle.laid_cursor.proofs.Children.{child_there, child_missing}
use Rattle.laid_cursor.proofs.place.LaidPlaceLaidCursor.child.Goals as goal

pub returns-then-i-children : goal.returns-then-i-children
returns-then-i-children c =
    let n = c.node.inside in
    let cs = c.as_slice-children.result.now in
    let is_node : laid n.number (look_in n.widget.value.kind) n.facts (laids_in cs) ≡ c.args.self.now.node.now =
    ap (λ l. laid n.number (look_in n.widget.value.kind) n.facts (laids_in l)) c.as_slice-children.ensures.value ∙ c.node.view_is in
    let past : length cs ≤ c.args.i = omega (arith, c.if-i-children.true) in
    child_missing n.number (look_in n.widget.value.kind) n.facts cs c.args.self.now.node.now is_node c.args.i past

pub returns : goal.returns
returns c =
    let n = c.node.inside in
    let cs = c.as_slice-children.result.now in
    let is_node : laid n.number (look_in n.widget.value.kind) n.facts (laids_in cs) ≡ c.args.self.now.node.now =
    ap (λ l. laid n.number (look_in n.widget.value.kind) n.facts (laids_in l)) c.as_slice-children.ensures.value ∙ c.node.view_is in
    let within : c.args.i < length cs = omega (arith, c.if-i-children.false) in
    child_there n.number (look_in n.widget.value.kind) n.facts cs c.args.self.now.node.now is_node c.args.i c.index-children-i.result within c.index-children-i.is

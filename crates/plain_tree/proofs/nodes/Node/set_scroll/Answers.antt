use Rattle.plain_tree.specs.At.{having_scroll}
use Rattle.plain_tree.proofs.Numbered.{either_way}
use Rattle.plain_tree.proofs.nodes.Node.set_scroll.Goals as goal

pub returns-clause-changed : goal.returns-clause-changed
returns-clause-changed c =
    either_way (having_scroll c.args.scroll) c.args.number c.args.self.now c.change.new.self _ c.change.result c.change.ensures.changed c.change.ensures.missing

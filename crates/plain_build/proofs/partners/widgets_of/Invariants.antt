use Rattle.std.proofs.Common.{◌≡◌, map, take}
use Rattle.widget_model.specs.View.{shared}
use Rattle.plain_tree.specs.PlainNode.{widget_of}
use Rattle.plain_build.proofs.partners.widgets_of.Given as goal

abbrev pub invariant-loop-node : goal.invariant-loop-node
invariant-loop-node l = map shared l.widgets.items ≡ map widget_of (take l.node-index l.nodes)

use Rattle.std.proofs.Common.{sym, ap, ◌∙◌}
use Rattle.std.specs.Option.{option_copied_mut}
use Rattle.node_tree.proofs.Reordering.{puts_children}
use Rattle.node_tree.proofs.nodes.put_children.Goals as goal

pub returns-in-Some : goal.returns-in-Some
returns-in-Some g c =
    let found = rw (← c.node.view_is) at (sym c.get_mut.ensures.value ∙ ap option_copied_mut c.in-Some.is) in
    puts_children c.args.nodes.now c.args.p _ c.args.children.items found

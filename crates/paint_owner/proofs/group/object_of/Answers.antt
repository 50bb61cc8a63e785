use Rattle.std.proofs.Common.{sym, ap, ◌∙◌}
use Rattle.std.specs.Prelude.{option_copied}
use Rattle.node_tree.specs.Tree.{subtree_at}
use Rattle.paint_owner.proofs.Children.{never_none}
use Rattle.paint_owner.proofs.Flushing.{held}
use Rattle.paint_owner.proofs.group.object_of.Goals as goal

pub unreachable-requires : goal.unreachable-requires
unreachable-requires c =
    let o = held c.args.tree.now.tree c.args.h (subtree_at c.args.tree.now.tree c.args.h) c.requires in
    never_none o.0 (ap (λ x. option_copied x) (sym c.in_default.is) ∙ c.object.ensures ∙ o.1)

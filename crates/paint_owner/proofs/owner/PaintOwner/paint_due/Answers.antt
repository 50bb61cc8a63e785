use Rattle.std.proofs.Common.{◌++◌, ap, ◌∙◌}
use Rattle.node_tree.specs.Tree.{subtree_at}
use Rattle.kept_layers.specs.Steps.{stale}
use Rattle.paint_owner.proofs.Flushing.{stale_hold}
use Rattle.paint_owner.proofs.owner.PaintOwner.paint_due.Goals as goal

pub redo_all-requires : goal.redo_all-requires
redo_all-requires g c =
    let t = c.args.tree.now.tree in
    stale_hold t c.args.root (λ k live. c.walk_laws.ensures.holds t k c.root.ensures.tree live) (λ k is. c.keep_laws.ensures.live t _ (subtree_at t c.args.root) k c.requires.holds.stands is)
    c.as_slice.result.now (c.as_slice.ensures.value ∙ c.in_ok-seen.ensures.stale ∙ ap (λ xs. xs ++ stale (subtree_at t c.args.root)) c.new-found.ensures.stale)

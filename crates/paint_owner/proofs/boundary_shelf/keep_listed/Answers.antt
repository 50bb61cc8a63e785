use Rattle.std.proofs.Common.{rules, is_some, ap, ◌∙◌}
use Rattle.handle_shelf.specs.Shelf.{kept_at}
use Rattle.node_tree.specs.Tree.{IsNode, node_at}
use Rattle.kept_layers.specs.Steps.{is_listed}
use Rattle.paint_owner.proofs.Dropped.{none_dead, live_listed, still_listed, some_or_not}
use Rattle.paint_owner.proofs.boundary_shelf.keep_listed.Goals as goal

pub returns-clause-dead : goal.returns-clause-dead
returns-clause-dead g c = λ k isnt.
    none_dead c.args.shelf.now c.args.handles.now.items (kept_at c.drop_gone.new.shelf) c.requires c.drop_gone.ensures.empty k
    (λ e. c.drop_gone.ensures.gone k (ap (is_listed k) c.as_slice.ensures.value ∙ e) isnt)

pub returns-clause-listed : goal.returns-clause-listed
returns-clause-listed g c =
    live_listed (IsNode c.args.tree.now.tree) c.args.shelf.now c.drop_gone.new.shelf c.args.handles.now.items _ c.requires (λ k. some_or_not (node_at c.args.tree.now.tree k))
    c.drop_gone.ensures.live
    (λ k isnt. none_dead c.args.shelf.now c.args.handles.now.items (kept_at c.drop_gone.new.shelf) c.requires c.drop_gone.ensures.empty k
    (λ e. c.drop_gone.ensures.gone k (ap (is_listed k) c.as_slice.ensures.value ∙ e) isnt))
    (λ k live listed. ap (is_listed k) (search rules) ∙ still_listed (λ j. is_some (node_at c.args.tree.now.tree j)) k live c.args.handles.now.items listed)

use Rattle.std.proofs.Common.{rules, Bool, is_some}
use Rattle.std.proofs.lemmas.Fn.{filter_same}
use Rattle.fx_handles.specs.declared.Handle.{Handle}
use Rattle.node_tree.specs.Tree.{node_at}
use Rattle.paint_owner.proofs.boundary_shelf.list_live.Goals as goal

pub returns : goal.returns
returns c =
    let test : Handle → Bool = λ j. is_some (node_at c.args.tree.now.tree j) in
    filter_same _ test _ (λ x b q r. search rules) _ _ c.retain.ensures.filtered

use Rattle.std.proofs.Common.{sym, ap, subst, ◌∙◌, List, ◌++◌, Option}
use Rattle.fx_handles.specs.declared.Handle.{Handle}
use Rattle.node_tree.specs.Tree.{subtree_at}
use Rattle.render_tree.specs.Plain.{root_below}
use Rattle.layout_owner.specs.Ranges.{lists_in_window, ranged, OnlyValues}
use Rattle.layout_owner.proofs.ranges.store_ranges.Goals as goal

pub returns-in-Ok-clause-only : goal.returns-in-Ok-clause-only
returns-in-Ok-clause-only c =
    let t = c.args.r.now.tree in
    let found = c.as_slice.ensures.value ∙ c.in-Ok.ensures ∙ ap (λ (xs : List Handle). xs ++ lists_in_window (subtree_at t c.in-Some.root)) c.new-lists.ensures.items
    ∙ ap (λ (o : Option Handle). lists_in_window (root_below t o)) (sym c.in-Some.is ∙ c.root.ensures.value) in
    subst (λ (xs : List Handle). OnlyValues (ranged c.args.r.now.scale.widen xs) t c.set_ranges.new.r.tree) found c.set_ranges.ensures.only

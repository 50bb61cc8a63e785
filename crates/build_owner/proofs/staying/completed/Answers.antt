use Rattle.std.proofs.Common.{◌≡◌, IfOk, List, map, ap, subst, ◌∙◌}
use Rattle.fx_handles.specs.declared.Handle.{Handle}
use Rattle.fx_handles.specs.Handle.{same}
use Rattle.indexmap.specs.IndexSet.{contains_by}
use Rattle.node_tree.specs.Part.{is_named}
use Rattle.render_tree.specs.Redraw.{Redraw}
use Rattle.build_walk.specs.Merging.{Serving, lists_redraw, serving, merge}
use Rattle.build_owner.specs.Ranging.{listed_in}
use Rattle.build_owner.specs.Staying.{left_items}
use Rattle.build_owner.proofs.staying.completed.Goals as goal

pub returns : goal.returns
returns c =
    let names : (h : Handle) → contains_by (same h) c.in_ok-named.named ≡ is_named c.args.plan.items h = λ h. c.in_ok-named.ensures h ∙ ap (λ es. is_named es h) c.as_slice.ensures.value in
    let lists = c.as_slice-3.ensures.value ∙ c.in_ok-lists.ensures ∙ ap (listed_in lists_redraw) c.as_slice-2.ensures.value in
    subst (λ (ss : List (Serving Redraw)). IfOk c.merge.result (λ es. es.items ≡ (merge lists_redraw c.args.plan.items ss).plan))
    (c.in_ok-items.ensures ∙ (λ i. map (λ h. serving h (left_items c.args.r.now.tree (λ k. names k i) h)) (lists i))) c.merge.ensures

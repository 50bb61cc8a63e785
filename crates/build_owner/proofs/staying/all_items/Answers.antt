use Rattle.std.proofs.Common.{◌+◌, ◌∷◌, ◌++◌, [], Bool, List, map, take, ap, ◌∙◌, arith}
use Rattle.std.proofs.lemmas.List.{map-append, take_all}
use Rattle.fx_handles.specs.declared.Handle.{Handle}
use Rattle.fx_handles.specs.Handle.{same}
use Rattle.indexmap.specs.IndexSet.{contains_by}
use Rattle.render_tree.specs.Redraw.{Redraw}
use Rattle.build_walk.specs.Merging.{Serving, serving}
use Rattle.build_owner.specs.MergingView.{serving_of}
use Rattle.build_owner.specs.Staying.{left_items}
use Rattle.build_owner.proofs.Leaving.{zero_handle, mapped_more}
use Rattle.build_owner.proofs.staying.all_items.Goals as goal

pub loop-list-init : goal.loop-list-init
loop-list-init c = ap (map serving_of) c.new-items.ensures.items

pub loop-list-preserved : goal.loop-list-preserved
loop-list-preserved c =
    let named : Handle → Bool = λ k. contains_by (same k) c.args.named.now in
    let g : Handle → Serving Redraw = λ h. serving h (left_items c.args.r.now.tree named h) in
    mapped_more g c.args.lists.now c.loop-list.list-index zero_handle (map serving_of c.loop-list.items.items) (map serving_of c.push_back.new.self.items) _ c.loop-list-test.true c.loop-list.invariant c.in_ok-items_of.ensures
    (ap (map serving_of) c.in_ok-push_back.ensures.items ∙ map-append serving_of c.loop-list.items.items _)

pub returns : goal.returns
returns c =
    let named : Handle → Bool = λ k. contains_by (same k) c.args.named.now in
    let g : Handle → Serving Redraw = λ h. serving h (left_items c.args.r.now.tree named h) in
    c.loop-list.invariant ∙ ap (map g) (take_all c.loop-list.list-index c.args.lists.now (omega (arith, c.loop-list-test.false)))

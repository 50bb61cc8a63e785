use Rattle.std.proofs.Common.{◌≡◌, Bool, map, take}
use Rattle.fx_handles.specs.declared.Handle.{Handle}
use Rattle.fx_handles.specs.Handle.{same}
use Rattle.indexmap.specs.IndexSet.{contains_by}
use Rattle.build_walk.specs.Merging.{serving}
use Rattle.build_owner.specs.MergingView.{serving_of}
use Rattle.build_owner.specs.Staying.{left_items}
use Rattle.build_owner.proofs.staying.all_items.Given as goal

abbrev pub invariant-loop-list : goal.invariant-loop-list
invariant-loop-list l =
    let named : Handle → Bool = λ k. contains_by (same k) l.named in
    map serving_of l.items.items ≡ map (λ h. serving h (left_items l.r.tree named h)) (take l.list-index l.lists)

use Rattle.std.proofs.Common.{◌≡◌, ◌+◌, ◌<◌, length, take, List, refl, sym, ap, subst, ◌∙◌}
use Rattle.std.specs.Prelude.{option_copied}
use Rattle.std.specs.List.{All}
use Rattle.fx_handles.specs.declared.Handle.{Handle}
use Rattle.node_tree.specs.Edits.{CanReorder}
use Rattle.node_tree.specs.Tree.{children_at}
use Rattle.render_tree.specs.Edits.{Reordered}
use Rattle.render_tree.specs.Tree.{RenderTree}
use Rattle.renewed_builds.specs.Taking.{handles_at}
use Rattle.frame_owner.specs.Redrawing.{HasOrdered}
use Rattle.frame_owner.proofs.Ordered.{none_ordered, can_now, none_more, one_more}
use Rattle.frame_owner.proofs.redrawing.put_orders.Goals as goal
use Rattle.frame_owner.proofs.redrawing.put_orders.Goals.{in-Some+in_ok-children, in_default}

pub loop-change-init : goal.loop-change-init
loop-change-init c = (none_ordered c.args.r.now.tree, refl, refl)

pub at_places-requires : goal.at_places-requires
at_places-requires c =
    let places = c.in-Some.places.now in
    let change = c.change-item.result in
    let old = c.args.r.now.tree in
    let a = c.loop-change.r.tree in
    let can = can_now c.args.changes.now c.loop-change.change-index change old a c.requires.once c.loop-change-test.true c.change-item.is c.loop-change.invariant.0 c.requires.orders places
    (sym c.order.ensures ∙ ap option_copied c.in-Some.is) in
    subst (λ hs. All (λ j. j < length hs) places) (sym (c.children.ensures.value ∙ ap (children_at a) c.at-at.ensures)) can.0

pub reorder_unmarked-requires : goal.reorder_unmarked-requires
reorder_unmarked-requires c =
    let places = c.in-Some.places.now in
    let change = c.change-item.result in
    let old = c.args.r.now.tree in
    let a = c.loop-change.r.tree in
    let can = can_now c.args.changes.now c.loop-change.change-index change old a c.requires.once c.loop-change-test.true c.change-item.is c.loop-change.invariant.0 c.requires.orders places
    (sym c.order.ensures ∙ ap option_copied c.in-Some.is) in
    let list = c.in_ok-children.ensures ∙ ap (λ hs. handles_at hs places) (c.children.ensures.value ∙ ap (children_at a) c.at-at.ensures) in
    subst (λ k. CanReorder a k c.in_ok-children.children.items) (sym c.at-at.ensures) (subst (λ hs. CanReorder a change.at hs) (sym list) can.1)

pub loop-change-preserved : goal.loop-change-preserved
loop-change-preserved c =
    let cs = c.args.changes.now in
    let i = c.loop-change.change-index in
    let change = c.change-item.result in
    let old = c.args.r.now.tree in
    let a = c.loop-change.r.tree in
    let so_far = c.loop-change.invariant in
    elim c.match-order.branch [
      | in-Some+in_ok-children w ↦
          let places = w.in-Some.places.now in
          let b = w.reorder_unmarked.new.self.tree in
          let put = w.reorder_unmarked.ensures in
          let list : w.in_ok-children.children.items ≡ handles_at (children_at a change.at) places =
          w.in_ok-children.ensures ∙ ap (λ hs. handles_at hs places) (w.children.ensures.value ∙ ap (children_at a) w.at-at.ensures) in
          let moved = subst (λ (hs : List Handle). Reordered a b change.at hs) list (subst (λ k. Reordered a b k w.in_ok-children.children.items) w.at-at.ensures put.reordered) in
          let more = one_more cs i change old a c.requires.once c.loop-change-test.true c.change-item.is so_far.0 b places (sym c.order.ensures ∙ ap option_copied w.in-Some.is) moved in
          subst (λ (r : RenderTree). HasOrdered (take (i + 1) cs) old r.tree × (r.scale ≡ c.args.r.now.scale) × (r.spent ≡ c.args.r.now.spent)) (sym w.r-is) (more, put.scale ∙ so_far.1, put.spent ∙ so_far.2)
      | in_default w ↦
          let same = none_more cs i change old a c.requires.once c.loop-change-test.true c.change-item.is so_far.0 (sym c.order.ensures ∙ ap option_copied w.in_default.is) in
          subst (λ (r : RenderTree). HasOrdered (take (i + 1) cs) old r.tree × (r.scale ≡ c.args.r.now.scale) × (r.spent ≡ c.args.r.now.spent)) (sym w.r-is) (same, so_far.1, so_far.2)
    ]

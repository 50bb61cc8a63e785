use Rattle.std.proofs.Common.{true, sym, subst, ◌∙◌}
use Rattle.std.specs.List.{All}
use Rattle.node_tree.specs.Tree.{IsNode}
use Rattle.render_tree.specs.Changes.{LaidAnew, PaintedAnew}
use Rattle.render_tree.specs.Marked.{SetsMarks}
use Rattle.render_tree.specs.Marks.{layout_marks, paint_marks}
use Rattle.frame_owner.proofs.Ordered.{orders_then, changes_all, is_after}
use Rattle.frame_owner.proofs.Taking.{laid_there, painted_there, still_there, takes_widgets}
use Rattle.frame_owner.proofs.redrawing.redraw.Goals as goal

pub put_orders-requires-clause-orders : goal.put_orders-requires-clause-orders
put_orders-requires-clause-orders c = orders_then c.args.changes.now c.args.r.now.tree c.put_widgets.new.r.tree c.in_ok-put_widgets.ensures.taken c.requires.changes.orders

pub mark_layouts-requires : goal.mark_layouts-requires
mark_layouts-requires c =
    let old = c.args.r.now.tree in
    let mid = c.put_widgets.new.r.tree in
    let now = c.put_orders.new.r.tree in
    let cs = c.args.changes.now in
    let changes = changes_all cs old mid c.in_ok-put_widgets.ensures.taken now c.in_ok-put_orders.ensures.ordered in
    let anew =
    subst (λ l. LaidAnew old old.root l c.in_ok-laid.laid.items) (c.as_slice.ensures.value ∙ c.in_ok-plan.ensures)
    (subst (λ q. LaidAnew old q c.as_slice.result.now c.in_ok-laid.laid.items) c.root-root.ensures.value c.in_ok-laid.ensures) in
    subst (λ hs. All (IsNode now) hs) (sym c.as_slice-3.ensures.value) (laid_there cs old now c.requires.stands c.requires.changes changes c.in_ok-laid.laid.items anew)

pub mark_paints-requires : goal.mark_paints-requires
mark_paints-requires c =
    let old = c.args.r.now.tree in
    let mid = c.put_widgets.new.r.tree in
    let now = c.put_orders.new.r.tree in
    let cs = c.args.changes.now in
    let changes = changes_all cs old mid c.in_ok-put_widgets.ensures.taken now c.in_ok-put_orders.ensures.ordered in
    let anew =
    subst (λ l. PaintedAnew old old.root l c.in_ok-painted.painted.items) (c.as_slice-2.ensures.value ∙ c.in_ok-plan.ensures)
    (subst (λ q. PaintedAnew old q c.as_slice-2.result.now c.in_ok-painted.painted.items) c.root-root.ensures.value c.in_ok-painted.ensures) in
    subst (λ hs. All (IsNode c.mark_layouts.new.self.tree) hs) (sym c.as_slice-4.ensures.value)
    (still_there layout_marks true c.as_slice-3.result.now c.in_ok-painted.painted.items now c.mark_layouts.new.self.tree c.mark_layouts.ensures.sets
    (painted_there cs old now c.requires.stands c.requires.changes changes c.in_ok-painted.painted.items anew))

pub returns-clause-takes : goal.returns-clause-takes
returns-clause-takes c =
    let old = c.args.r.now.tree in
    let mid = c.put_widgets.new.r.tree in
    let now = c.put_orders.new.r.tree in
    let cs = c.args.changes.now in
    let changes = changes_all cs old mid c.in_ok-put_widgets.ensures.taken now c.in_ok-put_orders.ensures.ordered in
    let laid_marked = c.mark_layouts.new.self.tree in
    let new = c.mark_paints.new.self.tree in
    let laid = c.in_ok-laid.laid.items in
    let painted = c.in_ok-painted.painted.items in
    takes_widgets cs old now laid_marked new c.requires.stands c.requires.changes changes
    (is_after cs old mid c.in_ok-put_widgets.ensures.taken now c.in_ok-put_orders.ensures.ordered c.requires.changes.orders c.requires.stands.tree.0 c.requires.stands.tree.1) laid painted
    (subst (λ l. LaidAnew old old.root l laid) (c.as_slice.ensures.value ∙ c.in_ok-plan.ensures) (subst (λ q. LaidAnew old q c.as_slice.result.now laid) c.root-root.ensures.value c.in_ok-laid.ensures))
    (subst (λ l. PaintedAnew old old.root l painted) (c.as_slice-2.ensures.value ∙ c.in_ok-plan.ensures) (subst (λ q. PaintedAnew old q c.as_slice-2.result.now painted) c.root-root.ensures.value c.in_ok-painted.ensures))
    (subst (λ hs. SetsMarks layout_marks true hs now laid_marked) c.as_slice-3.ensures.value c.mark_layouts.ensures.sets)
    (subst (λ hs. SetsMarks paint_marks true hs laid_marked new) c.as_slice-4.ensures.value c.mark_paints.ensures.sets)

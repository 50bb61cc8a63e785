use Rattle.std.proofs.Common.{◌≡◌, ◌++◌, ◌∷◌, [], List, Some, true, get_or, Ok, refl, sym, ap, ◌∙◌, subst}
use Rattle.std.specs.List.{All}
use Rattle.fx_handles.specs.Handle.{AreDistinct}
use Rattle.node_tree.specs.Forest.{Forest, below}
use Rattle.node_tree.specs.Tree.{Is, subtree_at}
use Rattle.node_tree.proofs.Children.{below-stands}
use Rattle.widget_model.specs.Plain.{PlainWidget}
use Rattle.widget_model.specs.View.{shared}
use Rattle.element_tree.specs.Element.{Element as ElementOf}
use Rattle.renewed_builds.specs.declared.taking.Moved.{Moved}
use Rattle.renewed_builds.specs.Renewing.{Change, can_take_drawn, changes_of, moves_of}
use Rattle.renewed_builds.specs.Taking.{FollowsChange, CanOrder, OrdersAll, WritesAll, after_changes, after_moves, can_take_first, changes_first, moves_first}
use Rattle.renewed_builds.proofs.Changing.{zero_handle}
use Rattle.renewed_builds.proofs.Seen.{elements_of}
use Rattle.renewed_builds.proofs.Took.{one_below, none_or_more, child_own, child_can, child_changes, child_moves, orders_then, rows_order, rows_differ, all_written, all_taken}
use Rattle.renewed_builds.proofs.Whole.{at_tree, all_follow}
use Rattle.renewed_builds.proofs.taking.take_below.Goals as goal

pub returns-then-children-ne1-clause-refused : goal.returns-then-children-ne1-clause-refused
returns-then-children-ne1-clause-refused c = λ is. (
  refl,
  λ f is_f.
      let t = c.args.t.now.tree in
      let h = c.args.h in
      let w : PlainWidget = shared c.args.given.now in
      let holds = c.walk_laws.ensures.holds t h c.root.ensures.tree c.requires.live in
      (at_tree h (w ∷ []) f is_f.distinct (is_f.whole h c.requires.live)).0
      ∙ ap (λ (s : Forest ElementOf). can_take_drawn (below s) (w ∷ [])) (sym (c.walk_laws.ensures.part t f h is_f c.requires.live))
      ∙ none_or_more t h c.children-children.result.now w holds c.children-children.ensures.value c.if-children-ne1.true,
)

pub returns-then-not-branch-clause-refused : goal.returns-then-not-branch-clause-refused
returns-then-not-branch-clause-refused c = λ is. (
  refl,
  λ f is_f.
      let t = c.args.t.now.tree in
      let h = c.args.h in
      let w : PlainWidget = shared c.args.given.now in
      let hs = c.children-children.result.now in
      let holds = c.walk_laws.ensures.holds t h c.root.ensures.tree c.requires.live in
      let k = get_or hs 0 zero_handle in
      let one = one_below t h hs holds c.children-children.ensures.value c.if-children-ne1.false in
      let low = below (subtree_at t h) in
      (at_tree h (w ∷ []) f is_f.distinct (is_f.whole h c.requires.live)).0
      ∙ ap (λ (s : Forest ElementOf). can_take_drawn (below s) (w ∷ [])) (sym (c.walk_laws.ensures.part t f h is_f c.requires.live))
      ∙ child_can t h k one w ∙ sym c.in_ok-gather.ensures.can ∙ c.if-not-branch.true,
)

pub write_changes-requires : goal.write_changes-requires
write_changes-requires c =
    let t = c.args.t.now.tree in
    let h = c.args.h in
    let w : PlainWidget = shared c.args.given.now in
    let hs = c.children-children.result.now in
    let holds = c.walk_laws.ensures.holds t h c.root.ensures.tree c.requires.live in
    let k = get_or hs 0 zero_handle in
    let one = one_below t h hs holds c.children-children.ensures.value c.if-children-ne1.false in
    let low = below (subtree_at t h) in
    let can : can_take_first (subtree_at t k) w ≡ true = sym c.in_ok-gather.ensures.can ∙ c.if-not-branch.false in
    let ok = ap Ok c.if-not-branch.false in
    let changes : c.gather.new.changes.items ≡ changes_of low (w ∷ []) =
    c.in_ok-gather.ensures.changes ok ∙ ap (λ l. l ++ changes_first (subtree_at t k) w) c.new-changes.ensures.items ∙ sym (child_changes t h k one w can) in
    let drawn = child_can t h k one w ∙ can in
    let below_h = below-stands t h holds in
    subst (All (FollowsChange t)) (sym (c.as_slice.ensures.value ∙ changes)) (all_follow t (Some h) low (w ∷ []) below_h.0 drawn)

pub write_orders-requires-clause-orders : goal.write_orders-requires-clause-orders
write_orders-requires-clause-orders c =
    let t = c.args.t.now.tree in
    let h = c.args.h in
    let w : PlainWidget = shared c.args.given.now in
    let hs = c.children-children.result.now in
    let holds = c.walk_laws.ensures.holds t h c.root.ensures.tree c.requires.live in
    let k = get_or hs 0 zero_handle in
    let one = one_below t h hs holds c.children-children.ensures.value c.if-children-ne1.false in
    let low = below (subtree_at t h) in
    let can : can_take_first (subtree_at t k) w ≡ true = sym c.in_ok-gather.ensures.can ∙ c.if-not-branch.false in
    let ok = ap Ok c.if-not-branch.false in
    let changes : c.gather.new.changes.items ≡ changes_of low (w ∷ []) =
    c.in_ok-gather.ensures.changes ok ∙ ap (λ l. l ++ changes_first (subtree_at t k) w) c.new-changes.ensures.items ∙ sym (child_changes t h k one w can) in
    let drawn = child_can t h k one w ∙ can in
    let below_h = below-stands t h holds in
    let a = c.write_changes.new.t.tree in
    let b = c.write_places.new.t.tree in
    let orders = rows_order t c.order_laws.ensures.same (Some h) low (w ∷ []) below_h.0 below_h.2 drawn in
    let cs = c.gather.new.changes.items in
    let all : All (CanOrder t) cs = subst (All (CanOrder t)) (sym changes) orders in
    let wrote = subst (λ l. WritesAll (after_changes l) t a) c.as_slice.ensures.value c.in_ok-write_changes.ensures in
    subst (All (CanOrder b)) (sym c.as_slice-3.ensures.value) (orders_then (after_moves c.as_slice-2.result.now) a b c.write_places.ensures cs (orders_then (after_changes cs) t a wrote cs all))

pub write_orders-requires-clause-differ : goal.write_orders-requires-clause-differ
write_orders-requires-clause-differ c =
    let t = c.args.t.now.tree in
    let h = c.args.h in
    let w : PlainWidget = shared c.args.given.now in
    let hs = c.children-children.result.now in
    let holds = c.walk_laws.ensures.holds t h c.root.ensures.tree c.requires.live in
    let k = get_or hs 0 zero_handle in
    let one = one_below t h hs holds c.children-children.ensures.value c.if-children-ne1.false in
    let low = below (subtree_at t h) in
    let can : can_take_first (subtree_at t k) w ≡ true = sym c.in_ok-gather.ensures.can ∙ c.if-not-branch.false in
    let ok = ap Ok c.if-not-branch.false in
    let changes : c.gather.new.changes.items ≡ changes_of low (w ∷ []) =
    c.in_ok-gather.ensures.changes ok ∙ ap (λ l. l ++ changes_first (subtree_at t k) w) c.new-changes.ensures.items ∙ sym (child_changes t h k one w can) in
    let drawn = child_can t h k one w ∙ can in
    let below_h = below-stands t h holds in
    subst (λ l. AreDistinct (elements_of l)) (sym (c.as_slice-3.ensures.value ∙ changes)) (rows_differ low (w ∷ []) below_h.2 drawn)

pub returns-clause-taken : goal.returns-clause-taken
returns-clause-taken c = λ f is_f.
    let t = c.args.t.now.tree in
    let h = c.args.h in
    let w : PlainWidget = shared c.args.given.now in
    let hs = c.children-children.result.now in
    let holds = c.walk_laws.ensures.holds t h c.root.ensures.tree c.requires.live in
    let k = get_or hs 0 zero_handle in
    let one = one_below t h hs holds c.children-children.ensures.value c.if-children-ne1.false in
    let low = below (subtree_at t h) in
    let can : can_take_first (subtree_at t k) w ≡ true = sym c.in_ok-gather.ensures.can ∙ c.if-not-branch.false in
    let ok = ap Ok c.if-not-branch.false in
    let changes : c.gather.new.changes.items ≡ changes_of low (w ∷ []) =
    c.in_ok-gather.ensures.changes ok ∙ ap (λ l. l ++ changes_first (subtree_at t k) w) c.new-changes.ensures.items ∙ sym (child_changes t h k one w can) in
    let drawn = child_can t h k one w ∙ can in
    let below_h = below-stands t h holds in
    let a = c.write_changes.new.t.tree in
    let b = c.write_places.new.t.tree in
    let orders = rows_order t c.order_laws.ensures.same (Some h) low (w ∷ []) below_h.0 below_h.2 drawn in
    let cs = c.gather.new.changes.items in
    let all : All (CanOrder t) cs = subst (All (CanOrder t)) (sym changes) orders in
    let u = c.write_orders.new.t.tree in
    let ms = c.gather.new.moves.items in
    let moves : ms ≡ moves_of low (w ∷ []) =
    c.in_ok-gather.ensures.moves ok ∙ ap (λ l. l ++ moves_first (subtree_at t k) w) c.new-moves.ensures.items ∙ sym (child_moves t h k one w can) in
    let wrote = subst (λ l. WritesAll (after_changes l) t a) c.as_slice.ensures.value c.in_ok-write_changes.ensures in
    let placed = subst (λ l. WritesAll (after_moves l) a b) c.as_slice-2.ensures.value c.write_places.ensures in
    let ordered = subst (λ l. OrdersAll l b u) c.as_slice-3.ensures.value c.in_ok-write_orders.ensures in
    let then_is = all_written t a b u cs ms wrote placed ordered all c.keep_laws.ensures.maps c.order_laws.ensures.all c.order_laws.ensures.places f is_f in
    all_taken t u h k one w cs ms f holds is_f (is_f.whole h c.requires.live) (c.walk_laws.ensures.part t f h is_f c.requires.live) c.requires.own c.requires.order can changes moves then_is

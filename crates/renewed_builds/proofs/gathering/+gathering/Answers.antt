use Rattle.std.proofs.Common.{rules, ◌≡◌, ◌+◌, ◌<◌, ◌++◌, ◌∷◌, [], Some, Ok, ℕ, drop, map, length, get_or, option_map, refl, sym, ap, ◌∙◌, subst, arith}
use Rattle.std.specs.List.{All}
use Rattle.std.proofs.lemmas.List.{drop_all, length-map}
use Rattle.std.proofs.lemmas.Result.{IfOk-weaker}
use Rattle.fx_handles.specs.declared.Handle.{Handle}
use Rattle.node_tree.proofs.Children.{among_at}
use Rattle.node_tree.specs.Forest.{below, size}
use Rattle.node_tree.specs.Tree.{children_at, subtree_at}
use Rattle.widget_model.specs.declared.widgets.Widget.{Widget}
use Rattle.widget_model.specs.Plain.{PlainWidget, children_of as child_widgets}
use Rattle.widget_model.specs.PlainLaws.{list_of-widgets_of}
use Rattle.widget_model.specs.Update.{updates}
use Rattle.widget_model.specs.View.{look_in, plain_of, shared}
use Rattle.reconcile.specs.Keys.{NoKeyRepeats}
use Rattle.element_tree.specs.Element.{Element as ElementOf, element_at}
use Rattle.work_sets.specs.Members.{is_same_widget}
use Rattle.settled_builds.specs.Retaken.{all_asked, can_follow_all, gathered}
use Rattle.renewed_builds.specs.Renewing.{draws_its_own, each_can_take, each_changing, each_moving}
use Rattle.renewed_builds.specs.Taking.{FollowAt}
use Rattle.renewed_builds.proofs.Changing.{zero_handle, Misses, misses_first, misses_second, misses_third, one_same, one_refused, none_changed, none_moved, one_undrawn, own_apart, own_below, own_widgets, own_many, nth_widget, one_unmatched, low_places, matched_many, takes_below, takes_changes, takes_moves, nth_of, own_nth, next_widget, next_place, stops_here, goes_on, one_more, moved_more, none_left, all_gathered}
use Rattle.renewed_builds.proofs.gathering.+gathering.Goals as goal
use Rattle.renewed_builds.proofs.gathering.+gathering.Goals.{gather_from-then-not-can_update-via-then-not-can_update, gather_from-then-not-can_update-via-else-not-can_update+then-not-draws_its_own, gather_from-then-not-can_update-via-else-not-can_update+else-not-draws_its_own+then-not-draws_its_own-2}

pub gather_from-returns-then-is_same-clause-can : goal.gather_from-returns-then-is_same-clause-can
gather_from-returns-then-is_same-clause-can t c =
    let tree = c.args.t.now.tree in
    let v : PlainWidget = plain_of c.args.was.now.value in
    let w : PlainWidget = plain_of c.args.widget.now.value in
    let said : Some v ≡ option_map (λ (e : ElementOf). e.widget) (element_at tree c.args.h) = sym c.requires.was in
    one_same tree c.args.h c.requires.holds v w said ((λ i. is_same_widget (plain_of (sym c.deref.ensures i)) (plain_of (sym c.deref-2.ensures i))) ∙ sym c.is_same.ensures ∙ c.if-is_same.true)

pub gather_from-returns-then-is_same-clause-changes : goal.gather_from-returns-then-is_same-clause-changes
gather_from-returns-then-is_same-clause-changes t c = λ ok.
    let tree = c.args.t.now.tree in
    let v : PlainWidget = plain_of c.args.was.now.value in
    let w : PlainWidget = plain_of c.args.widget.now.value in
    let said : Some v ≡ option_map (λ (e : ElementOf). e.widget) (element_at tree c.args.h) = sym c.requires.was in
    none_changed tree c.args.h c.requires.holds v w said ((λ i. is_same_widget (plain_of (sym c.deref.ensures i)) (plain_of (sym c.deref-2.ensures i))) ∙ sym c.is_same.ensures ∙ c.if-is_same.true) c.args.changes.now.items

pub gather_from-returns-then-is_same-clause-moves : goal.gather_from-returns-then-is_same-clause-moves
gather_from-returns-then-is_same-clause-moves t c = λ ok.
    let tree = c.args.t.now.tree in
    let v : PlainWidget = plain_of c.args.was.now.value in
    let w : PlainWidget = plain_of c.args.widget.now.value in
    let said : Some v ≡ option_map (λ (e : ElementOf). e.widget) (element_at tree c.args.h) = sym c.requires.was in
    none_moved tree c.args.h c.requires.holds v w said ((λ i. is_same_widget (plain_of (sym c.deref.ensures i)) (plain_of (sym c.deref-2.ensures i))) ∙ sym c.is_same.ensures ∙ c.if-is_same.true) c.args.moves.now.items

pub gather_from-returns-then-not-can_update-clause-can : goal.gather_from-returns-then-not-can_update-clause-can
gather_from-returns-then-not-can_update-clause-can t c =
    let tree = c.args.t.now.tree in
    let v : PlainWidget = plain_of c.args.was.now.value in
    let w : PlainWidget = plain_of c.args.widget.now.value in
    let said : Some v ≡ option_map (λ (e : ElementOf). e.widget) (element_at tree c.args.h) = sym c.requires.was in
    let miss : Misses v w = elim c.then-not-can_update.branch [
      | gather_from-then-not-can_update-via-then-not-can_update x ↦
          misses_first v w ((λ i. updates (plain_of (sym c.deref-3.ensures i)) (plain_of (sym c.deref-4.ensures i))) ∙ sym c.can_update.ensures.test ∙ x.if-not-can_update.true)
      | gather_from-then-not-can_update-via-else-not-can_update+then-not-draws_its_own x ↦
          misses_second v w (ap (λ z. draws_its_own (look_in z.kind)) (sym x.deref-else-not-can_update.ensures) ∙ sym x.draws_its_own.ensures ∙ x.if-not-draws_its_own.true)
      | gather_from-then-not-can_update-via-else-not-can_update+else-not-draws_its_own+then-not-draws_its_own-2 x ↦
          misses_third v w (ap (λ z. draws_its_own (look_in z.kind)) (sym x.deref-else-not-draws_its_own.ensures) ∙ sym x.draws_its_own-else-not-draws_its_own.ensures ∙ x.if-not-draws_its_own-2.true)
    ] in
    one_refused tree c.args.h c.requires.holds v w said ((λ i. is_same_widget (plain_of (sym c.deref.ensures i)) (plain_of (sym c.deref-2.ensures i))) ∙ sym c.is_same.ensures ∙ c.if-is_same.false) miss

pub gather_from-returns-in_default-clause-can : goal.gather_from-returns-in_default-clause-can
gather_from-returns-in_default-clause-can t c =
    let tree = c.args.t.now.tree in
    let v : PlainWidget = plain_of c.args.was.now.value in
    let w : PlainWidget = plain_of c.args.widget.now.value in
    let said : Some v ≡ option_map (λ (e : ElementOf). e.widget) (element_at tree c.args.h) = sym c.requires.was in
    one_undrawn tree c.args.h c.requires.holds v w said ((λ i. is_same_widget (plain_of (sym c.deref.ensures i)) (plain_of (sym c.deref-2.ensures i))) ∙ sym c.is_same.ensures ∙ c.if-is_same.false) (sym c.in_default.is ∙ c.render.ensures)

pub gather_from-places_among-requires : goal.gather_from-places_among-requires
gather_from-places_among-requires t c =
    let tree = c.args.t.now.tree in
    let v : PlainWidget = plain_of c.args.was.now.value in
    let w : PlainWidget = plain_of c.args.widget.now.value in
    let said : Some v ≡ option_map (λ (e : ElementOf). e.widget) (element_at tree c.args.h) = sym c.requires.was in
    let was = ap (λ z. draws_its_own (look_in z.kind)) (sym c.deref-else-not-can_update.ensures) ∙ sym c.draws_its_own.ensures ∙ c.if-not-draws_its_own.false in
    let had = c.get.ensures.widgets ∙ sym (list_of-widgets_of c.deref-5.result.now.children) ∙ ap (λ (z : Widget). child_widgets (plain_of z)) c.deref-5.ensures in
    subst NoKeyRepeats (sym had) (own_apart tree c.args.h c.requires.holds v w said c.requires.own was)

pub gather_from-returns-in_default-2-clause-can : goal.gather_from-returns-in_default-2-clause-can
gather_from-returns-in_default-2-clause-can t c =
    let tree = c.args.t.now.tree in
    let v : PlainWidget = plain_of c.args.was.now.value in
    let w : PlainWidget = plain_of c.args.widget.now.value in
    let said : Some v ≡ option_map (λ (e : ElementOf). e.widget) (element_at tree c.args.h) = sym c.requires.was in
    let was = ap (λ z. draws_its_own (look_in z.kind)) (sym c.deref-else-not-can_update.ensures) ∙ sym c.draws_its_own.ensures ∙ c.if-not-draws_its_own.false in
    let had = c.get.ensures.widgets ∙ sym (list_of-widgets_of c.deref-5.result.now.children) ∙ ap (λ (z : Widget). child_widgets (plain_of z)) c.deref-5.ensures in
    let has = c.get-2.ensures.widgets ∙ sym (list_of-widgets_of c.deref-6.result.now.children) ∙ ap (λ (z : Widget). child_widgets (plain_of z)) c.deref-6.ensures in
    one_unmatched tree c.args.h c.requires.holds v w said c.requires.own was ((λ i. is_same_widget (plain_of (sym c.deref.ensures i)) (plain_of (sym c.deref-2.ensures i))) ∙ sym c.is_same.ensures ∙ c.if-is_same.false)
    (λ cans. (λ i. can_follow_all (sym had i) (sym has i) cans) ∙ c.places_among.ensures.none (c.in_ok-places.was ∙ ap Ok c.in_default-2.is) cans)

pub gather_from-gather_below-requires : goal.gather_from-gather_below-requires
gather_from-gather_below-requires t c =
    let tree = c.args.t.now.tree in
    let v : PlainWidget = plain_of c.args.was.now.value in
    let w : PlainWidget = plain_of c.args.widget.now.value in
    let said : Some v ≡ option_map (λ (e : ElementOf). e.widget) (element_at tree c.args.h) = sym c.requires.was in
    let was = ap (λ z. draws_its_own (look_in z.kind)) (sym c.deref-else-not-can_update.ensures) ∙ sym c.draws_its_own.ensures ∙ c.if-not-draws_its_own.false in
    let had = c.get.ensures.widgets ∙ sym (list_of-widgets_of c.deref-5.result.now.children) ∙ ap (λ (z : Widget). child_widgets (plain_of z)) c.deref-5.ensures in
    let has = c.get-2.ensures.widgets ∙ sym (list_of-widgets_of c.deref-6.result.now.children) ∙ ap (λ (z : Widget). child_widgets (plain_of z)) c.deref-6.ensures in
    let gets = c.get-4.ensures.widgets ∙ sym (list_of-widgets_of c.deref-8.result.now.children) ∙ ap (λ (z : Widget). child_widgets (plain_of z)) c.deref-8.ensures in
    let had_3 = c.get-3.ensures.widgets ∙ sym (list_of-widgets_of c.deref-7.result.now.children) ∙ ap (λ (z : Widget). child_widgets (plain_of z)) c.deref-7.ensures in
    let js = c.in-Some-2.places.items in
    let follow_raw : FollowAt (map shared c.get.result.now) (map shared c.get-2.result.now) js = rw c.in-Some-2.is at c.in_ok-places.ensures.some in
    let follows : FollowAt (child_widgets v) (child_widgets w) js = subst (λ l. FollowAt l (child_widgets w) js) had (subst (λ l. FollowAt (map shared c.get.result.now) l js) has follow_raw) in
    let update = (λ i. updates (plain_of (sym c.deref-3.ensures i)) (plain_of (sym c.deref-4.ensures i))) ∙ sym c.can_update.ensures.test ∙ c.if-not-can_update.false in
    let now = ap (λ z. draws_its_own (look_in z.kind)) (sym c.deref-else-not-draws_its_own.ensures) ∙ sym c.draws_its_own-else-not-draws_its_own.ensures ∙ c.if-not-draws_its_own-2.false in
    let other = ((λ i. is_same_widget (plain_of (sym c.deref.ensures i)) (plain_of (sym c.deref-2.ensures i))) ∙ sym c.is_same.ensures ∙ c.if-is_same.false) in
    let d = c.decreases in
    let long_had : length c.get-3.result.now ≡ length (child_widgets v) = let l : length (map shared c.get-3.result.now) ≡ length c.get-3.result.now = simp length-map in sym l ∙ ap length had_3 in
    let long : length (map shared c.get-4.result.now) ≡ length c.get-4.result.now = simp length-map in (
      omega (arith, d),
      (
        c.requires.holds,
        (own_below tree c.args.h c.requires.holds v w said c.requires.own was, (own_widgets tree c.args.h c.requires.holds v w said c.requires.own was ∙ sym had_3, (long_had ∙ own_many tree c.args.h c.requires.holds v w said c.requires.own was, (ap length c.as_slice.ensures.value ∙ matched_many (child_widgets v) (child_widgets w) js follows.matched ∙ sym (ap length gets) ∙ long, subst (λ l. All (λ j. j < length (children_at tree c.args.h)) l) (sym c.as_slice.ensures.value) (low_places tree c.args.h c.requires.holds v w said c.requires.own was other update now c.in-Some.at (sym c.in-Some.is ∙ c.render.ensures) js follows))))),
      ),
    )

pub gather_from-returns-clause-can : goal.gather_from-returns-clause-can
gather_from-returns-clause-can t c =
    let tree = c.args.t.now.tree in
    let v : PlainWidget = plain_of c.args.was.now.value in
    let w : PlainWidget = plain_of c.args.widget.now.value in
    let said : Some v ≡ option_map (λ (e : ElementOf). e.widget) (element_at tree c.args.h) = sym c.requires.was in
    let was = ap (λ z. draws_its_own (look_in z.kind)) (sym c.deref-else-not-can_update.ensures) ∙ sym c.draws_its_own.ensures ∙ c.if-not-draws_its_own.false in
    let had = c.get.ensures.widgets ∙ sym (list_of-widgets_of c.deref-5.result.now.children) ∙ ap (λ (z : Widget). child_widgets (plain_of z)) c.deref-5.ensures in
    let has = c.get-2.ensures.widgets ∙ sym (list_of-widgets_of c.deref-6.result.now.children) ∙ ap (λ (z : Widget). child_widgets (plain_of z)) c.deref-6.ensures in
    let gets = c.get-4.ensures.widgets ∙ sym (list_of-widgets_of c.deref-8.result.now.children) ∙ ap (λ (z : Widget). child_widgets (plain_of z)) c.deref-8.ensures in
    let js = c.in-Some-2.places.items in
    let follow_raw : FollowAt (map shared c.get.result.now) (map shared c.get-2.result.now) js = rw c.in-Some-2.is at c.in_ok-places.ensures.some in
    let follows : FollowAt (child_widgets v) (child_widgets w) js = subst (λ l. FollowAt l (child_widgets w) js) had (subst (λ l. FollowAt (map shared c.get.result.now) l js) has follow_raw) in
    let update = (λ i. updates (plain_of (sym c.deref-3.ensures i)) (plain_of (sym c.deref-4.ensures i))) ∙ sym c.can_update.ensures.test ∙ c.if-not-can_update.false in
    let now = ap (λ z. draws_its_own (look_in z.kind)) (sym c.deref-else-not-draws_its_own.ensures) ∙ sym c.draws_its_own-else-not-draws_its_own.ensures ∙ c.if-not-draws_its_own-2.false in
    let other = ((λ i. is_same_widget (plain_of (sym c.deref.ensures i)) (plain_of (sym c.deref-2.ensures i))) ∙ sym c.is_same.ensures ∙ c.if-is_same.false) in
    IfOk-weaker c.gather_below.result _ _ (λ can is. is ∙ (λ i. all_asked (each_can_take (below (subtree_at tree c.args.h))) (gets i) (map (λ j. Some j) (c.as_slice.ensures.value i))) ∙ sym (takes_below tree c.args.h c.requires.holds v w said c.requires.own was other update now c.in-Some.at (sym c.in-Some.is ∙ c.render.ensures) js follows)) c.gather_below.ensures.can

pub gather_from-returns-clause-changes : goal.gather_from-returns-clause-changes
gather_from-returns-clause-changes t c = λ ok.
    let tree = c.args.t.now.tree in
    let v : PlainWidget = plain_of c.args.was.now.value in
    let w : PlainWidget = plain_of c.args.widget.now.value in
    let said : Some v ≡ option_map (λ (e : ElementOf). e.widget) (element_at tree c.args.h) = sym c.requires.was in
    let was = ap (λ z. draws_its_own (look_in z.kind)) (sym c.deref-else-not-can_update.ensures) ∙ sym c.draws_its_own.ensures ∙ c.if-not-draws_its_own.false in
    let had = c.get.ensures.widgets ∙ sym (list_of-widgets_of c.deref-5.result.now.children) ∙ ap (λ (z : Widget). child_widgets (plain_of z)) c.deref-5.ensures in
    let has = c.get-2.ensures.widgets ∙ sym (list_of-widgets_of c.deref-6.result.now.children) ∙ ap (λ (z : Widget). child_widgets (plain_of z)) c.deref-6.ensures in
    let gets = c.get-4.ensures.widgets ∙ sym (list_of-widgets_of c.deref-8.result.now.children) ∙ ap (λ (z : Widget). child_widgets (plain_of z)) c.deref-8.ensures in
    let js = c.in-Some-2.places.items in
    let follow_raw : FollowAt (map shared c.get.result.now) (map shared c.get-2.result.now) js = rw c.in-Some-2.is at c.in_ok-places.ensures.some in
    let follows : FollowAt (child_widgets v) (child_widgets w) js = subst (λ l. FollowAt l (child_widgets w) js) had (subst (λ l. FollowAt (map shared c.get.result.now) l js) has follow_raw) in
    let update = (λ i. updates (plain_of (sym c.deref-3.ensures i)) (plain_of (sym c.deref-4.ensures i))) ∙ sym c.can_update.ensures.test ∙ c.if-not-can_update.false in
    let now = ap (λ z. draws_its_own (look_in z.kind)) (sym c.deref-else-not-draws_its_own.ensures) ∙ sym c.draws_its_own-else-not-draws_its_own.ensures ∙ c.if-not-draws_its_own-2.false in
    let other = ((λ i. is_same_widget (plain_of (sym c.deref.ensures i)) (plain_of (sym c.deref-2.ensures i))) ∙ sym c.is_same.ensures ∙ c.if-is_same.false) in
    takes_changes tree c.args.h c.requires.holds v w said c.requires.own was other update now c.in-Some.at (sym c.in-Some.is ∙ c.render.ensures) js follows c.args.changes.now.items c.push.new.self.items c.gather_below.new.changes.items
    (c.in_ok-push.ensures.items
    ∙ ap (λ z. c.args.changes.now.items ++ record { element = c.args.h; at = c.in-Some.at; widget = plain_of z; order = option_map (λ l. l.items) c.in_ok-order.order } ∷ []) c.in_ok-clone.ensures.cases
    ∙ ap (λ z. c.args.changes.now.items ++ record { element = c.args.h; at = c.in-Some.at; widget = w; order = z } ∷ []) c.in_ok-order.ensures)
    (c.gather_below.ensures.changes ok ∙ (λ i. c.push.new.self.items ++ gathered (each_changing (below (subtree_at tree c.args.h))) 0 (gets i) (map (λ j. Some j) (c.as_slice.ensures.value i))))

pub gather_from-returns-clause-moves : goal.gather_from-returns-clause-moves
gather_from-returns-clause-moves t c = λ ok.
    let tree = c.args.t.now.tree in
    let v : PlainWidget = plain_of c.args.was.now.value in
    let w : PlainWidget = plain_of c.args.widget.now.value in
    let said : Some v ≡ option_map (λ (e : ElementOf). e.widget) (element_at tree c.args.h) = sym c.requires.was in
    let was = ap (λ z. draws_its_own (look_in z.kind)) (sym c.deref-else-not-can_update.ensures) ∙ sym c.draws_its_own.ensures ∙ c.if-not-draws_its_own.false in
    let had = c.get.ensures.widgets ∙ sym (list_of-widgets_of c.deref-5.result.now.children) ∙ ap (λ (z : Widget). child_widgets (plain_of z)) c.deref-5.ensures in
    let has = c.get-2.ensures.widgets ∙ sym (list_of-widgets_of c.deref-6.result.now.children) ∙ ap (λ (z : Widget). child_widgets (plain_of z)) c.deref-6.ensures in
    let gets = c.get-4.ensures.widgets ∙ sym (list_of-widgets_of c.deref-8.result.now.children) ∙ ap (λ (z : Widget). child_widgets (plain_of z)) c.deref-8.ensures in
    let js = c.in-Some-2.places.items in
    let follow_raw : FollowAt (map shared c.get.result.now) (map shared c.get-2.result.now) js = rw c.in-Some-2.is at c.in_ok-places.ensures.some in
    let follows : FollowAt (child_widgets v) (child_widgets w) js = subst (λ l. FollowAt l (child_widgets w) js) had (subst (λ l. FollowAt (map shared c.get.result.now) l js) has follow_raw) in
    let update = (λ i. updates (plain_of (sym c.deref-3.ensures i)) (plain_of (sym c.deref-4.ensures i))) ∙ sym c.can_update.ensures.test ∙ c.if-not-can_update.false in
    let now = ap (λ z. draws_its_own (look_in z.kind)) (sym c.deref-else-not-draws_its_own.ensures) ∙ sym c.draws_its_own-else-not-draws_its_own.ensures ∙ c.if-not-draws_its_own-2.false in
    let other = ((λ i. is_same_widget (plain_of (sym c.deref.ensures i)) (plain_of (sym c.deref-2.ensures i))) ∙ sym c.is_same.ensures ∙ c.if-is_same.false) in
    takes_moves tree c.args.h c.requires.holds v w said c.requires.own was other update now c.in-Some.at (sym c.in-Some.is ∙ c.render.ensures) js follows c.args.moves.now.items c.gather_below.new.moves.items
    (c.gather_below.ensures.moves ok ∙ (λ i. c.args.moves.now.items ++ gathered (each_moving 0 (below (subtree_at tree c.args.h))) 0 (gets i) (map (λ j. Some j) (c.as_slice.ensures.value i))))

pub gather_below-loop-i-init : goal.gather_below-loop-i-init
gather_below-loop-i-init t c =
    (refl, refl, refl)

pub gather_below-gather_from-requires : goal.gather_below-gather_from-requires
gather_below-gather_from-requires t c =
    let tree = c.args.t.now.tree in
    let f = below (subtree_at tree c.args.h) in
    let cs = c.children-children.result.now in
    let i = c.loop-i.i in
    let js = c.args.places.now in
    let j : ℕ = get_or js i 0 in
    let in_js : i < length js = omega (arith, c.loop-i-test.true, c.requires.many) in
    let in_cs : j < length cs = subst (λ l. j < length l) (sym c.children-children.ensures.value) (c.requires.within i 0 in_js) in
    let k : Handle = get_or cs j zero_handle in
    let n = nth_of tree c.args.h cs j c.requires.holds c.children-children.ensures.value in_cs in
    let smaller : size (subtree_at tree k) < size (subtree_at tree c.args.h) = c.children-children.ensures.smaller k (among_at cs j zero_handle in_cs) in
    let d = c.decreases in
    let in_had : j < length c.args.had.now = omega (arith, in_cs, c.requires.as_many, ap length c.children-children.ensures.value) in
    (omega (arith, smaller, d), (n.holds, (own_nth tree f j k n c.requires.own, nth_widget tree f j k n c.args.had.now c.index-had-place.result c.requires.had in_had c.index-had-place.is)))

pub gather_below-returns-then-not-branch-clause-can : goal.gather_below-returns-then-not-branch-clause-can
gather_below-returns-then-not-branch-clause-can t c =
    let tree = c.args.t.now.tree in
    let f = below (subtree_at tree c.args.h) in
    let cs = c.children-children.result.now in
    let i = c.loop-i.i in
    let js = c.args.places.now in
    let j : ℕ = get_or js i 0 in
    let in_js : i < length js = omega (arith, c.loop-i-test.true, c.requires.many) in
    let in_cs : j < length cs = subst (λ l. j < length l) (sym c.children-children.ensures.value) (c.requires.within i 0 in_js) in
    let k : Handle = get_or cs j zero_handle in
    let n = nth_of tree c.args.h cs j c.requires.holds c.children-children.ensures.value in_cs in
    let r = c.index-widgets-i.result in
    let ws = map shared c.args.widgets.now in
    let ms = map (λ (x : ℕ). Some x) js in
    let at = next_widget c.args.widgets.now i r (omega (arith, c.loop-i-test.true)) c.index-widgets-i.is in
    let place = next_place js i 0 in_js in
    stops_here tree f i j k n (shared r) ws (drop (i + 1) ws) at ms (drop (i + 1) ms) place (all_asked (each_can_take f) ws ms) c.loop-i.invariant.0 c.in_ok-gather_from.field-0 c.in_ok-gather_from.ensures.can c.if-not-branch.true

pub gather_below-loop-i-preserved : goal.gather_below-loop-i-preserved
gather_below-loop-i-preserved t c =
    let tree = c.args.t.now.tree in
    let f = below (subtree_at tree c.args.h) in
    let cs = c.children-children.result.now in
    let i = c.loop-i.i in
    let js = c.args.places.now in
    let j : ℕ = get_or js i 0 in
    let in_js : i < length js = omega (arith, c.loop-i-test.true, c.requires.many) in
    let in_cs : j < length cs = subst (λ l. j < length l) (sym c.children-children.ensures.value) (c.requires.within i 0 in_js) in
    let k : Handle = get_or cs j zero_handle in
    let n = nth_of tree c.args.h cs j c.requires.holds c.children-children.ensures.value in_cs in
    let r = c.index-widgets-i.result in
    let ws = map shared c.args.widgets.now in
    let ms = map (λ (x : ℕ). Some x) js in
    let at = next_widget c.args.widgets.now i r (omega (arith, c.loop-i-test.true)) c.index-widgets-i.is in
    let place = next_place js i 0 in_js in (
      goes_on tree f i j k n (shared r) ws (drop (i + 1) ws) at ms (drop (i + 1) ms) place (all_asked (each_can_take f) ws ms) c.loop-i.invariant.0 c.in_ok-gather_from.field-0 c.in_ok-gather_from.ensures.can c.if-not-branch.false,
      one_more tree f i j k n (shared r) ws (drop (i + 1) ws) at ms (drop (i + 1) ms) place c.loop-i.changes.items c.gather_from.new.changes.items (c.args.changes.now.items ++ gathered (each_changing f) 0 ws ms) c.loop-i.invariant.1 (c.in_ok-gather_from.ensures.changes (ap Ok c.if-not-branch.false)),
      moved_more tree f i j k n (shared r) ws (drop (i + 1) ws) at ms (drop (i + 1) ms) place c.loop-i.moves.items c.add_move.new.moves.items c.gather_from.new.moves.items (c.args.moves.now.items ++ gathered (each_moving 0 f) 0 ws ms) c.loop-i.invariant.2 c.in_ok-add_move.ensures (c.in_ok-gather_from.ensures.moves (ap Ok c.if-not-branch.false)),
    )

pub gather_below-returns-clause-can : goal.gather_below-returns-clause-can
gather_below-returns-clause-can t c =
    let f = below (subtree_at c.args.t.now.tree c.args.h) in
    let ws = map shared c.args.widgets.now in
    let ms = map (λ (x : ℕ). Some x) c.args.places.now in
    let i = c.loop-i.i in
    let gone = drop_all i ws (let long : length ws ≡ length c.args.widgets.now = simp length-map in omega (arith, long, c.loop-i-test.false)) in
    none_left (each_can_take f) (drop i ws) (drop i ms) gone ∙ c.loop-i.invariant.0

pub gather_below-returns-clause-changes : goal.gather_below-returns-clause-changes
gather_below-returns-clause-changes t c = λ is.
    let f = below (subtree_at c.args.t.now.tree c.args.h) in
    let ws = map shared c.args.widgets.now in
    let ms = map (λ (x : ℕ). Some x) c.args.places.now in
    let i = c.loop-i.i in
    let gone = drop_all i ws (let long : length ws ≡ length c.args.widgets.now = simp length-map in omega (arith, long, c.loop-i-test.false)) in
    all_gathered (each_changing f) i (drop i ws) (drop i ms) c.loop-i.changes.items (c.args.changes.now.items ++ gathered (each_changing f) 0 ws ms) gone c.loop-i.invariant.1

pub gather_below-returns-clause-moves : goal.gather_below-returns-clause-moves
gather_below-returns-clause-moves t c = λ is.
    let f = below (subtree_at c.args.t.now.tree c.args.h) in
    let ws = map shared c.args.widgets.now in
    let ms = map (λ (x : ℕ). Some x) c.args.places.now in
    let i = c.loop-i.i in
    let gone = drop_all i ws (let long : length ws ≡ length c.args.widgets.now = simp length-map in omega (arith, long, c.loop-i-test.false)) in
    all_gathered (each_moving 0 f) i (drop i ws) (drop i ms) c.loop-i.moves.items (c.args.moves.now.items ++ gathered (each_moving 0 f) 0 ws ms) gone c.loop-i.invariant.2

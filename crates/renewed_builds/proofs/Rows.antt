-- Elements that take widgets where these are matched: what is gathered of them, written at their handles, makes of their forest what they become.
use Rattle.std.proofs.Common.{◌≡◌, ℕ, zero, suc, ◌+◌, ◌<◌, ◌≤◌, ◌==◌, Bool, true, false, not, ◌&&◌, ◌||◌, cond, Option, Some, None, is_some, IfSome, List, [], ◌∷◌, ◌++◌, length, map, refl, sym, ap, ◌∙◌, subst, arith}
use Rattle.std.specs.Prelude.{slice_get}
use Rattle.std.specs.List.{All}
use Rattle.std.proofs.lemmas.Bool.{and_parts, eqb-true}
use Rattle.fx_handles.specs.declared.Handle.{Handle}
use Rattle.fx_handles.specs.Handle.{same}
use Rattle.fx_handles.specs.HandleLaws.{same_self}
use Rattle.node_tree.specs.Forest.{Forest, tops, count, In, IsDistinct, append, skip, first_trees, trees_at}
use Rattle.node_tree.specs.Forest.Forest.{none, tree}
use Rattle.node_tree.proofs.ForestLemmas.{hit, hit-true}
use Rattle.widget_keys.specs.declared.keys.Key.{Key}
use Rattle.widget_model.specs.Plain.{PlainWidget, look_of, key_of}
use Rattle.widget_model.specs.Plain.{children_of as child_widgets}
use Rattle.widget_model.specs.Update.{updates}
use Rattle.reconcile.specs.Keys.{NoKeyRepeats}
use Rattle.reconcile.specs.Laws.{IsMatched}
use Rattle.reconcile.specs.Matching.{matching}
use Rattle.reconcile.proofs.LawLemmas.{length-matching, matched_once, matching_within}
use Rattle.fx_expr.specs.declared.values.Value.{Value}
use Rattle.build_form.specs.BuildRole.{build_role_of}
use Rattle.build_form.specs.Entering.{first_repeated}
use Rattle.build_form.proofs.Apart.{none_repeats}
use Rattle.element_tree.specs.Edits.{with_widget, with_index}
use Rattle.element_tree.specs.Element.{Element}
use Rattle.work_sets.specs.Members.{is_same_widget}
use Rattle.settled_builds.specs.Retaken.{gathered_by, gathered_at, gathered, asked_by, asked_at, all_asked, are_apart, can_follow_all}
use Rattle.settled_builds.specs.Taken.{has_own_children}
use Rattle.renewed_builds.specs.declared.taking.Moved.{Moved}
use Rattle.renewed_builds.specs.Renewing.{Change, change_of, draws_its_own, takes_in_place, order_of, places_of, widgets_in, can_take_one, each_can_take, can_take_drawn, changes_one, each_changing, changes_of, moved_to, moves_below, each_moving, moves_of, joined, element_taking, one_taking, each_taking, taking_elements}
use Rattle.renewed_builds.specs.Taking.{after_changes, after_moves, order_after, StandInTurn, HasItsOwn, HaveTheirOwn}
use Rattle.renewed_builds.proofs.Gathered.{somewhere}
use Rattle.renewed_builds.proofs.Written.{joined-append, placed_if, Orders, written, written-on, untouched, first-written, tops-written, placed_order}
use Rattle.renewed_builds.proofs.Seen.{apart_from, no_change, other_change, no_move, other_move, after_append, moves_append, order_append, otherwise_changed, otherwise_moved, otherwise_ordered}

-- ---- what it says that widgets can follow others

none_is : (r : Option (Key Value)) → not (is_some r) ≡ true → r ≡ None
none_is None e = refl
none_is (Some k) e = cc

pub record Follow (olds ws : List PlainWidget) (cans : List (PlainWidget → Bool)) : Type 0 where
  pub many : length olds ≡ length ws
  pub apart : NoKeyRepeats ws
  pub asked : all_asked cans ws (matching olds ws) ≡ true

pub follow : (olds ws : List PlainWidget) (cans : List (PlainWidget → Bool)) → can_follow_all olds ws cans ≡ true → Follow olds ws cans
follow olds ws cans can =
    let p = and_parts (length olds == length ws) (are_apart ws && all_asked cans ws (matching olds ws)) can in
    let q = and_parts (are_apart ws) (all_asked cans ws (matching olds ws)) p.1 in
    record {
      many = eqb-true (length olds) (length ws) p.0;
      apart = none_repeats ws (none_is (first_repeated [] (map key_of ws)) q.0);
      asked = q.1;
    }

-- one of them
pub asked_one : (cans : List (PlainWidget → Bool)) (i j : ℕ) (w : PlainWidget) (ws : List PlainWidget) (ms : List (Option ℕ)) → all_asked cans ws ms ≡ true → slice_get ms i ≡ Some (Some j) → slice_get ws i ≡ Some w
    → asked_by (slice_get cans j) w ≡ true
asked_one cans i j w [] ms can at has = absurd (cc)
asked_one cans i j w (v ∷ ws) [] can at has = absurd (cc)
asked_one cans zero j w (v ∷ ws) (m ∷ ms) can at has =
    let parts = and_parts (asked_at cans m v) (all_asked cans ws ms) can in
    first_of_all v m at has parts.0
  where
    first_of_all : (v : PlainWidget) (m : Option ℕ) → Some m ≡ Some (Some j) → Some v ≡ Some w → asked_at cans m v ≡ true → asked_by (slice_get cans j) w ≡ true
    first_of_all v m at has e =
        let m_is : m ≡ Some j = cc in
        let w_is : v ≡ w = cc in
        sym (λ i. asked_at cans (m_is i) (w_is i)) ∙ e
asked_one cans (suc i) j w (v ∷ ws) (m ∷ ms) can at has =
    let parts = and_parts (asked_at cans m v) (all_asked cans ws ms) can in
    asked_one cans i j w ws ms parts.1 at has

pub length-places : (cans : List (PlainWidget → Bool)) (ws : List PlainWidget) (ms : List (Option ℕ)) → length ms ≡ length ws → all_asked cans ws ms ≡ true → length (places_of ms) ≡ length ws
length-places cans [] [] many can = refl
length-places cans [] (m ∷ ms) many can = absurd (omega (arith, many))
length-places cans (w ∷ ws) [] many can = absurd (omega (arith, many))
length-places cans (w ∷ ws) (None ∷ ms) many can = absurd (cc)
length-places cans (w ∷ ws) (Some j ∷ ms) many can =
    let parts = and_parts (asked_at cans (Some j) w) (all_asked cans ws ms) can in
    let more = length-places cans ws ms (omega (arith, many)) parts.1 in
    omega (arith, more)

pub length-widgets : (f : Forest Element) → length (widgets_in f) ≡ length (tops f)
length-widgets none = refl
length-widgets (tree h e kids rest) = let more = length-widgets rest in omega (arith, more)

pub places_many : (f : Forest Element) (ws : List PlainWidget) → Follow (widgets_in f) ws (each_can_take f) → length (places_of (matching (widgets_in f) ws)) ≡ length (tops f)
places_many f ws can =
    let all = length-places (each_can_take f) ws (matching (widgets_in f) ws) (length-matching (widgets_in f) ws) can.asked in
    let tall = length-widgets f in
    let many = can.many in
    omega (arith, all, tall, many)

-- ---- what is gathered, by handles

abbrev pub o_of : List Change → Orders
o_of cs k = order_after cs k None

abbrev pub g_of : List Change → List Moved → Handle → Element → Element
g_of cs ms k e = after_moves ms k (after_changes cs k e)

-- of the tree at a place, what the one widget that it takes brings alone
module _ (f : Forest Element) (distinct : IsDistinct f) (old : ℕ) (ws : List PlainWidget) (ms : List (Option ℕ)) (i j : ℕ) (w : PlainWidget) (at : slice_get ms i ≡ Some (Some j)) (has : slice_get ws i ≡ Some w)
    (once : (k : ℕ) → slice_get ms k ≡ Some (Some j) → k ≡ i) where
  from_zero : 0 + i ≡ i
  from_zero = omega arith

  pub changed_alone : (k : Handle) → In k (first_trees 1 (skip j f)) → (e : Element) → after_changes (gathered (each_changing f) 0 ws ms) k e ≡ after_changes (gathered_by (slice_get (each_changing f) j) w i) k e
  changed_alone k inside e =
      somewhere (λ cs x. after_changes cs k x) (λ x. refl) (λ xs ys x. after_append xs ys k x) (each_changing f) j
      (other_change (λ cs x. after_changes cs k x) (λ x. refl) (λ xs ys x. after_append xs ys k x) k (otherwise_changed k) f distinct j inside) 0 i w ws ms e at has once
      ∙ ap (λ n. after_changes (gathered_by (slice_get (each_changing f) j) w n) k e) from_zero

  pub ordered_alone : (k : Handle) → In k (first_trees 1 (skip j f)) → (o : Option (List ℕ)) → order_after (gathered (each_changing f) 0 ws ms) k o ≡ order_after (gathered_by (slice_get (each_changing f) j) w i) k o
  ordered_alone k inside o =
      somewhere (λ cs x. order_after cs k x) (λ x. refl) (λ xs ys x. order_append xs ys k x) (each_changing f) j
      (other_change (λ cs x. order_after cs k x) (λ x. refl) (λ xs ys x. order_append xs ys k x) k (otherwise_ordered k) f distinct j inside) 0 i w ws ms o at has once
      ∙ ap (λ n. order_after (gathered_by (slice_get (each_changing f) j) w n) k o) from_zero

  pub moved_alone : (k : Handle) → In k (first_trees 1 (skip j f)) → (e : Element) → after_moves (gathered (each_moving old f) 0 ws ms) k e ≡ after_moves (gathered_by (slice_get (each_moving old f) j) w i) k e
  moved_alone k inside e =
      somewhere (λ cs x. after_moves cs k x) (λ x. refl) (λ xs ys x. moves_append xs ys k x) (each_moving old f) j
      (other_move (λ cs x. after_moves cs k x) (λ x. refl) (λ xs ys x. moves_append xs ys k x) k (otherwise_moved k) old f distinct j inside) 0 i w ws ms e at has once
      ∙ ap (λ n. after_moves (gathered_by (slice_get (each_moving old f) j) w n) k e) from_zero

-- of handles that don't stand in it, nothing
pub changed_none : (f : Forest Element) (k : Handle) → count k f ≡ 0 → (ws : List PlainWidget) (ms : List (Option ℕ)) (e : Element) → after_changes (gathered (each_changing f) 0 ws ms) k e ≡ e
changed_none f k absent ws ms e = no_change (λ cs x. after_changes cs k x) (λ x. refl) (λ xs ys x. after_append xs ys k x) k (otherwise_changed k) f absent 0 ws ms e

pub ordered_none : (f : Forest Element) (k : Handle) → count k f ≡ 0 → (ws : List PlainWidget) (ms : List (Option ℕ)) (o : Option (List ℕ)) → order_after (gathered (each_changing f) 0 ws ms) k o ≡ o
ordered_none f k absent ws ms o = no_change (λ cs x. order_after cs k x) (λ x. refl) (λ xs ys x. order_append xs ys k x) k (otherwise_ordered k) f absent 0 ws ms o

pub moved_none : (f : Forest Element) (old : ℕ) (k : Handle) → count k f ≡ 0 → (ws : List PlainWidget) (ms : List (Option ℕ)) (e : Element) → after_moves (gathered (each_moving old f) 0 ws ms) k e ≡ e
moved_none f old k absent ws ms e = no_move (λ cs x. after_moves cs k x) (λ x. refl) (λ xs ys x. moves_append xs ys k x) k (otherwise_moved k) old f absent 0 ws ms e

-- ---- a row

-- each tree that can take a widget becomes what is written of it
abbrev pub EachWritten : ℕ → Forest Element → Type 0
EachWritten old f = (j : ℕ) (w : PlainWidget) (place : ℕ) → asked_by (slice_get (each_can_take f) j) w ≡ true
    → written (o_of (gathered_by (slice_get (each_changing f) j) w place)) (g_of (gathered_by (slice_get (each_changing f) j) w place) (gathered_by (slice_get (each_moving old f) j) w place)) (first_trees 1 (skip j f))
    ≡ joined (gathered_by (slice_get (each_taking f) j) w place)

module _ (takes : List (PlainWidget → ℕ → List (Forest Element))) (cans : List (PlainWidget → Bool)) (g : Forest Element) where
  abbrev AreAt : ℕ → List PlainWidget → List (Option ℕ) → Type 0
  AreAt p us ns = (i j : ℕ) (w : PlainWidget) → slice_get ns i ≡ Some (Some j) → slice_get us i ≡ Some w → joined (gathered_by (slice_get takes j) w (p + i)) ≡ first_trees 1 (skip j g)

  pub rows : (p : ℕ) (us : List PlainWidget) (ns : List (Option ℕ)) → length ns ≡ length us → all_asked cans us ns ≡ true → AreAt p us ns → trees_at (places_of ns) g ≡ joined (gathered takes p us ns)
  rows p [] [] many can are = refl
  rows p [] (n ∷ ns) many can are = absurd (omega (arith, many))
  rows p (w ∷ us) [] many can are = absurd (omega (arith, many))
  rows p (w ∷ us) (None ∷ ns) many can are = absurd (cc)
  rows p (w ∷ us) (Some j ∷ ns) many can are =
      let parts = and_parts (asked_at cans (Some j) w) (all_asked cans us ns) can in
      let here : p + 0 ≡ p = omega arith in
      let first : first_trees 1 (skip j g) ≡ joined (gathered_by (slice_get takes j) w p) = sym (are 0 j w refl refl) ∙ ap (λ n. joined (gathered_by (slice_get takes j) w n)) here in
      let more = rows (suc p) us ns (omega (arith, many)) parts.1
      (λ i k v at has. let next : suc p + i ≡ p + suc i = omega arith in ap (λ n. joined (gathered_by (slice_get takes k) v n)) next ∙ are (suc i) k v at has) in
      (λ i. append (first i) (more i)) ∙ sym (joined-append (gathered_by (slice_get takes j) w p) (gathered takes (suc p) us ns))

module _ (f : Forest Element) (distinct : IsDistinct f) (old : ℕ) (each : EachWritten old f) (ws : List PlainWidget) (can : Follow (widgets_in f) ws (each_can_take f)) where
  abbrev ms : List (Option ℕ)
  ms = matching (widgets_in f) ws

  abbrev cs : List Change
  cs = gathered (each_changing f) 0 ws ms

  abbrev vs : List Moved
  vs = gathered (each_moving old f) 0 ws ms

  once : (i j : ℕ) → slice_get ms i ≡ Some (Some j) → (k : ℕ) → slice_get ms k ≡ Some (Some j) → k ≡ i
  once i j at k there = matched_once (widgets_in f) ws can.apart k i j there at

  one_row : (i j : ℕ) (w : PlainWidget) → slice_get ms i ≡ Some (Some j) → slice_get ws i ≡ Some w → joined (gathered_by (slice_get (each_taking f) j) w i) ≡ first_trees 1 (skip j (written (o_of cs) (g_of cs vs) f))
  one_row i j w at has =
      let own = gathered_by (slice_get (each_changing f) j) w i in
      let own_moves = gathered_by (slice_get (each_moving old f) j) w i in
      sym (each j w i (asked_one (each_can_take f) i j w ws ms can.asked at has))
      ∙ sym (written-on (o_of cs) (o_of own) (g_of cs vs) (g_of own own_moves) (first_trees 1 (skip j f)) (λ k inside. (
        ordered_alone f distinct old ws ms i j w at has (once i j at) k inside None,
        λ e. ap (after_moves vs k) (changed_alone f distinct old ws ms i j w at has (once i j at) k inside e) ∙ moved_alone f distinct old ws ms i j w at has (once i j at) k inside (after_changes own k e),
      )))
      ∙ sym (first-written (o_of cs) (g_of cs vs) j f)

  pub row : trees_at (places_of ms) (written (o_of cs) (g_of cs vs) f) ≡ taking_elements f ws
  row = rows (each_taking f) (each_can_take f) (written (o_of cs) (g_of cs vs) f) 0 ws ms (length-matching (widgets_in f) ws) can.asked
      (λ i j w at has. let from_zero : 0 + i ≡ i = omega arith in ap (λ n. joined (gathered_by (slice_get (each_taking f) j) w n)) from_zero ∙ one_row i j w at has)

-- ---- one element

moved_here : (h : Handle) (old place : ℕ) (e : Element) → e.index ≡ old → (b : Bool) → (old == place) ≡ b → after_moves (cond b [] (record { element = h; place = place } ∷ [])) h e ≡ with_index place e
moved_here h old place e is true at = let place_is : e.index ≡ place = is ∙ eqb-true old place at in ap (λ n. record e { index = n }) place_is
moved_here h old place e is false at = ap (λ b. cond b (with_index place e) e) (same_self h)

moved_there : (h k : Handle) (old place : ℕ) (e : Element) → same k h ≡ false → (b : Bool) → after_moves (cond b [] (record { element = h; place = place } ∷ [])) k e ≡ e
moved_there h k old place e apart true = refl
moved_there h k old place e apart false = ap (λ b. cond b (with_index place e) e) apart

-- what it says that an element takes another widget
pub record TakesIt (v : Element) (w : PlainWidget) : Type 0 where
  pub updated : updates v.widget w ≡ true
  pub was : has_own_children (build_role_of (look_of v.widget)) ≡ true
  pub now : has_own_children (build_role_of (look_of w)) ≡ true
  pub render : is_some v.render ≡ true

pub takes_it : (v : Element) (w : PlainWidget) → takes_in_place v w ≡ true → TakesIt v w
takes_it v w can =
    let p = and_parts (updates v.widget w) (draws_its_own (look_of v.widget) && (draws_its_own (look_of w) && is_some v.render)) can in
    let q = and_parts (draws_its_own (look_of v.widget)) (draws_its_own (look_of w) && is_some v.render) p.1 in
    let r = and_parts (draws_its_own (look_of w)) (is_some v.render) q.1 in
    record {
      updated = p.0;
      was = (and_parts (has_own_children (build_role_of (look_of v.widget))) _ q.0).0;
      now = (and_parts (has_own_children (build_role_of (look_of w))) _ r.0).0;
      render = r.1;
    }

or_other : (a b : Bool) → a ≡ false → (a || b) ≡ true → b ≡ true
or_other true b e d = cc
or_other false b e d = d

pub taken_parts : (v : Element) (olds : List PlainWidget) (below : List (PlainWidget → Bool)) (w : PlainWidget) → is_same_widget v.widget w ≡ false → can_take_one v olds below w ≡ true
    → TakesIt v w × Follow olds (child_widgets w) below
taken_parts v olds below w other can =
    let p = and_parts (takes_in_place v w) (can_follow_all olds (child_widgets w) below) (or_other (is_same_widget v.widget w) _ other can) in
    (takes_it v w p.0, follow olds (child_widgets w) below p.1)

module _ (h : Handle) (e : Element) (kids : Forest Element) (distinct : IsDistinct (tree h e kids none)) (old : ℕ) (is_old : e.index ≡ old) (w : PlainWidget) (place : ℕ) where
  inner_distinct : IsDistinct kids
  inner_distinct k = let few = distinct k in omega (arith, few)

  not_below : count h kids ≡ 0
  not_below = let few = distinct h in let one = hit-true h h (same_self h) in omega (arith, few, one)

  apart_below : (k : Handle) → In k kids → same k h ≡ false
  apart_below k inside = let few = distinct k in apart_from h k (omega (arith, few, inside))

  abbrev us : List PlainWidget
  us = child_widgets w

  abbrev ns : List (Option ℕ)
  ns = matching (widgets_in kids) us

  abbrev ds : List Change
  ds = gathered (each_changing kids) 0 us ns

  abbrev ls : List Moved
  ls = gathered (each_moving 0 kids) 0 us ns

  abbrev moved : List Moved
  moved = moved_to h old place

  -- it has the widget
  same_written : written (o_of []) (g_of [] (moved ++ [])) (tree h e kids none) ≡ tree h (with_index place e) kids none
  same_written =
      let top = moves_append moved [] h e ∙ moved_here h old place e is_old (old == place) refl in
      let low = untouched (o_of []) (g_of [] (moved ++ [])) kids (λ k inside. (refl, λ x. moves_append moved [] k x ∙ moved_there h k old place x (apart_below k inside) (old == place))) in
      λ i. tree h (top i) (low i) none

  -- it takes it
  module _ (at : Handle) (each : EachWritten 0 kids) (can : Follow (widgets_in kids) us (each_can_take kids)) where
    abbrev c : Change
    c = record { element = h; at = at; widget = w; order = order_of (places_of ns) }

    top_value : g_of (c ∷ ds) (moved ++ ls) h e ≡ with_index place (with_widget w e)
    top_value =
        let changed : after_changes (c ∷ ds) h e ≡ with_widget w e = ap (λ b. after_changes ds h (cond b (with_widget w e) e)) (same_self h) ∙ changed_none kids h not_below us ns (with_widget w e) in
        ap (after_moves (moved ++ ls) h) changed
        ∙ moves_append moved ls h (with_widget w e)
        ∙ ap (after_moves ls h) (moved_here h old place (with_widget w e) is_old (old == place) refl)
        ∙ moved_none kids 0 h not_below us ns (with_index place (with_widget w e))

    top_order : o_of (c ∷ ds) h ≡ order_of (places_of ns)
    top_order = ap (λ b. order_after ds h (cond b c.order None)) (same_self h) ∙ ordered_none kids h not_below us ns c.order

    below_written : written (o_of (c ∷ ds)) (g_of (c ∷ ds) (moved ++ ls)) kids ≡ written (o_of ds) (g_of ds ls) kids
    below_written = written-on (o_of (c ∷ ds)) (o_of ds) (g_of (c ∷ ds) (moved ++ ls)) (g_of ds ls) kids (λ k inside.
        let apart = apart_below k inside in (
          ap (λ b. order_after ds k (cond b c.order None)) apart,
          λ x.
              ap (after_moves (moved ++ ls) k) (ap (λ b. after_changes ds k (cond b (with_widget w x) x)) apart)
              ∙ moves_append moved ls k (after_changes ds k x)
              ∙ ap (after_moves ls k) (moved_there h k old place (after_changes ds k x) apart (old == place)),
        ))

    other_written : written (o_of (c ∷ ds)) (g_of (c ∷ ds) (moved ++ ls)) (tree h e kids none) ≡ tree h (with_index place (with_widget w e)) (taking_elements kids us) none
    other_written =
        let inner = written (o_of ds) (g_of ds ls) kids in
        let tall : length (places_of ns) ≡ length (tops inner) = places_many kids us can ∙ sym (ap length (tops-written (o_of ds) (g_of ds ls) kids)) in
        (λ i. tree h (top_value i) (placed_if (top_order i) (below_written i)) none)
        ∙ ap (λ f. tree h (with_index place (with_widget w e)) f none) (placed_order (places_of ns) inner tall ∙ row kids inner_distinct 0 each us can)

  by_render : (render : Option Handle) → is_some render ≡ true → EachWritten 0 kids → Follow (widgets_in kids) us (each_can_take kids)
      → written (o_of (change_of h render w (order_of (places_of ns)) ++ ds)) (g_of (change_of h render w (order_of (places_of ns)) ++ ds) (moved ++ ls)) (tree h e kids none)
      ≡ tree h (with_index place (with_widget w e)) (taking_elements kids us) none
  by_render None drawn each can = absurd (cc)
  by_render (Some at) drawn each can = other_written at each can

  by_same : (b : Bool) → (b ≡ false → (is_some e.render ≡ true) × EachWritten 0 kids × Follow (widgets_in kids) us (each_can_take kids))
      → written (o_of (cond b [] (change_of h e.render w (order_of (places_of ns)) ++ ds))) (g_of (cond b [] (change_of h e.render w (order_of (places_of ns)) ++ ds)) (moved ++ cond b [] ls)) (tree h e kids none)
      ≡ tree h (with_index place (cond b e (with_widget w e))) (cond b kids (taking_elements kids us)) none
  by_same true can = same_written
  by_same false can = let p = can refl in by_render e.render p.0 p.1 p.2

  pub one_written : (is_same_widget e.widget w ≡ false → (is_some e.render ≡ true) × EachWritten 0 kids × Follow (widgets_in kids) us (each_can_take kids))
      → written (o_of (changes_one h e (widgets_in kids) (each_changing kids) w)) (g_of (changes_one h e (widgets_in kids) (each_changing kids) w) (moved ++ moves_below e (widgets_in kids) (each_moving 0 kids) w)) (tree h e kids none)
      ≡ joined (one_taking h e kids (each_taking kids) w place)
  one_written can = by_same (is_same_widget e.widget w) can

-- ---- each of a forest

-- each element that can take a widget has its own children, each at its place
pub each_written : (f : Forest Element) → HaveTheirOwn f → IsDistinct f → (old : ℕ) → StandInTurn old f → EachWritten old f
each_written none own distinct old order j w place can = absurd (cc)
each_written (tree h e kids rest) own distinct old order zero w place can =
    one_written h e kids (λ k. let few = distinct k in omega (arith, few)) old order.0 w place
    (λ other.
    let parts = taken_parts e (widgets_in kids) (each_can_take kids) w other can in (
      parts.0.render,
      each_written kids own.1 (λ k. let few = distinct k in omega (arith, few)) 0 (own.0 parts.0.was).order,
      parts.1,
    ))
each_written (tree h e kids rest) own distinct old order (suc j) w place can =
    each_written rest own.2 (λ k. let few = distinct k in omega (arith, few)) (suc old) order.1 j w place can

-- what can be taken below one that has its own children, or is a component
pub row_written : (f : Forest Element) → HaveTheirOwn f → IsDistinct f → StandInTurn 0 f → (ws : List PlainWidget) → can_take_drawn f ws ≡ true
    → trees_at (places_of (matching (widgets_in f) ws)) (written (o_of (changes_of f ws)) (g_of (changes_of f ws) (moves_of f ws)) f) ≡ taking_elements f ws
row_written f own distinct order ws can = row f distinct 0 (each_written f own distinct 0 order) ws (follow (widgets_in f) ws (each_can_take f) can)

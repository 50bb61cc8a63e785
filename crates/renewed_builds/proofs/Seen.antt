-- What is gathered of a forest's elements is of its handles alone, and what is of a tree's handles comes from that tree alone.
use Rattle.std.proofs.Common.{◌≡◌, ℕ, zero, suc, ◌+◌, ◌≤◌, ◌==◌, Bool, true, false, cond, Option, Some, None, List, [], ◌∷◌, ◌++◌, map, refl, sym, ap, ◌∙◌, arith}
use Rattle.std.specs.Prelude.{slice_get}
use Rattle.fx_handles.specs.declared.Handle.{Handle}
use Rattle.fx_handles.specs.Handle.{same, times}
use Rattle.fx_handles.specs.HandleLaws.{same-ne, same-false, times-cons}
use Rattle.node_tree.specs.Forest.{Forest, count, In, IsDistinct, skip, first_trees}
use Rattle.node_tree.specs.Forest.Forest.{none, tree}
use Rattle.node_tree.proofs.ForestLemmas.{not_head}
use Rattle.widget_model.specs.Plain.{PlainWidget}
use Rattle.widget_model.specs.Plain.{children_of as child_widgets}
use Rattle.reconcile.specs.Matching.{matching}
use Rattle.element_tree.specs.Edits.{with_widget, with_index}
use Rattle.element_tree.specs.Element.{Element}
use Rattle.work_sets.specs.Members.{is_same_widget}
use Rattle.settled_builds.specs.Retaken.{gathered_by, gathered_at, gathered}
use Rattle.renewed_builds.specs.declared.taking.Moved.{Moved}
use Rattle.renewed_builds.specs.Renewing.{Change, change_of, order_of, places_of, widgets_in, changes_one, each_changing, moved_to, moves_below, each_moving}
use Rattle.renewed_builds.specs.Taking.{after_changes, after_moves, order_after}
use Rattle.renewed_builds.proofs.Gathered.{unseen}

-- ---- handles of a forest

other_way : (h k : Handle) → same h k ≡ false → same k h ≡ false
other_way h k e = same-ne k h (λ is. same-false h k e (sym is))

pub apart_from : (h k : Handle) → cond {A = ℕ} (same h k) 1 0 ≤ 0 → same k h ≡ false
apart_from h k few = other_way h k (not_head k h few)

pub count-first : (k : Handle) (j : ℕ) (f : Forest Element) → count k (first_trees 1 (skip j f)) ≤ count k f
count-first k zero none = omega arith
count-first k zero (tree h e kids rest) = omega arith
count-first k (suc j) none = omega arith
count-first k (suc j) (tree h e kids rest) = let few = count-first k j rest in omega (arith, few)

-- ---- changes

module _ {X : Type 0} (see : List Change → X → X) (nothing : (x : X) → see [] x ≡ x) (in_turn : (xs ys : List Change) (x : X) → see (xs ++ ys) x ≡ see ys (see xs x))
    (k : Handle) (other : (c : Change) → same k c.element ≡ false → (x : X) → see (c ∷ []) x ≡ x) where
  own_change : (h : Handle) (render : Option Handle) (w : PlainWidget) (order : Option (List ℕ)) (x : X) → same k h ≡ false → see (change_of h render w order) x ≡ x
  own_change h None w order x apart = nothing x
  own_change h (Some at) w order x apart = other (record { element = h; at = at; widget = w; order = order }) apart x

  either_change : (own inner : List Change) (x : X) → see own x ≡ x → ((y : X) → see inner y ≡ y) → (b : Bool) → see (cond b [] (own ++ inner)) x ≡ x
  either_change own inner x p q true = nothing x
  either_change own inner x p q false = in_turn own inner x ∙ ap (see inner) p ∙ q x

  one_change : (h : Handle) (e : Element) (olds : List PlainWidget) (below : List (PlainWidget → ℕ → List Change)) (w : PlainWidget) (x : X) → same k h ≡ false
      → ((j : ℕ) (v : PlainWidget) (place : ℕ) (y : X) → see (gathered_by (slice_get below j) v place) y ≡ y) → see (changes_one h e olds below w) x ≡ x
  one_change h e olds below w x apart inner =
      either_change (change_of h e.render w (order_of (places_of (matching olds (child_widgets w))))) (gathered below 0 (child_widgets w) (matching olds (child_widgets w))) x
      (own_change h e.render w (order_of (places_of (matching olds (child_widgets w)))) x apart)
      (unseen see nothing in_turn below inner 0 (child_widgets w) (matching olds (child_widgets w)))
      (is_same_widget e.widget w)

  pub each_change : (f : Forest Element) → count k f ≡ 0 → (j : ℕ) (w : PlainWidget) (place : ℕ) (x : X) → see (gathered_by (slice_get (each_changing f) j) w place) x ≡ x
  each_change none absent j w place x = nothing x
  each_change (tree h e kids rest) absent zero w place x =
      one_change h e (widgets_in kids) (each_changing kids) w x (apart_from h k (omega arith)) (each_change kids (omega arith))
  each_change (tree h e kids rest) absent (suc j) w place x = each_change rest (omega arith) j w place x

  pub no_change : (f : Forest Element) → count k f ≡ 0 → (place : ℕ) (ws : List PlainWidget) (ms : List (Option ℕ)) (x : X) → see (gathered (each_changing f) place ws ms) x ≡ x
  no_change f absent = unseen see nothing in_turn (each_changing f) (each_change f absent)

  pub other_change : (f : Forest Element) → IsDistinct f → (j : ℕ) → In k (first_trees 1 (skip j f)) → (m : Option ℕ) → (m ≡ Some j → ⊥) → (w : PlainWidget) (place : ℕ) (x : X)
      → see (gathered_at (each_changing f) m w place) x ≡ x
  other_change f distinct j inside None apart w place x = nothing x
  other_change none distinct j inside (Some i) apart w place x = nothing x
  other_change (tree h e kids rest) distinct zero inside (Some zero) apart w place x = absurd (apart refl)
  other_change (tree h e kids rest) distinct zero inside (Some (suc i)) apart w place x = each_change rest (let few = distinct k in omega (arith, few, inside)) i w place x
  other_change (tree h e kids rest) distinct (suc j) inside (Some zero) apart w place x =
      let few = distinct k in
      let fewer = count-first k j rest in
      one_change h e (widgets_in kids) (each_changing kids) w x (apart_from h k (omega (arith, few, fewer, inside))) (each_change kids (omega (arith, few, fewer, inside)))
  other_change (tree h e kids rest) distinct (suc j) inside (Some (suc i)) apart w place x =
      other_change rest (λ y. let few = distinct y in omega (arith, few)) j inside (Some i) (λ is. apart (next is)) w place x
    where
      next : Some i ≡ Some j → Some (suc i) ≡ Some (suc j)
      next e = cc

-- ---- moves

module _ {X : Type 0} (see : List Moved → X → X) (nothing : (x : X) → see [] x ≡ x) (in_turn : (xs ys : List Moved) (x : X) → see (xs ++ ys) x ≡ see ys (see xs x))
    (k : Handle) (other : (c : Moved) → same k c.element ≡ false → (x : X) → see (c ∷ []) x ≡ x) where
  own_move : (h : Handle) (old place : ℕ) (x : X) → same k h ≡ false → (b : Bool) → see (cond b [] (record { element = h; place = place } ∷ [])) x ≡ x
  own_move h old place x apart true = nothing x
  own_move h old place x apart false = other (record { element = h; place = place }) apart x

  either_move : (inner : List Moved) (x : X) → ((y : X) → see inner y ≡ y) → (b : Bool) → see (cond b [] inner) x ≡ x
  either_move inner x q true = nothing x
  either_move inner x q false = q x

  one_move : (h : Handle) (old place : ℕ) (e : Element) (olds : List PlainWidget) (below : List (PlainWidget → ℕ → List Moved)) (w : PlainWidget) (x : X) → same k h ≡ false
      → ((j : ℕ) (v : PlainWidget) (at : ℕ) (y : X) → see (gathered_by (slice_get below j) v at) y ≡ y) → see (moved_to h old place ++ moves_below e olds below w) x ≡ x
  one_move h old place e olds below w x apart inner =
      in_turn (moved_to h old place) (moves_below e olds below w) x
      ∙ ap (see (moves_below e olds below w)) (own_move h old place x apart (old == place))
      ∙ either_move (gathered below 0 (child_widgets w) (matching olds (child_widgets w))) x
      (unseen see nothing in_turn below inner 0 (child_widgets w) (matching olds (child_widgets w)))
      (is_same_widget e.widget w)

  pub each_move : (old : ℕ) (f : Forest Element) → count k f ≡ 0 → (j : ℕ) (w : PlainWidget) (place : ℕ) (x : X) → see (gathered_by (slice_get (each_moving old f) j) w place) x ≡ x
  each_move old none absent j w place x = nothing x
  each_move old (tree h e kids rest) absent zero w place x =
      one_move h old place e (widgets_in kids) (each_moving 0 kids) w x (apart_from h k (omega arith)) (each_move 0 kids (omega arith))
  each_move old (tree h e kids rest) absent (suc j) w place x = each_move (suc old) rest (omega arith) j w place x

  pub no_move : (old : ℕ) (f : Forest Element) → count k f ≡ 0 → (place : ℕ) (ws : List PlainWidget) (ms : List (Option ℕ)) (x : X) → see (gathered (each_moving old f) place ws ms) x ≡ x
  no_move old f absent = unseen see nothing in_turn (each_moving old f) (each_move old f absent)

  pub other_move : (old : ℕ) (f : Forest Element) → IsDistinct f → (j : ℕ) → In k (first_trees 1 (skip j f)) → (m : Option ℕ) → (m ≡ Some j → ⊥) → (w : PlainWidget) (place : ℕ) (x : X)
      → see (gathered_at (each_moving old f) m w place) x ≡ x
  other_move old f distinct j inside None apart w place x = nothing x
  other_move old none distinct j inside (Some i) apart w place x = nothing x
  other_move old (tree h e kids rest) distinct zero inside (Some zero) apart w place x = absurd (apart refl)
  other_move old (tree h e kids rest) distinct zero inside (Some (suc i)) apart w place x = each_move (suc old) rest (let few = distinct k in omega (arith, few, inside)) i w place x
  other_move old (tree h e kids rest) distinct (suc j) inside (Some zero) apart w place x =
      let few = distinct k in
      let fewer = count-first k j rest in
      one_move h old place e (widgets_in kids) (each_moving 0 kids) w x (apart_from h k (omega (arith, few, fewer, inside))) (each_move 0 kids (omega (arith, few, fewer, inside)))
  other_move old (tree h e kids rest) distinct (suc j) inside (Some (suc i)) apart w place x =
      other_move (suc old) rest (λ y. let few = distinct y in omega (arith, few)) j inside (Some i) (λ is. apart (next is)) w place x
    where
      next : Some i ≡ Some j → Some (suc i) ≡ Some (suc j)
      next e = cc

-- ---- what is seen: an element's value, its order, and how often it changes

pub after_append : (xs ys : List Change) (k : Handle) (e : Element) → after_changes (xs ++ ys) k e ≡ after_changes ys k (after_changes xs k e)
after_append [] ys k e = refl
after_append (x ∷ xs) ys k e = after_append xs ys k (cond (same k x.element) (with_widget x.widget e) e)

pub moves_append : (xs ys : List Moved) (k : Handle) (e : Element) → after_moves (xs ++ ys) k e ≡ after_moves ys k (after_moves xs k e)
moves_append [] ys k e = refl
moves_append (x ∷ xs) ys k e = moves_append xs ys k (cond (same k x.element) (with_index x.place e) e)

pub order_append : (xs ys : List Change) (k : Handle) (o : Option (List ℕ)) → order_after (xs ++ ys) k o ≡ order_after ys k (order_after xs k o)
order_append [] ys k o = refl
order_append (x ∷ xs) ys k o = order_append xs ys k (cond (same k x.element) x.order o)

abbrev pub elements_of : List Change → List Handle
elements_of cs = map (λ (c : Change). c.element) cs

-- how often a handle stands among them, beside others
abbrev pub often : Handle → List Change → ℕ → ℕ
often k [] n = n
often k (c ∷ cs) n = often k cs (cond {A = ℕ} (same c.element k) 1 0 + n)

pub often_append : (k : Handle) (xs ys : List Change) (n : ℕ) → often k (xs ++ ys) n ≡ often k ys (often k xs n)
often_append k [] ys n = refl
often_append k (x ∷ xs) ys n = often_append k xs ys (cond {A = ℕ} (same x.element k) 1 0 + n)

pub often_times : (k : Handle) (cs : List Change) (n : ℕ) → often k cs n ≡ times k (elements_of cs) + n
often_times k [] n = omega arith
often_times k (c ∷ cs) n =
    let one = times-cons k c.element (elements_of cs) in
    let more = often_times k cs (cond {A = ℕ} (same c.element k) 1 0 + n) in
    omega (arith, one, more)

pub otherwise_changed : (k : Handle) (c : Change) → same k c.element ≡ false → (e : Element) → after_changes (c ∷ []) k e ≡ e
otherwise_changed k c apart e = ap (λ b. cond b (with_widget c.widget e) e) apart

pub otherwise_moved : (k : Handle) (m : Moved) → same k m.element ≡ false → (e : Element) → after_moves (m ∷ []) k e ≡ e
otherwise_moved k m apart e = ap (λ b. cond b (with_index m.place e) e) apart

pub otherwise_ordered : (k : Handle) (c : Change) → same k c.element ≡ false → (o : Option (List ℕ)) → order_after (c ∷ []) k o ≡ o
otherwise_ordered k c apart o = ap (λ b. cond b c.order o) apart

pub otherwise_seldom : (k : Handle) (c : Change) → same k c.element ≡ false → (n : ℕ) → often k (c ∷ []) n ≡ n
otherwise_seldom k c apart n = let none : cond {A = ℕ} (same c.element k) 1 0 ≡ 0 = ap (λ b. cond {A = ℕ} b 1 0) (other_way k c.element apart) in omega (arith, none)

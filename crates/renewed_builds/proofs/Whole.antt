-- What is below one element of a whole forest takes a widget: what is gathered there is of all, and makes the forest what it becomes.
use Rattle.std.proofs.Common.{◌≡◌, ℕ, zero, suc, ◌+◌, ◌<◌, ◌≤◌, ◌==◌, Bool, true, false, ◌&&◌, ◌||◌, not, cond, Option, Some, None, is_some, IfSome, option_map, List, [], ◌∷◌, ◌++◌, length, map, refl, sym, ap, ◌∙◌, subst, arith, inl, inr}
use Rattle.std.specs.Prelude.{slice_get}
use Rattle.std.specs.List.{All}
use Rattle.std.proofs.lemmas.Bool.{and_parts, ne_eqb}
use Rattle.std.proofs.lemmas.List.{append-nil}
use Rattle.std.proofs.lemmas.List.Elements.{All-nil, All-cons, All-append}
use Rattle.fx_handles.specs.declared.Handle.{Handle}
use Rattle.fx_handles.specs.Handle.{same}
use Rattle.fx_handles.specs.HandleLaws.{same_self}
use Rattle.node_tree.specs.Forest.{TreeNode, Forest, tops, count, In, IsDistinct, below, skip, tree_of, Stands}
use Rattle.node_tree.specs.Forest.Forest.{none, tree}
use Rattle.node_tree.specs.Tree.{Tree, node_at}
use Rattle.node_tree.proofs.ForestLemmas.{hit, hit-true, not_head, is_zero, tree_of-here, tree_of-below, tree_of-rest, count-tree_of-le}
use Rattle.widget_keys.specs.Key.{is_given}
use Rattle.widget_model.specs.Look.{Look, component}
use Rattle.widget_model.specs.Plain.{PlainWidget, plain, look_of, key_of}
use Rattle.widget_model.specs.Plain.{children_of as child_widgets}
use Rattle.widget_model.specs.Update.{updates, same_type, key_eq}
use Rattle.widget_model.specs.UpdateLaws.{updates_mean}
use Rattle.widget_model.specs.WidgetType.{type_of, type_eq}
use Rattle.reconcile.specs.Matching.{matching, match_at, prefix_len}
use Rattle.reconcile.proofs.LawLemmas.{length-matching, front_kept}
use Rattle.build_form.specs.BuildRole.{build_role_of}
use Rattle.element_tree.specs.Element.{Element, element_at}
use Rattle.element_tree.specs.Fields.{declared, CanFollow}
use Rattle.work_sets.specs.Members.{is_same_look, is_same_widget}
use Rattle.settled_builds.specs.Retaken.{gathered_by, gathered, asked_by, asked_at, all_asked, are_apart, can_follow_all}
use Rattle.settled_builds.specs.Taken.{has_own_children}
use Rattle.renewed_builds.specs.declared.taking.Moved.{Moved}
use Rattle.renewed_builds.specs.Renewing.{Change, change_of, order_of, places_of, are_in_order, widgets_in, takes_in_place, can_take_one, each_can_take, can_take_drawn, can_take_at, changes_one, each_changing, changes_of, changes_at, moved_to, each_moving, moves_of, taking_elements, taken_at}
use Rattle.renewed_builds.specs.Taking.{FollowsChange, after_moves, StandInTurn, HaveTheirOwn, can_take_first, changes_first, moves_first}
use Rattle.renewed_builds.proofs.Gathered.{all_parts}
use Rattle.renewed_builds.proofs.Written.{Orders, placed_if, written, untouched, tops-written}
use Rattle.renewed_builds.proofs.Written.{in_turn as all_in_turn}
use Rattle.renewed_builds.proofs.Rows.{Follow, follow, length-widgets, places_many, o_of, g_of, changed_none, ordered_none, moved_none, row_written, TakesIt, takes_it, taken_parts}

and_true : (a : Bool) → (a && true) ≡ a
and_true true = refl
and_true false = refl

-- ---- where a handle doesn't stand, nothing is asked, changed or taken

can_nowhere : (h : Handle) (ws : List PlainWidget) (f : Forest Element) → count h f ≡ 0 → can_take_at h ws f ≡ true
can_nowhere h ws none absent = refl
can_nowhere h ws (tree x v kids rest) absent =
    ap (λ (b : Bool). cond b (can_take_drawn kids ws) (can_take_at h ws kids) && can_take_at h ws rest) (not_head h x (omega arith))
    ∙ ap (λ (b : Bool). b && can_take_at h ws rest) (can_nowhere h ws kids (omega arith))
    ∙ can_nowhere h ws rest (omega arith)

no_changes_there : (h : Handle) (ws : List PlainWidget) (f : Forest Element) → count h f ≡ 0 → changes_at h ws f ≡ []
no_changes_there h ws none absent = refl
no_changes_there h ws (tree x v kids rest) absent =
    ap (λ (b : Bool). cond b (changes_of kids ws) (changes_at h ws kids) ++ changes_at h ws rest) (not_head h x (omega arith))
    ∙ ap (λ (cs : List Change). cs ++ changes_at h ws rest) (no_changes_there h ws kids (omega arith))
    ∙ no_changes_there h ws rest (omega arith)

pub taken_out : (h : Handle) (ws : List PlainWidget) (f : Forest Element) → count h f ≡ 0 → taken_at h ws f ≡ f
taken_out h ws none absent = refl
taken_out h ws (tree x v kids rest) absent =
    ap (λ (b : Bool). tree x v (cond b (taking_elements kids ws) (taken_at h ws kids)) (taken_at h ws rest)) (not_head h x (omega arith))
    ∙ (λ i. tree x v (taken_out h ws kids (omega arith) i) (taken_out h ws rest (omega arith) i))

-- ---- at the one where it stands

pub distinct_below : (h : Handle) (v : Element) (kids rest : Forest Element) → IsDistinct (tree h v kids rest) → IsDistinct kids
distinct_below h v kids rest distinct k = let few = distinct k in omega (arith, few)

pub distinct_later : (h : Handle) (v : Element) (kids rest : Forest Element) → IsDistinct (tree h v kids rest) → IsDistinct rest
distinct_later h v kids rest distinct k = let few = distinct k in omega (arith, few)

abbrev pub AtTree : Handle → List PlainWidget → Forest Element → Type 0
AtTree h ws f = (can_take_at h ws f ≡ can_take_drawn (below (tree_of h f)) ws) × (changes_at h ws f ≡ changes_of (below (tree_of h f)) ws)

at_one : (h : Handle) (ws : List PlainWidget) (x : Handle) (v : Element) (kids rest : Forest Element) → IsDistinct (tree x v kids rest) → In h (tree x v kids rest) → (b : Bool) → same x h ≡ b
    → (In h kids → AtTree h ws kids) → (In h rest → AtTree h ws rest)
    → (cond b (can_take_drawn kids ws) (can_take_at h ws kids) && can_take_at h ws rest ≡ can_take_drawn (below (tree_of h (tree x v kids rest))) ws)
    × (cond b (changes_of kids ws) (changes_at h ws kids) ++ changes_at h ws rest ≡ changes_of (below (tree_of h (tree x v kids rest))) ws)
at_one h ws x v kids rest distinct inside true is p q =
    let absent : count h rest ≡ 0 = let few = distinct h in let one = hit-true h x is in omega (arith, few, one) in
    let top = ap (λ (s : Forest Element). below s) (tree_of-here h x v kids rest is) in (
      ap (λ (b : Bool). can_take_drawn kids ws && b) (can_nowhere h ws rest absent) ∙ and_true (can_take_drawn kids ws) ∙ sym (ap (λ (s : Forest Element). can_take_drawn s ws) top),
      ap (λ (cs : List Change). changes_of kids ws ++ cs) (no_changes_there h ws rest absent) ∙ append-nil (changes_of kids ws) ∙ sym (ap (λ (s : Forest Element). changes_of s ws) top),
    )
at_one h ws x v kids rest distinct inside false is p q =
    let miss : hit h x ≡ 0 = ap (λ (b : Bool). cond {A = ℕ} b 1 0) is in
    elim (is_zero (count h kids)) [
      | inl not_below ↦
          let there = q (omega (arith, inside, miss, not_below)) in
          let top = ap (λ (s : Forest Element). below s) (tree_of-rest h x v kids rest is not_below) in (
            ap (λ (b : Bool). b && can_take_at h ws rest) (can_nowhere h ws kids not_below) ∙ there.0 ∙ sym (ap (λ (s : Forest Element). can_take_drawn s ws) top),
            ap (λ (cs : List Change). cs ++ changes_at h ws rest) (no_changes_there h ws kids not_below) ∙ there.1 ∙ sym (ap (λ (s : Forest Element). changes_of s ws) top),
          )
      | inr is_below ↦
          let absent : count h rest ≡ 0 = let few = distinct h in omega (arith, few, is_below) in
          let there = p is_below in
          let top = ap (λ (s : Forest Element). below s) (tree_of-below h x v kids rest is absent) in (
            ap (λ (b : Bool). can_take_at h ws kids && b) (can_nowhere h ws rest absent) ∙ and_true (can_take_at h ws kids) ∙ there.0 ∙ sym (ap (λ (s : Forest Element). can_take_drawn s ws) top),
            ap (λ (cs : List Change). changes_at h ws kids ++ cs) (no_changes_there h ws rest absent) ∙ append-nil (changes_at h ws kids) ∙ there.1 ∙ sym (ap (λ (s : Forest Element). changes_of s ws) top),
          )
    ]

pub at_tree : (h : Handle) (ws : List PlainWidget) (f : Forest Element) → IsDistinct f → In h f → AtTree h ws f
at_tree h ws none distinct inside = absurd (omega (arith, inside))
at_tree h ws (tree x v kids rest) distinct inside =
    at_one h ws x v kids rest distinct inside (same x h) refl (at_tree h ws kids (distinct_below x v kids rest distinct)) (at_tree h ws rest (distinct_later x v kids rest distinct))

count-below : (k : Handle) (s : Forest Element) → count k (below s) ≤ count k s
count-below k none = omega arith
count-below k (tree h e kids rest) = omega arith

-- a forest that is written where the handles below one are, which become what that one's widgets make of them
module _ (h : Handle) (ws : List PlainWidget) (o : Orders) (g : Handle → Element → Element) (low : Forest Element) (away : (k : Handle) → count k low ≡ 0 → (o k ≡ None) × ((e : Element) → g k e ≡ e))
    (row : written o g low ≡ taking_elements low ws) where
  outside : (f : Forest Element) → ((k : Handle) → In k f → count k low ≡ 0) → written o g f ≡ f
  outside f far = untouched o g f (λ k inside. away k (far k inside))

  abbrev Taken : Forest Element → Type 0
  Taken f = written o g f ≡ taken_at h ws f

  alone : (x : Handle) (v : Element) (kids rest : Forest Element) → count x low ≡ 0 → (kids_then rest_then : Forest Element) → written o g kids ≡ kids_then → written o g rest ≡ rest_then
      → written o g (tree x v kids rest) ≡ tree x v kids_then rest_then
  alone x v kids rest far kids_then rest_then p q =
      let top = away x far in
      ap (λ order. tree x (g x v) (placed_if order (written o g kids)) (written o g rest)) top.0
      ∙ (λ i. tree x (top.1 v i) (p i) (q i))

  by_same : (x : Handle) (v : Element) (kids rest : Forest Element) → IsDistinct (tree x v kids rest) → In h (tree x v kids rest) → below (tree_of h (tree x v kids rest)) ≡ low
      → (In h kids → below (tree_of h kids) ≡ low → Taken kids) → (In h rest → below (tree_of h rest) ≡ low → Taken rest) → (b : Bool) → same x h ≡ b
      → written o g (tree x v kids rest) ≡ tree x v (cond b (taking_elements kids ws) (taken_at h ws kids)) (taken_at h ws rest)
  by_same x v kids rest distinct inside low_is p q true is =
      let here : kids ≡ low = sym (ap (λ s. below s) (tree_of-here h x v kids rest is)) ∙ low_is in
      let few = distinct in
      let absent : count h rest ≡ 0 = let one = hit-true h x is in omega (arith, few h, one) in
      let top_far : count x low ≡ 0 = subst (λ s. count x s ≡ 0) here (let one = hit-true x x (same_self x) in omega (arith, few x, one)) in
      let rest_far : (k : Handle) → In k rest → count k low ≡ 0 = λ k among. subst (λ s. count k s ≡ 0) here (omega (arith, few k, among)) in
      alone x v kids rest top_far (taking_elements kids ws) (taken_at h ws rest) (subst (λ s. written o g s ≡ taking_elements s ws) (sym here) row) (outside rest rest_far ∙ sym (taken_out h ws rest absent))
  by_same x v kids rest distinct inside low_is p q false is =
      let miss : hit h x ≡ 0 = ap (λ (b : Bool). cond {A = ℕ} b 1 0) is in
      elim (is_zero (count h kids)) [
        | inl not_below ↦
            let there : In h rest = omega (arith, inside, miss, not_below) in
            let here = sym (ap (λ s. below s) (tree_of-rest h x v kids rest is not_below)) ∙ low_is in
            let few : (k : Handle) → count k low ≤ count k rest = λ k. subst (λ s. count k s ≤ count k rest) here
            (let a = count-below k (tree_of h rest) in let b = count-tree_of-le k h rest (distinct_later x v kids rest distinct h) in omega (arith, a, b)) in
            let top_far : count x low ≡ 0 = let one = hit-true x x (same_self x) in omega (arith, few x, distinct x, one) in
            alone x v kids rest top_far (taken_at h ws kids) (taken_at h ws rest)
            (outside kids (λ k among. omega (arith, few k, distinct k, among)) ∙ sym (taken_out h ws kids not_below)) (q there here)
        | inr is_below ↦
            let absent : count h rest ≡ 0 = omega (arith, distinct h, is_below) in
            let here = sym (ap (λ s. below s) (tree_of-below h x v kids rest is absent)) ∙ low_is in
            let few : (k : Handle) → count k low ≤ count k kids = λ k. subst (λ s. count k s ≤ count k kids) here
            (let a = count-below k (tree_of h kids) in let b = count-tree_of-le k h kids (distinct_below x v kids rest distinct h) in omega (arith, a, b)) in
            let top_far : count x low ≡ 0 = let one = hit-true x x (same_self x) in omega (arith, few x, distinct x, one) in
            alone x v kids rest top_far (taken_at h ws kids) (taken_at h ws rest)
            (p is_below here) (outside rest (λ k among. omega (arith, few k, distinct k, among)) ∙ sym (taken_out h ws rest absent))
      ]

  pub taken_is : (f : Forest Element) → IsDistinct f → In h f → below (tree_of h f) ≡ low → Taken f
  taken_is none distinct inside low_is = absurd (omega (arith, inside))
  taken_is (tree x v kids rest) distinct inside low_is =
      by_same x v kids rest distinct inside low_is (taken_is kids (distinct_below x v kids rest distinct)) (taken_is rest (distinct_later x v kids rest distinct)) (same x h) refl

-- ---- one child alone

both_ways : (a b : Bool) → (a ≡ true → b ≡ true) → (b ≡ true → a ≡ true) → a ≡ b
both_ways true b p q = sym (p refl)
both_ways false true p q = q refl
both_ways false false p q = refl

both_hold : (a b : Bool) → a ≡ true → b ≡ true → (a && b) ≡ true
both_hold true b e d = d
both_hold false b e d = cc

same_updates : (v w : PlainWidget) → is_same_widget v w ≡ true → updates v w ≡ true
same_updates (plain a k slots children) (plain b j others inner) is =
    let p = and_parts (is_same_look a b) (key_eq k j && _) is in
    let q = and_parts (key_eq k j) _ p.1 in
    let r = and_parts (type_eq (type_of a) (type_of b)) _ p.0 in
    both_hold (type_eq (type_of a) (type_of b)) (key_eq k j) r.0 q.0

and_false : (a : Bool) → (a && false) ≡ false
and_false true = refl
and_false false = refl

alone_apart : (w : PlainWidget) → are_apart (w ∷ []) ≡ true
alone_apart w = ap (λ b. not (is_some (cond b (Some (key_of w)) None))) (and_false (is_given (key_of w)))

one_front : (v w : PlainWidget) → updates v w ≡ true → prefix_len (v ∷ []) (w ∷ []) ≡ 1
unfolding prefix_len
one_front v w e = ap (λ b. cond {A = ℕ} b (1 + 0) 0) e

matched_first : (ms : List (Option ℕ)) → length ms ≡ 1 → slice_get ms 0 ≡ Some (Some 0) → ms ≡ Some 0 ∷ []
matched_first [] many at = absurd (omega (arith, many))
matched_first (m ∷ []) many at = ap (λ n. n ∷ []) (same_Some at)
  where
    same_Some : {X : Type 0} {x y : X} → Some x ≡ Some y → x ≡ y
    same_Some e = cc
matched_first (m ∷ n ∷ ms) many at = absurd (omega (arith, many))

pub one_match : (v w : PlainWidget) → updates v w ≡ true → matching (v ∷ []) (w ∷ []) ≡ Some 0 ∷ []
one_match v w e =
    let front = one_front v w e in
    matched_first (matching (v ∷ []) (w ∷ [])) (length-matching (v ∷ []) (w ∷ [])) (front_kept (v ∷ []) (w ∷ []) 0 (omega (arith, front)))

module _ (k : Handle) (e : Element) (kids : Forest Element) (w : PlainWidget) where
  abbrev child : Forest Element
  child = tree k e kids none

  can_update : can_take_first child w ≡ true → updates e.widget w ≡ true
  can_update can = by_same (is_same_widget e.widget w) refl
    where
      by_same : (b : Bool) → is_same_widget e.widget w ≡ b → updates e.widget w ≡ true
      by_same true is = same_updates e.widget w is
      by_same false other = (taken_parts e (widgets_in kids) (each_can_take kids) w other can).0.updated

  matched : can_take_first child w ≡ true → matching (e.widget ∷ []) (w ∷ []) ≡ Some 0 ∷ []
  matched can = one_match e.widget w (can_update can)

  can_then : can_take_first child w ≡ true → can_take_drawn child (w ∷ []) ≡ true
  can_then can =
      ap (λ b. b && all_asked (each_can_take child) (w ∷ []) (matching (e.widget ∷ []) (w ∷ []))) (alone_apart w)
      ∙ ap (λ ms. all_asked (each_can_take child) (w ∷ []) ms) (matched can) ∙ and_true (can_take_first child w) ∙ can

  can_back : can_take_drawn child (w ∷ []) ≡ true → can_take_first child w ≡ true
  can_back can =
      let f = follow (widgets_in child) (w ∷ []) (each_can_take child) can in
      by_list (matching (e.widget ∷ []) (w ∷ [])) f.asked
    where
      by_list : (ms : List (Option ℕ)) → all_asked (each_can_take child) (w ∷ []) ms ≡ true → can_take_first child w ≡ true
      by_list [] asked = absurd (cc)
      by_list (None ∷ ms) asked = absurd (cc)
      by_list (Some zero ∷ ms) asked = (and_parts (can_take_first child w) true asked).0
      by_list (Some (suc j) ∷ ms) asked = absurd (cc)

  pub one_can : can_take_drawn child (w ∷ []) ≡ can_take_first child w
  one_can = both_ways (can_take_drawn child (w ∷ [])) (can_take_first child w) can_back can_then

  pub one_changes : can_take_first child w ≡ true → changes_of child (w ∷ []) ≡ changes_first child w
  one_changes can = ap (gathered (each_changing child) 0 (w ∷ [])) (matched can) ∙ append-nil (changes_first child w)

  pub one_moves : can_take_first child w ≡ true → moves_of child (w ∷ []) ≡ moves_first child w
  one_moves can = ap (gathered (each_moving 0 child) 0 (w ∷ [])) (matched can) ∙ append-nil (moves_first child w)

  pub one_in_order : can_take_first child w ≡ true → are_in_order 0 (places_of (matching (widgets_in child) (w ∷ []))) ≡ true
  one_in_order can = ap (λ ms. are_in_order 0 (places_of ms)) (matched can)

-- as many as the widgets, or none can be taken
pub not_one : (f : Forest Element) (w : PlainWidget) → (length (tops f) ≡ 1 → ⊥) → can_take_drawn f (w ∷ []) ≡ false
not_one f w other =
    ap (λ b. b && (are_apart (w ∷ []) && all_asked (each_can_take f) (w ∷ []) (matching (widgets_in f) (w ∷ [])))) (ne_eqb (length (widgets_in f)) 1 (λ is. other (sym (length-widgets f) ∙ is)))

-- what is written of such a row is what its elements become
pub row_in_order : (f : Forest Element) → HaveTheirOwn f → IsDistinct f → StandInTurn 0 f → (ws : List PlainWidget) → can_take_drawn f ws ≡ true → are_in_order 0 (places_of (matching (widgets_in f) ws)) ≡ true
    → written (o_of (changes_of f ws)) (g_of (changes_of f ws) (moves_of f ws)) f ≡ taking_elements f ws
row_in_order f own distinct order ws can in_order =
    let after = written (o_of (changes_of f ws)) (g_of (changes_of f ws) (moves_of f ws)) f in
    let many = places_many f ws (follow (widgets_in f) ws (each_can_take f) can) in
    let tall : length (tops after) ≡ length (tops f) = ap length (tops-written (o_of (changes_of f ws)) (g_of (changes_of f ws) (moves_of f ws)) f) in
    sym (all_in_turn 0 (places_of (matching (widgets_in f) ws)) after (omega (arith, many, tall)) in_order) ∙ row_written f own distinct order ws can

pub row_away : (f : Forest Element) (ws : List PlainWidget) (k : Handle) → count k f ≡ 0 → (o_of (changes_of f ws) k ≡ None) × ((e : Element) → g_of (changes_of f ws) (moves_of f ws) k e ≡ e)
row_away f ws k absent =
    let ms = matching (widgets_in f) ws in (
      ordered_none f k absent ws ms None,
      λ e. ap (after_moves (moves_of f ws) k) (changed_none f k absent ws ms e) ∙ moved_none f 0 k absent ws ms e,
    )

-- ---- the widgets may follow those that are there

-- a kind that has its own children declares no fields
no_fields : (look : Look) → has_own_children (build_role_of look) ≡ true → declared look ≡ []
no_fields (component place props d) own = cc
no_fields _ own = refl

pub follows : (v : Element) (w : PlainWidget) → TakesIt v w → CanFollow v.widget w
follows v w t = record {
  updates = (updates_mean v.widget w).0 t.updated;
  fields = no_fields (look_of w) t.now ∙ sym (no_fields (look_of v.widget) t.was);
}

module _ (t : Tree Element) where
  same_element : {x y : Element} → Some x ≡ Some y → x ≡ y
  same_element e = cc

  one_follows : (p : Option Handle) (h : Handle) (v : Element) (w : PlainWidget) (kids rest : Forest Element) (order : Option (List ℕ)) → Stands (node_at t) p (tree h v kids rest) → TakesIt v w → (render : Option Handle)
      → All (FollowsChange t) (change_of h render w order)
  one_follows p h v w kids rest order stands takes None = All-nil (FollowsChange t)
  one_follows p h v w kids rest order stands takes (Some at) =
      All-cons (FollowsChange t) (record { element = h; at = at; widget = w; order = order }) []
      (λ e is. subst (λ (x : Element). CanFollow x.widget w) (same_element (sym (ap (option_map (λ (n : TreeNode Element). n.value)) stands.0) ∙ is)) (follows v w takes))
      (All-nil (FollowsChange t))

  of_either : (own inner : List Change) (b : Bool) → (b ≡ false → All (FollowsChange t) own × All (FollowsChange t) inner) → All (FollowsChange t) (cond {A = List Change} b [] (own ++ inner))
  of_either own inner true p = All-nil (FollowsChange t)
  of_either own inner false p = All-append (FollowsChange t) own inner (p refl).0 (p refl).1

  each_follows : (p : Option Handle) (f : Forest Element) → Stands (node_at t) p f → (j : ℕ) (w : PlainWidget) (place : ℕ) → asked_by (slice_get (each_can_take f) j) w ≡ true
      → All (FollowsChange t) (gathered_by (slice_get (each_changing f) j) w place)
  each_follows p none stands j w place can = All-nil (FollowsChange t)
  each_follows p (tree h v kids rest) stands zero w place can =
      let ms = matching (widgets_in kids) (child_widgets w) in
      of_either (change_of h v.render w (order_of (places_of ms))) (gathered (each_changing kids) 0 (child_widgets w) ms) (is_same_widget v.widget w)
      (λ other.
      let parts = taken_parts v (widgets_in kids) (each_can_take kids) w other can in (
        one_follows p h v w kids rest (order_of (places_of ms)) stands parts.0 v.render,
        all_parts (FollowsChange t) (each_changing kids) (each_can_take kids) (each_follows (Some h) kids stands.1) 0 (child_widgets w) ms parts.1.asked,
      ))
  each_follows p (tree h v kids rest) stands (suc j) w place can = each_follows p rest stands.2 j w place can

  pub all_follow : (p : Option Handle) (f : Forest Element) (ws : List PlainWidget) → Stands (node_at t) p f → can_take_drawn f ws ≡ true → All (FollowsChange t) (changes_of f ws)
  all_follow p f ws stands can =
      all_parts (FollowsChange t) (each_changing f) (each_can_take f) (each_follows p f stands) 0 ws (matching (widgets_in f) ws) (follow (widgets_in f) ws (each_can_take f) can).asked

-- The nodes for which elements stand once they took widgets in their places, what they store, and which are flagged.
use Rattle.std.proofs.Common.{◌≡◌, ℕ, zero, suc, ◌≤◌, ◌==◌, Bool, true, false, not, ◌&&◌, ◌||◌, cond, Option, Some, None, is_some, List, [], ◌∷◌, ◌++◌, map, length, refl, sym, ap, ◌∙◌, subst, arith}
use Rattle.std.specs.Prelude.{slice_get}
use Rattle.std.specs.Option.{option_or, option_to_list}
use Rattle.std.proofs.lemmas.Bool.{and_parts}
use Rattle.fx_expr.specs.declared.values.Value.{Value}
use Rattle.fx_handles.specs.declared.Handle.{Handle}
use Rattle.fx_handles.specs.Handle.{same}
use Rattle.node_tree.specs.Forest.{Forest, tops, count, IsDistinct, append}
use Rattle.node_tree.specs.Forest.Forest.{none, tree}
use Rattle.node_tree.proofs.ForestLemmas.{hit-true}
use Rattle.widget_model.specs.Plain.{PlainWidget, look_of}
use Rattle.widget_model.specs.Plain.{children_of as child_widgets}
use Rattle.widget_model.specs.Update.{updates}
use Rattle.reconcile.specs.Matching.{matching}
use Rattle.plain_tree.specs.At.{node_in, is_there_in, changed_in}
use Rattle.plain_tree.specs.RenderRole.{render_role_of, vanishes}
use Rattle.plain_tree.specs.PlainNode.{PlainNode, node, PlainNodes, more_nodes, widget_of, list_of, nodes_of as listed}
use Rattle.build_form.specs.BuildRole.{BuildRole, composes, provides, keeps, lists, holds, build_role_of}
use Rattle.build_form.specs.Entering.{Blueprint, values_by, values_below}
use Rattle.element_tree.specs.Edits.{with_widget, with_index}
use Rattle.element_tree.specs.Element.{Element}
use Rattle.element_tree.specs.Nodes.{nodes_of}
use Rattle.work_sets.specs.Members.{is_same_widget}
use Rattle.build_walk.specs.Fresh.{HasOutput}
use Rattle.build_walk.specs.Past.{is_marked}
use Rattle.build_walk.specs.Telling.{HoldOutputs, FlagsAre}
use Rattle.build_walk.proofs.Siblings.{nodes_append}
use Rattle.settled_builds.specs.Rearranged.{each_drawn}
use Rattle.settled_builds.specs.Retaken.{gathered_by, gathered_at, gathered, asked_by, asked_at, all_asked, are_apart, can_follow_all, each_can, retaking_below}
use Rattle.settled_builds.specs.Retaken.{each_taking as each_node_taking}
use Rattle.settled_builds.specs.Taken.{has_own_children}
use Rattle.renewed_builds.specs.Renewing.{draws_its_own, widgets_in, takes_in_place, can_take_one, each_can_take, can_take_drawn, can_take_at, joined, each_taking, taking_elements, taken_at}
use Rattle.renewed_builds.proofs.Rows.{TakesIt, takes_it, taken_parts}
use Rattle.renewed_builds.proofs.Written.{joined-append}

-- ---- the widgets of nodes

pub widgets_are : (scrolled : ℕ → ℕ) (f : Forest Element) → map widget_of (list_of (listed (nodes_of scrolled f))) ≡ widgets_in f
widgets_are scrolled none = refl
widgets_are scrolled (tree h v kids rest) = ap (λ ws. v.widget ∷ ws) (widgets_are scrolled rest)

-- ---- the nodes

-- the nodes that take widgets
abbrev pub row_of : List PlainWidget → PlainNodes → List PlainNode
row_of ws ns = gathered (each_node_taking ns) 0 ws (matching (map widget_of (list_of ns)) ws)

module _ (scrolled : ℕ → ℕ) where
  abbrev of_all : Forest Element → PlainNodes
  of_all f = listed (nodes_of scrolled f)

  -- one place of a forest gives what the place of its nodes gives
  abbrev PartsAre : Forest Element → Type 0
  PartsAre f = (j : ℕ) (w : PlainWidget) (place : ℕ) → nodes_of scrolled (joined (gathered_by (slice_get (each_taking f) j) w place)) ≡ gathered_by (slice_get (each_node_taking (of_all f)) j) w place

  part_at : (f : Forest Element) → PartsAre f → (m : Option ℕ) (w : PlainWidget) (place : ℕ) → nodes_of scrolled (joined (gathered_at (each_taking f) m w place)) ≡ gathered_at (each_node_taking (of_all f)) m w place
  part_at f parts None w place = refl
  part_at f parts (Some j) w place = parts j w place

  all_parts : (f : Forest Element) → PartsAre f → (place : ℕ) (ws : List PlainWidget) (ms : List (Option ℕ)) → nodes_of scrolled (joined (gathered (each_taking f) place ws ms)) ≡ gathered (each_node_taking (of_all f)) place ws ms
  all_parts f parts place [] ms = refl
  all_parts f parts place (w ∷ ws) [] = refl
  all_parts f parts place (w ∷ ws) (m ∷ ms) =
      ap (nodes_of scrolled) (joined-append (gathered_at (each_taking f) m w place) (gathered (each_taking f) (suc place) ws ms))
      ∙ nodes_append scrolled (joined (gathered_at (each_taking f) m w place)) (joined (gathered (each_taking f) (suc place) ws ms))
      ∙ (λ i. part_at f parts m w place i ++ all_parts f parts (suc place) ws ms i)

  row_is : (f : Forest Element) → PartsAre f → (ws : List PlainWidget) → nodes_of scrolled (taking_elements f ws) ≡ row_of ws (of_all f)
  row_is f parts ws =
      all_parts f parts 0 ws (matching (widgets_in f) ws)
      ∙ ap (λ olds. gathered (each_node_taking (of_all f)) 0 ws (matching olds ws)) (sym (widgets_are scrolled f))

  part_one : (h : Handle) (v : Element) (kids now : Forest Element) (taken : List PlainNode) (w : PlainWidget) (place : ℕ) → nodes_of scrolled now ≡ taken → (b : Bool)
      → nodes_of scrolled (joined (tree h (with_index place (cond b v (with_widget w v))) (cond b kids now) none ∷ []))
      ≡ cond b (node v.number v.widget v.fields (scrolled v.number) place (of_all kids)) (node v.number w v.fields (scrolled v.number) place (listed taken)) ∷ []
  part_one h v kids now taken w place is true = refl
  part_one h v kids now taken w place is false = ap (λ ns. node v.number w v.fields (scrolled v.number) place (listed ns) ∷ []) is

  parts_are : (f : Forest Element) → PartsAre f
  parts_are none j w place = refl
  parts_are (tree h v kids rest) zero w place =
      part_one h v kids (taking_elements kids (child_widgets w)) (row_of (child_widgets w) (of_all kids)) w place (row_is kids (parts_are kids) (child_widgets w)) (is_same_widget v.widget w)
  parts_are (tree h v kids rest) (suc j) w place = parts_are rest j w place

  pub nodes_taking : (f : Forest Element) (ws : List PlainWidget) → nodes_of scrolled (taking_elements f ws) ≡ row_of ws (of_all f)
  nodes_taking f ws = row_is f (parts_are f) ws

  -- ---- where elements can take widgets, so can their nodes

  abbrev PartsCan : Forest Element → Type 0
  PartsCan f = (j : ℕ) (w : PlainWidget) → asked_by (slice_get (each_can_take f) j) w ≡ true → asked_by (slice_get (each_can (of_all f)) j) w ≡ true

  can_at : (f : Forest Element) → PartsCan f → (m : Option ℕ) (w : PlainWidget) → asked_at (each_can_take f) m w ≡ true → asked_at (each_can (of_all f)) m w ≡ true
  can_at f parts None w can = can
  can_at f parts (Some j) w can = parts j w can

  two : (a b : Bool) → a ≡ true → b ≡ true → (a && b) ≡ true
  two true b e d = d
  two false b e d = cc

  all_can : (f : Forest Element) → PartsCan f → (ws : List PlainWidget) (ms : List (Option ℕ)) → all_asked (each_can_take f) ws ms ≡ true → all_asked (each_can (of_all f)) ws ms ≡ true
  all_can f parts [] ms can = refl
  all_can f parts (w ∷ ws) [] can = can
  all_can f parts (w ∷ ws) (m ∷ ms) can =
      let p = and_parts (asked_at (each_can_take f) m w) (all_asked (each_can_take f) ws ms) can in
      two _ _ (can_at f parts m w p.0) (all_can f parts ws ms p.1)

  row_can : (f : Forest Element) → PartsCan f → (ws : List PlainWidget) → can_take_drawn f ws ≡ true → can_follow_all (map widget_of (list_of (of_all f))) ws (each_can (of_all f)) ≡ true
  row_can f parts ws can =
      let p = and_parts (length (widgets_in f) == length ws) (are_apart ws && all_asked (each_can_take f) ws (matching (widgets_in f) ws)) can in
      let q = and_parts (are_apart ws) (all_asked (each_can_take f) ws (matching (widgets_in f) ws)) p.1 in
      subst (λ olds. can_follow_all olds ws (each_can (of_all f)) ≡ true) (sym (widgets_are scrolled f))
      (two _ _ p.0 (two _ _ q.0 (all_can f parts ws (matching (widgets_in f) ws) q.1)))

  can_one : (v : Element) (w : PlainWidget) (inner nodes : Bool) → (inner ≡ true → nodes ≡ true) → (b : Bool) → (b || (takes_in_place v w && inner)) ≡ true
      → (b || (updates v.widget w && (has_own_children (build_role_of (look_of v.widget)) && (has_own_children (build_role_of (look_of w)) && nodes)))) ≡ true
  can_one v w inner nodes step true can = refl
  can_one v w inner nodes step false can =
      let p = and_parts (takes_in_place v w) inner can in
      let t = takes_it v w p.0 in
      two _ _ t.updated (two _ _ t.was (two _ _ t.now (step p.1)))

  parts_can : (f : Forest Element) → PartsCan f
  parts_can none j w can = can
  parts_can (tree h v kids rest) zero w can =
      can_one v w (can_take_drawn kids (child_widgets w)) (can_follow_all (map widget_of (list_of (of_all kids))) (child_widgets w) (each_can (of_all kids)))
      (row_can kids (parts_can kids) (child_widgets w)) (is_same_widget v.widget w) can
  parts_can (tree h v kids rest) (suc j) w can = parts_can rest j w can

  pub nodes_can : (f : Forest Element) (ws : List PlainWidget) → can_take_drawn f ws ≡ true → can_follow_all (map widget_of (list_of (of_all f))) ws (each_can (of_all f)) ≡ true
  nodes_can f ws can = row_can f (parts_can f) ws can

  -- ---- where elements can take widgets, each of their nodes that takes another one has a render node

  abbrev PartsDrawn : Forest Element → Type 0
  PartsDrawn f = (j : ℕ) (w : PlainWidget) → asked_by (slice_get (each_can_take f) j) w ≡ true → asked_by (slice_get (each_drawn (of_all f)) j) w ≡ true

  drawn_at : (f : Forest Element) → PartsDrawn f → (m : Option ℕ) (w : PlainWidget) → asked_at (each_can_take f) m w ≡ true → asked_at (each_drawn (of_all f)) m w ≡ true
  drawn_at f parts None w can = can
  drawn_at f parts (Some j) w can = parts j w can

  all_drawn : (f : Forest Element) → PartsDrawn f → (ws : List PlainWidget) (ms : List (Option ℕ)) → all_asked (each_can_take f) ws ms ≡ true → all_asked (each_drawn (of_all f)) ws ms ≡ true
  all_drawn f parts [] ms can = refl
  all_drawn f parts (w ∷ ws) [] can = can
  all_drawn f parts (w ∷ ws) (m ∷ ms) can =
      let p = and_parts (asked_at (each_can_take f) m w) (all_asked (each_can_take f) ws ms) can in
      two _ _ (drawn_at f parts m w p.0) (all_drawn f parts ws ms p.1)

  row_drawn : (f : Forest Element) → PartsDrawn f → (ws : List PlainWidget) → can_take_drawn f ws ≡ true → all_asked (each_drawn (of_all f)) ws (matching (map widget_of (list_of (of_all f))) ws) ≡ true
  row_drawn f parts ws can =
      let p = and_parts (length (widgets_in f) == length ws) (are_apart ws && all_asked (each_can_take f) ws (matching (widgets_in f) ws)) can in
      let q = and_parts (are_apart ws) (all_asked (each_can_take f) ws (matching (widgets_in f) ws)) p.1 in
      subst (λ olds. all_asked (each_drawn (of_all f)) ws (matching olds ws) ≡ true) (sym (widgets_are scrolled f)) (all_drawn f parts ws (matching (widgets_in f) ws) q.1)

  is_drawn : (v : Element) (w : PlainWidget) → takes_in_place v w ≡ true → not (vanishes (render_role_of (look_of v.widget))) ≡ true
  is_drawn v w takes =
      let rest = (and_parts (updates v.widget w) _ takes).1 in
      let own = (and_parts (draws_its_own (look_of v.widget)) _ rest).0 in
      (and_parts (has_own_children (build_role_of (look_of v.widget))) (not (vanishes (render_role_of (look_of v.widget)))) own).1

  drawn_one : (v : Element) (w : PlainWidget) (inner nodes : Bool) → (inner ≡ true → nodes ≡ true) → (b : Bool) → (b || (takes_in_place v w && inner)) ≡ true → (b || (not (vanishes (render_role_of (look_of v.widget))) && nodes)) ≡ true
  drawn_one v w inner nodes step true can = refl
  drawn_one v w inner nodes step false can = let p = and_parts (takes_in_place v w) inner can in two _ _ (is_drawn v w p.0) (step p.1)

  parts_drawn : (f : Forest Element) → PartsDrawn f
  parts_drawn none j w can = can
  parts_drawn (tree h v kids rest) zero w can =
      drawn_one v w (can_take_drawn kids (child_widgets w)) (all_asked (each_drawn (of_all kids)) (child_widgets w) (matching (map widget_of (list_of (of_all kids))) (child_widgets w)))
      (row_drawn kids (parts_drawn kids) (child_widgets w)) (is_same_widget v.widget w) can
  parts_drawn (tree h v kids rest) (suc j) w can = parts_drawn rest j w can

  pub nodes_drawn : (f : Forest Element) (ws : List PlainWidget) → can_take_drawn f ws ≡ true → all_asked (each_drawn (of_all f)) ws (matching (map widget_of (list_of (of_all f))) ws) ≡ true
  nodes_drawn f ws can = row_drawn f (parts_drawn f) ws can

-- ---- the element with a number

-- of the elements of a forest the one at a handle has a number, and no other one
abbrev pub HasNumberAt : Handle → ℕ → Forest Element → Type 0
HasNumberAt h number none = Unit {0}
HasNumberAt h number (tree k v kids rest) = ((v.number == number) ≡ same k h) × HasNumberAt h number kids × HasNumberAt h number rest

-- whether a handle stands in it
abbrev pub stands_in : Handle → Forest Element → Bool
stands_in h none = false
stands_in h (tree k v kids rest) = same k h || (stands_in h kids || stands_in h rest)

counted : (h k : Handle) (v : Element) (kids rest : Forest Element) (b c : Bool) → same k h ≡ b → (c ≡ true → 1 ≤ count h kids) → (d : Bool) → (d ≡ true → 1 ≤ count h rest) → (b || (c || d)) ≡ true → 1 ≤ count h (tree k v kids rest)
counted h k v kids rest true c is p d q e = let one = hit-true h k is in omega (arith, one)
counted h k v kids rest false true is p d q e = let one = p refl in omega (arith, one)
counted h k v kids rest false false is p d q e = let one = q e in omega (arith, one)

pub stands_counted : (h : Handle) (f : Forest Element) → stands_in h f ≡ true → 1 ≤ count h f
stands_counted h none e = cc
stands_counted h (tree k v kids rest) e = counted h k v kids rest (same k h) (stands_in h kids) refl (stands_counted h kids) (stands_in h rest) (stands_counted h rest) e

by_count : (h : Handle) (f : Forest Element) (b : Bool) → stands_in h f ≡ b → count h f ≡ 0 → stands_in h f ≡ false
by_count h f true e absent = absurd (let one = stands_counted h f e in omega (arith, one, absent))
by_count h f false e absent = e

pub counted_out : (h : Handle) (f : Forest Element) → count h f ≡ 0 → stands_in h f ≡ false
counted_out h f absent = by_count h f (stands_in h f) refl absent

or_neither : (a b : Bool) → (a || b) ≡ false → (a ≡ false) × (b ≡ false)
or_neither true b e = cc
or_neither false b e = (refl, e)

-- where the handle doesn't stand nothing is taken
pub taken_nowhere : (h : Handle) (ws : List PlainWidget) (f : Forest Element) → stands_in h f ≡ false → taken_at h ws f ≡ f
taken_nowhere h ws none e = refl
taken_nowhere h ws (tree k v kids rest) e =
    let p = or_neither (same k h) (stands_in h kids || stands_in h rest) e in
    let q = or_neither (stands_in h kids) (stands_in h rest) p.1 in
    ap (λ (b : Bool). tree k v (cond b (taking_elements kids ws) (taken_at h ws kids)) (taken_at h ws rest)) p.0
    ∙ (λ i. tree k v (taken_nowhere h ws kids q.0 i) (taken_nowhere h ws rest q.1 i))

pub some_of : {X : Type 0} (x y : Option X) → is_some (option_or x y) ≡ (is_some x || is_some y)
some_of None y = refl
some_of (Some x) y = refl

pub distinct_below : (h : Handle) (v : Element) (kids rest : Forest Element) → IsDistinct (tree h v kids rest) → IsDistinct kids
distinct_below h v kids rest distinct k = let few = distinct k in omega (arith, few)

pub distinct_later : (h : Handle) (v : Element) (kids rest : Forest Element) → IsDistinct (tree h v kids rest) → IsDistinct rest
distinct_later h v kids rest distinct k = let few = distinct k in omega (arith, few)

module _ (scrolled : ℕ → ℕ) (h : Handle) (number : ℕ) where
  abbrev node_of : Element → Forest Element → PlainNode
  node_of v kids = node v.number v.widget v.fields (scrolled v.number) v.index (listed (nodes_of scrolled kids))

  some_here : (v : Element) (kids : Forest Element) (b : Bool) → is_some (cond b (Some (node_of v kids)) (node_in number (listed (nodes_of scrolled kids)))) ≡ (b || is_there_in number (listed (nodes_of scrolled kids)))
  some_here v kids true = refl
  some_here v kids false = refl

  or_or : (a b c : Bool) → ((a || b) || c) ≡ (a || (b || c))
  or_or true b c = refl
  or_or false b c = refl

  -- the node with the number is there where the handle stands
  pub there : (f : Forest Element) → HasNumberAt h number f → is_there_in number (listed (nodes_of scrolled f)) ≡ stands_in h f
  there none has = refl
  there (tree k v kids rest) has =
      some_of (cond (v.number == number) (Some (node_of v kids)) (node_in number (listed (nodes_of scrolled kids)))) (node_in number (listed (nodes_of scrolled rest)))
      ∙ ap (λ (b : Bool). b || is_there_in number (listed (nodes_of scrolled rest))) (some_here v kids (v.number == number))
      ∙ (λ i. (has.0 i || there kids has.1 i) || there rest has.2 i)
      ∙ or_or (same k h) (stands_in h kids) (stands_in h rest)

  there_here : (k : Handle) (v : Element) (kids rest : Forest Element) → HasNumberAt h number (tree k v kids rest)
      → is_some (cond (v.number == number) (Some (node_of v kids)) (node_in number (listed (nodes_of scrolled kids)))) ≡ (same k h || stands_in h kids)
  there_here k v kids rest has = some_here v kids (v.number == number) ∙ (λ i. has.0 i || there kids has.1 i)

  module _ (ws : List PlainWidget) where
    abbrev changed : PlainNodes → PlainNodes
    changed ns = changed_in (retaking_below ws) number ns

    abbrev with_row : Element → Forest Element → PlainNode
    with_row v kids = node v.number v.widget v.fields (scrolled v.number) v.index (listed (row_of ws (listed (nodes_of scrolled kids))))

    abbrev with_changed : Element → Forest Element → PlainNode
    with_changed v kids = node v.number v.widget v.fields (scrolled v.number) v.index (changed (listed (nodes_of scrolled kids)))

    -- the first tree is changed, or what is after it
    changed_one : (k : Handle) (v : Element) (kids rest : Forest Element) → HasNumberAt h number (tree k v kids rest)
        → changed (listed (nodes_of scrolled (tree k v kids rest)))
        ≡ cond (same k h || stands_in h kids)
        (more_nodes (cond (same k h) (with_row v kids) (with_changed v kids)) (listed (nodes_of scrolled rest)))
        (more_nodes (node_of v kids) (changed (listed (nodes_of scrolled rest))))
    changed_one k v kids rest has =
        ap (λ (b : Bool). cond b (more_nodes (cond (v.number == number) (with_row v kids) (with_changed v kids)) (listed (nodes_of scrolled rest))) (more_nodes (node_of v kids) (changed (listed (nodes_of scrolled rest))))) (there_here k v kids rest has)
        ∙ ap (λ (b : Bool). cond (same k h || stands_in h kids) (more_nodes (cond b (with_row v kids) (with_changed v kids)) (listed (nodes_of scrolled rest))) (more_nodes (node_of v kids) (changed (listed (nodes_of scrolled rest))))) has.0

    taken_one : (k : Handle) (v : Element) (kids rest : Forest Element) (b c : Bool) → same k h ≡ b → stands_in h kids ≡ c → IsDistinct (tree k v kids rest)
        → (listed (nodes_of scrolled (taken_at h ws kids)) ≡ changed (listed (nodes_of scrolled kids))) → (listed (nodes_of scrolled (taken_at h ws rest)) ≡ changed (listed (nodes_of scrolled rest)))
        → more_nodes (node v.number v.widget v.fields (scrolled v.number) v.index (listed (nodes_of scrolled (cond b (taking_elements kids ws) (taken_at h ws kids))))) (listed (nodes_of scrolled (taken_at h ws rest)))
        ≡ cond (b || c)
        (more_nodes (cond b (with_row v kids) (with_changed v kids)) (listed (nodes_of scrolled rest)))
        (more_nodes (node_of v kids) (changed (listed (nodes_of scrolled rest))))
    taken_one k v kids rest true c is in_kids distinct low more =
        let gone = taken_nowhere h ws rest (counted_out h rest (let few = distinct h in let one = hit-true h k is in omega (arith, few, one))) in
        λ i. more_nodes (node v.number v.widget v.fields (scrolled v.number) v.index (listed (nodes_taking scrolled kids ws i))) (listed (nodes_of scrolled (gone i)))
    taken_one k v kids rest false true is in_kids distinct low more =
        let gone = taken_nowhere h ws rest (counted_out h rest (let few = distinct h in let one = stands_counted h kids in_kids in omega (arith, few, one))) in
        λ i. more_nodes (node v.number v.widget v.fields (scrolled v.number) v.index (low i)) (listed (nodes_of scrolled (gone i)))
    taken_one k v kids rest false false is in_kids distinct low more =
        λ i. more_nodes (node v.number v.widget v.fields (scrolled v.number) v.index (listed (nodes_of scrolled (taken_nowhere h ws kids in_kids i)))) (more i)

    -- elements that take widgets below a handle stand for the nodes that take them below the node with the number
    pub nodes_taken : (f : Forest Element) → HasNumberAt h number f → IsDistinct f → listed (nodes_of scrolled (taken_at h ws f)) ≡ changed (listed (nodes_of scrolled f))
    nodes_taken none has distinct = refl
    nodes_taken (tree k v kids rest) has distinct =
        taken_one k v kids rest (same k h) (stands_in h kids) refl refl distinct
        (nodes_taken kids has.1 (distinct_below k v kids rest distinct)) (nodes_taken rest has.2 (distinct_later k v kids rest distinct))
        ∙ sym (changed_one k v kids rest has)

-- ---- what is so of forests one after another

module _ (Q : Forest Element → Type 0) (empty : Q none) (both : (f g : Forest Element) → Q f → Q g → Q (append f g)) (takes : List (PlainWidget → ℕ → List (Forest Element))) (cans : List (PlainWidget → Bool))
    (each : (j : ℕ) (w : PlainWidget) (place : ℕ) → asked_by (slice_get cans j) w ≡ true → Q (joined (gathered_by (slice_get takes j) w place))) where
  so_at : (m : Option ℕ) (w : PlainWidget) (place : ℕ) → asked_at cans m w ≡ true → Q (joined (gathered_at takes m w place))
  so_at None w place can = empty
  so_at (Some j) w place can = each j w place can

  so_all : (place : ℕ) (ws : List PlainWidget) (ms : List (Option ℕ)) → all_asked cans ws ms ≡ true → Q (joined (gathered takes place ws ms))
  so_all place [] ms can = empty
  so_all place (w ∷ ws) [] can = empty
  so_all place (w ∷ ws) (m ∷ ms) can =
      let p = and_parts (asked_at cans m w) (all_asked cans ws ms) can in
      subst Q (sym (joined-append (gathered_at takes m w place) (gathered takes (suc place) ws ms)))
      (both (joined (gathered_at takes m w place)) (joined (gathered takes (suc place) ws ms)) (so_at m w place p.0) (so_all (suc place) ws ms p.1))

  pub so_row : (olds ws : List PlainWidget) → can_follow_all olds ws cans ≡ true → Q (joined (gathered takes 0 ws (matching olds ws)))
  so_row olds ws can =
      let p = and_parts (length olds == length ws) (are_apart ws && all_asked cans ws (matching olds ws)) can in
      so_all 0 ws (matching olds ws) (and_parts (are_apart ws) (all_asked cans ws (matching olds ws)) p.1).1

pub test_here : (b a c : Bool) → b ≡ true → cond b a c ≡ true → a ≡ true
test_here true a c e can = can
test_here false a c e can = cc

pub test_there : (b a c : Bool) → b ≡ false → cond b a c ≡ true → c ≡ true
test_there true a c e can = cc
test_there false a c e can = can

-- what is below an element that takes another widget can take the widget's children
below_can : (v : Element) (w : PlainWidget) (kids : Forest Element) → is_same_widget v.widget w ≡ false → can_take_one v (widgets_in kids) (each_can_take kids) w ≡ true → can_take_drawn kids (child_widgets w) ≡ true
below_can v w kids other can = (and_parts (takes_in_place v w) (can_take_drawn kids (child_widgets w)) (or_right (is_same_widget v.widget w) _ other can)).1
  where
    or_right : (x y : Bool) → x ≡ false → (x || y) ≡ true → y ≡ true
    or_right true y e d = cc
    or_right false y e d = d

-- ---- what is stored

pub own_gives : (b : Blueprint) (p : BuildRole) (w : PlainWidget) (fields values : List Value) (number : ℕ) (ws : List PlainWidget) → has_own_children p ≡ true → HasOutput b p w fields values number ws
own_gives b (composes place props) w fields values number ws own = cc
own_gives b (provides name value) w fields values number ws own = tt
own_gives b (keeps kept) w fields values number ws own = tt
own_gives b (lists extent) w fields values number ws own = tt
own_gives b holds w fields values number ws own = tt

pub own_values : (p : BuildRole) (values : List Value) → has_own_children p ≡ true → values_by p values ≡ values
own_values (composes place props) values own = refl
own_values (provides name value) values own = cc
own_values (keeps kept) values own = refl
own_values (lists extent) values own = refl
own_values holds values own = refl

module _ (b : Blueprint) where
  hold_both : (values : List Value) (f g : Forest Element) → HoldOutputs b values f → HoldOutputs b values g → HoldOutputs b values (append f g)
  hold_both values none g p q = q
  hold_both values (tree h v kids rest) g p q = (p.0, p.1, hold_both values rest g p.2 q)

  abbrev HoldsOne : List Value → Element → Type 0
  HoldsOne values v = v.dirty ≡ false → HasOutput b (build_role_of (look_of v.widget)) v.widget v.fields values v.number (option_to_list v.output)

  hold_one : (values : List Value) (h : Handle) (v : Element) (w : PlainWidget) (place : ℕ) (kids now : Forest Element) → HoldsOne values v → HoldOutputs b (values_below v.widget values) kids
      → (s : Bool) → (s ≡ false → TakesIt v w × HoldOutputs b (values_below v.widget values) now)
      → HoldOutputs b values (joined (tree h (with_index place (cond s v (with_widget w v))) (cond s kids now) none ∷ []))
  hold_one values h v w place kids now own low true step = (own, low, tt)
  hold_one values h v w place kids now own low false step =
      let t = step refl in (
        λ clean. own_gives b (build_role_of (look_of w)) w v.fields values v.number (option_to_list v.output) t.0.now,
        subst (λ (vs : List Value). HoldOutputs b vs now) (own_values (build_role_of (look_of v.widget)) values t.0.was ∙ sym (own_values (build_role_of (look_of w)) values t.0.now)) t.1,
        tt,
      )

  abbrev PartsHold : List Value → Forest Element → Type 0
  PartsHold values f = (j : ℕ) (w : PlainWidget) (place : ℕ) → asked_by (slice_get (each_can_take f) j) w ≡ true → HoldOutputs b values (joined (gathered_by (slice_get (each_taking f) j) w place))

  row_holds : (values : List Value) (f : Forest Element) → PartsHold values f → (ws : List PlainWidget) → can_take_drawn f ws ≡ true → HoldOutputs b values (taking_elements f ws)
  row_holds values f parts ws can = so_row (HoldOutputs b values) tt (hold_both values) (each_taking f) (each_can_take f) parts (widgets_in f) ws can

  parts_hold : (values : List Value) (f : Forest Element) → HoldOutputs b values f → PartsHold values f
  parts_hold values none held j w place can = tt
  parts_hold values (tree h v kids rest) held zero w place can =
      hold_one values h v w place kids (taking_elements kids (child_widgets w)) held.0 held.1 (is_same_widget v.widget w)
      (λ other.
      let p = taken_parts v (widgets_in kids) (each_can_take kids) w other can in (
        p.0,
        so_row (HoldOutputs b (values_below v.widget values)) tt (hold_both (values_below v.widget values)) (each_taking kids) (each_can_take kids) (parts_hold (values_below v.widget values) kids held.1)
            (widgets_in kids) (child_widgets w) (below_can v w kids other can),
      ))
  parts_hold values (tree h v kids rest) held (suc j) w place can = parts_hold values rest held.2 j w place can

  pub hold_taking : (values : List Value) (f : Forest Element) (ws : List PlainWidget) → can_take_drawn f ws ≡ true → HoldOutputs b values f → HoldOutputs b values (taking_elements f ws)
  hold_taking values f ws can held = row_holds values f (parts_hold values f held) ws can

  hold_either : (values : List Value) (f g : Forest Element) (s : Bool) → (s ≡ true → HoldOutputs b values f) → (s ≡ false → HoldOutputs b values g) → HoldOutputs b values (cond s f g)
  hold_either values f g true p q = p refl
  hold_either values f g false p q = q refl

  pub hold_taken : (values : List Value) (h : Handle) (ws : List PlainWidget) (f : Forest Element) → can_take_at h ws f ≡ true → HoldOutputs b values f → HoldOutputs b values (taken_at h ws f)
  hold_taken values h ws none can held = tt
  hold_taken values h ws (tree k v kids rest) can held =
      let parts = and_parts (cond (same k h) (can_take_drawn kids ws) (can_take_at h ws kids)) (can_take_at h ws rest) can in (
        held.0,
        hold_either (values_below v.widget values) (taking_elements kids ws) (taken_at h ws kids) (same k h)
            (λ is. hold_taking (values_below v.widget values) kids ws (test_here (same k h) _ _ is parts.0) held.1)
            (λ other. hold_taken (values_below v.widget values) h ws kids (test_there (same k h) _ _ other parts.0) held.1),
        hold_taken values h ws rest parts.1 held.2,
      )

-- ---- what is flagged

module _ (marks : List ℕ) where
  flags_both : (f g : Forest Element) → FlagsAre marks f → FlagsAre marks g → FlagsAre marks (append f g)
  flags_both none g p q = q
  flags_both (tree h v kids rest) g p q = (p.0, p.1, flags_both rest g p.2 q)

  flags_one : (h : Handle) (v : Element) (w : PlainWidget) (place : ℕ) (kids now : Forest Element) → (v.dirty ≡ is_marked marks v.number) → FlagsAre marks kids → (s : Bool) → (s ≡ false → FlagsAre marks now)
      → FlagsAre marks (joined (tree h (with_index place (cond s v (with_widget w v))) (cond s kids now) none ∷ []))
  flags_one h v w place kids now own low true step = (own, low, tt)
  flags_one h v w place kids now own low false step = (own, step refl, tt)

  abbrev PartsFlagged : Forest Element → Type 0
  PartsFlagged f = (j : ℕ) (w : PlainWidget) (place : ℕ) → asked_by (slice_get (each_can_take f) j) w ≡ true → FlagsAre marks (joined (gathered_by (slice_get (each_taking f) j) w place))

  parts_flagged : (f : Forest Element) → FlagsAre marks f → PartsFlagged f
  parts_flagged none flags j w place can = tt
  parts_flagged (tree h v kids rest) flags zero w place can =
      flags_one h v w place kids (taking_elements kids (child_widgets w)) flags.0 flags.1 (is_same_widget v.widget w)
      (λ other. so_row (FlagsAre marks) tt flags_both (each_taking kids) (each_can_take kids) (parts_flagged kids flags.1) (widgets_in kids) (child_widgets w)
      (below_can v w kids other can))
  parts_flagged (tree h v kids rest) flags (suc j) w place can = parts_flagged rest flags.2 j w place can

  pub flags_taking : (f : Forest Element) (ws : List PlainWidget) → can_take_drawn f ws ≡ true → FlagsAre marks f → FlagsAre marks (taking_elements f ws)
  flags_taking f ws can flags = so_row (FlagsAre marks) tt flags_both (each_taking f) (each_can_take f) (parts_flagged f flags) (widgets_in f) ws can

  flags_either : (f g : Forest Element) (s : Bool) → (s ≡ true → FlagsAre marks f) → (s ≡ false → FlagsAre marks g) → FlagsAre marks (cond s f g)
  flags_either f g true p q = p refl
  flags_either f g false p q = q refl

  pub flags_taken : (h : Handle) (ws : List PlainWidget) (f : Forest Element) → can_take_at h ws f ≡ true → FlagsAre marks f → FlagsAre marks (taken_at h ws f)
  flags_taken h ws none can flags = tt
  flags_taken h ws (tree k v kids rest) can flags =
      let parts = and_parts (cond (same k h) (can_take_drawn kids ws) (can_take_at h ws kids)) (can_take_at h ws rest) can in (
        flags.0,
        flags_either (taking_elements kids ws) (taken_at h ws kids) (same k h)
            (λ is. flags_taking kids ws (test_here (same k h) _ _ is parts.0) flags.1)
            (λ other. flags_taken h ws kids (test_there (same k h) _ _ other parts.0) flags.1),
        flags_taken h ws rest parts.1 flags.2,
      )

pub tops_taken : (h : Handle) (ws : List PlainWidget) (f : Forest Element) → tops (taken_at h ws f) ≡ tops f
tops_taken h ws none = refl
tops_taken h ws (tree k v kids rest) = ap (λ (hs : List Handle). k ∷ hs) (tops_taken h ws rest)

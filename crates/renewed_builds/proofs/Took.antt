-- What is below an element took a widget: once the changes, the places and the orders are written, the forest is what it becomes.
use Rattle.std.proofs.Common.{◌≡◌, ℕ, suc, ◌+◌, ◌<◌, ◌≤◌, Bool, true, false, Option, Some, None, is_some, IfSome, option_map, List, [], ◌∷◌, ◌++◌, length, map, get_or, refl, sym, ap, ◌∙◌, subst, arith}
use Rattle.std.specs.List.{All}
use Rattle.std.specs.Option.{option_to_list}
use Rattle.std.proofs.lemmas.List.Elements.{All-weaker}
use Rattle.fx_handles.specs.declared.Handle.{Handle}
use Rattle.fx_handles.specs.Handle.{same, times, Among, AreDistinct}
use Rattle.node_tree.specs.Children.{Nth, MapsValues}
use Rattle.node_tree.specs.Edits.{CanReorder, CanReorderAll, ReordersAll}
use Rattle.node_tree.specs.Forest.{TreeNode, Forest, tops, In, IsDistinct, below, skip, tree_of, trees_at, in_order, reordered, map_values, Stands}
use Rattle.node_tree.specs.Forest.Forest.{none, tree}
use Rattle.node_tree.specs.Tree.{Tree, Holds, Is, IsNode, node_at, children_of, children_at, subtree_at, tops_at}
use Rattle.node_tree.proofs.Children.{skip_all, below-stands}
use Rattle.node_tree.proofs.Reordering.{times_alike}
use Rattle.widget_model.specs.Plain.{PlainWidget}
use Rattle.reconcile.specs.Matching.{matching}
use Rattle.element_tree.specs.Element.{Element}
use Rattle.renewed_builds.specs.declared.taking.Moved.{Moved}
use Rattle.renewed_builds.specs.Renewing.{Change, are_in_order, places_of, taking_elements, widgets_in, can_take_drawn, can_take_at, changes_of, changes_at, moves_of, each_can_take, each_changing, taken_at}
use Rattle.renewed_builds.specs.Taking.{StandInTurn, HaveTheirOwn, can_take_first, changes_first, moves_first, FollowsChange, CanOrder, handles_at, order_after, orders_by, OrdersAll, after_changes, after_moves, WritesAll}
use Rattle.renewed_builds.proofs.Changing.{zero_handle, nth_of}
use Rattle.renewed_builds.proofs.Gathered.{all_parts}
use Rattle.renewed_builds.proofs.Ordering.{AlikeLaw, each_order, can_reorder, row_seldom}
use Rattle.renewed_builds.proofs.Rows.{follow, o_of, g_of}
use Rattle.renewed_builds.proofs.Seen.{elements_of}
use Rattle.renewed_builds.proofs.Whole.{at_tree, taken_is, one_can, one_changes, one_moves, one_in_order, not_one, row_in_order, row_away, all_follow}
use Rattle.renewed_builds.proofs.Written.{written, reordered_is}

-- ---- the one child

-- what is below an element is one tree, which is that of its child
pub record OneBelow (t : Tree Element) (h k : Handle) : Type 0 where
  pub value : Element
  pub kids : Forest Element
  pub is : below (subtree_at t h) ≡ tree k value kids none
  pub subtree : subtree_at t k ≡ tree k value kids none
  pub holds : Holds t k

pub one_below : (t : Tree Element) (h : Handle) (hs : List Handle) → Holds t h → hs ≡ children_at t h → length hs ≡ 1 → OneBelow t h (get_or hs 0 zero_handle)
one_below t h hs holds value one =
    let n = nth_of t h hs 0 holds value (omega (arith, one)) in
    let low = below (subtree_at t h) in
    let tall : length (tops low) ≡ 1 = ap length (below-stands t h holds).1 ∙ ap length (sym value) ∙ one in
    let rest : skip (0 + 1) low ≡ none = skip_all (0 + 1) low (omega (arith, tall)) in
    record {
      value = n.value;
      kids = n.kids;
      is = n.skips ∙ ap (tree (get_or hs 0 zero_handle) n.value n.kids) rest;
      subtree = n.subtree;
      holds = n.holds;
    }

pub none_or_more : (t : Tree Element) (h : Handle) (hs : List Handle) (w : PlainWidget) → Holds t h → hs ≡ children_at t h → (length hs ≡ 1 → ⊥) → can_take_drawn (below (subtree_at t h)) (w ∷ []) ≡ false
none_or_more t h hs w holds value other = not_one (below (subtree_at t h)) w (λ is. other (ap length value ∙ sym (ap length (below-stands t h holds).1) ∙ is))

module _ (t : Tree Element) (h k : Handle) (one : OneBelow t h k) (w : PlainWidget) where
  abbrev low : Forest Element
  low = below (subtree_at t h)

  pub child_own : HaveTheirOwn low → HaveTheirOwn (subtree_at t k)
  child_own own = subst HaveTheirOwn (one.is ∙ sym one.subtree) own

  pub child_can : can_take_drawn low (w ∷ []) ≡ can_take_first (subtree_at t k) w
  child_can = ap (λ s. can_take_drawn s (w ∷ [])) one.is ∙ one_can k one.value one.kids w ∙ sym (ap (λ s. can_take_first s w) one.subtree)

  module _ (can : can_take_first (subtree_at t k) w ≡ true) where
    can_one : can_take_first (tree k one.value one.kids none) w ≡ true
    can_one = sym (ap (λ s. can_take_first s w) one.subtree) ∙ can

    pub child_changes : changes_of low (w ∷ []) ≡ changes_first (subtree_at t k) w
    child_changes = ap (λ s. changes_of s (w ∷ [])) one.is ∙ one_changes k one.value one.kids w can_one ∙ sym (ap (λ s. changes_first s w) one.subtree)

    pub child_moves : moves_of low (w ∷ []) ≡ moves_first (subtree_at t k) w
    child_moves = ap (λ s. moves_of s (w ∷ [])) one.is ∙ one_moves k one.value one.kids w can_one ∙ sym (ap (λ s. moves_first s w) one.subtree)

    -- what is written of it is what it becomes
    pub child_row : HaveTheirOwn low → IsDistinct low → StandInTurn 0 low
        → written (o_of (changes_of low (w ∷ []))) (g_of (changes_of low (w ∷ [])) (moves_of low (w ∷ []))) low ≡ taking_elements low (w ∷ [])
    child_row own distinct order =
        let drawn : can_take_drawn low (w ∷ []) ≡ true = child_can ∙ can in
        let in_order = subst (λ s. are_in_order 0 (places_of (matching (widgets_in s) (w ∷ []))) ≡ true) (sym one.is) (one_in_order k one.value one.kids w can_one) in
        row_in_order low own distinct order (w ∷ []) drawn in_order

-- ---- what may be written

module _ (g : Handle → Element → Element) (a b : Tree Element) (writes : WritesAll g a b) where
  pub same_list : (k : Handle) → children_at b k ≡ children_at a k
  same_list k = by_node (node_at a k) (writes.values k)
    where
      by_node : (o : Option (TreeNode Element)) → node_at b k ≡ option_map (λ (n : TreeNode Element). record n { value = g k n.value }) o → children_of (node_at b k) ≡ children_of o
      by_node None is = ap children_of is
      by_node (Some n) is = ap children_of is

  live_then : (k : Handle) → IsNode a k → IsNode b k
  live_then k live = by_node (node_at a k) refl
    where
      by_node : (o : Option (TreeNode Element)) → node_at a k ≡ o → IsNode b k
      by_node None is = absurd (let gone : is_some (node_at a k) ≡ false = ap is_some is in cc)
      by_node (Some n) is = ap is_some (writes.values k ∙ ap (option_map (λ (m : TreeNode Element). record m { value = g k m.value })) is)

  one_order : (k : Handle) (o : Option (List ℕ)) → IfSome o (λ js. All (λ i. i < length (children_at a k)) js × CanReorder a k (handles_at (children_at a k) js))
      → IfSome o (λ js. All (λ i. i < length (children_at b k)) js × CanReorder b k (handles_at (children_at b k) js))
  one_order k None can = tt
  one_order k (Some js) can =
      subst (λ ks. All (λ i. i < length ks) js × CanReorder b k (handles_at ks js)) (sym (same_list k))
      (can.0, record { live = live_then k can.1.live; kept = λ x. can.1.kept x ∙ sym (ap (times x) (same_list k)) })

  pub orders_then : (cs : List Change) → All (CanOrder a) cs → All (CanOrder b) cs
  orders_then cs all = All-weaker (CanOrder a) (CanOrder b) (λ c can. one_order c.element c.order can) cs all

pub rows_order : (t : Tree Element) (alike_law : AlikeLaw) (p : Option Handle) (f : Forest Element) (ws : List PlainWidget) → Stands (node_at t) p f → IsDistinct f → can_take_drawn f ws ≡ true → All (CanOrder t) (changes_of f ws)
rows_order t alike_law p f ws stands distinct can =
    let f_can = follow (widgets_in f) ws (each_can_take f) can in
    all_parts (CanOrder t) (each_changing f) (each_can_take f) (each_order t alike_law p f stands distinct) 0 ws (matching (widgets_in f) ws) f_can.asked

pub rows_differ : (f : Forest Element) (ws : List PlainWidget) → IsDistinct f → can_take_drawn f ws ≡ true → AreDistinct (elements_of (changes_of f ws))
rows_differ f ws distinct can = λ x. row_seldom x f distinct ws (follow (widgets_in f) ws (each_can_take f) can)

-- ---- the whole forest

pub map-twice : (f g : Handle → Element → Element) (s : Forest Element) → map_values f (map_values g s) ≡ map_values (λ k e. f k (g k e)) s
map-twice f g none = refl
map-twice f g (tree h e kids rest) = λ i. tree h (f h (g h e)) (map-twice f g kids i) (map-twice f g rest i)

abbrev pub MapsLaw : Type 0
MapsLaw = (old new : Tree Element) (g : Handle → Element → Element) (f : Forest Element) → Is old f → MapsValues g old new → tops_at new ≡ tops_at old → Is new (map_values g f)

abbrev pub AllLaw : Type 0
AllLaw = (old new : Tree Element) (orders : Handle → Option (List Handle)) (f : Forest Element) → Is old f → CanReorderAll old orders → ReordersAll old.nodes new.nodes orders → tops_at new ≡ tops_at old → Is new (reordered orders f)

abbrev pub PlacesLaw : Type 0
PlacesLaw = (f : Forest Element) (is : List ℕ) (z : Handle) → AreDistinct (tops f) → All (λ i. i < length (tops f)) is → in_order (map (λ i. get_or (tops f) i z) is) f ≡ trees_at is f

module _ (a b c d : Tree Element) (cs : List Change) (ms : List Moved) (changes : WritesAll (after_changes cs) a b) (moves : WritesAll (after_moves ms) b c) (orders : OrdersAll cs c d) (can : All (CanOrder a) cs)
    (maps_law : MapsLaw) (all_law : AllLaw) (places_law : PlacesLaw) (f : Forest Element) (is : Is a f) where
  tops_kept : (x y : Tree Element) → y.root ≡ x.root → y.inactive ≡ x.inactive → tops_at y ≡ tops_at x
  tops_kept x y root inactive = λ i. option_to_list (root i) ++ inactive i

  can_then : All (CanOrder c) cs
  can_then = orders_then (after_moves ms) b c moves cs (orders_then (after_changes cs) a b changes cs can)

  pub all_written : Is d (written (o_of cs) (g_of cs ms) f)
  all_written =
      let first = maps_law a b (after_changes cs) f is changes.values (tops_kept a b changes.root changes.inactive) in
      let second = maps_law b c (after_moves ms) (map_values (after_changes cs) f) first moves.values (tops_kept b c moves.root moves.inactive) in
      let may = can_reorder c (λ hs ls x. times_alike hs ls x) cs can_then in
      let third = all_law c d (orders_by cs c) (map_values (after_moves ms) (map_values (after_changes cs) f)) second may.0 orders.orders (tops_kept c d orders.root orders.inactive) in
      let told : (k : Handle) (n : TreeNode Element) → node_at a k ≡ Some n → children_at c k ≡ n.children = λ k n at.
      same_list (after_moves ms) b c moves k ∙ same_list (after_changes cs) a b changes k ∙ ap children_of at in
      subst (Is d)
      (ap (reordered (orders_by cs c)) (map-twice (after_moves ms) (after_changes cs) f)
      ∙ reordered_is (o_of cs) (node_at a) (children_at c) told may.1 places_law (g_of cs ms) None f is.stands is.distinct) third

-- what is below an element of it took a widget
pub all_taken : (t u : Tree Element) (h k : Handle) (one : OneBelow t h k) (w : PlainWidget) (cs : List Change) (ms : List Moved) (f : Forest Element) → Holds t h → Is t f → In h f → subtree_at t h ≡ tree_of h f
    → HaveTheirOwn (below (subtree_at t h)) → StandInTurn 0 (below (subtree_at t h)) → can_take_first (subtree_at t k) w ≡ true → cs ≡ changes_of (below (subtree_at t h)) (w ∷ []) → ms ≡ moves_of (below (subtree_at t h)) (w ∷ [])
    → Is u (written (o_of cs) (g_of cs ms) f)
    → (can_take_at h (w ∷ []) f ≡ true) × (cs ≡ changes_at h (w ∷ []) f) × Is u (taken_at h (w ∷ []) f)
all_taken t u h k one w cs ms f holds is inside part own order can changes moves after =
    let low = below (subtree_at t h) in
    let at = at_tree h (w ∷ []) f is.distinct inside in
    let part_low : below (tree_of h f) ≡ low = sym (ap below part) in
    let distinct : IsDistinct low = (below-stands t h holds).2 in (
      at.0 ∙ ap (λ s. can_take_drawn s (w ∷ [])) part_low ∙ child_can t h k one w ∙ can,
      changes ∙ ap (λ s. changes_of s (w ∷ [])) (sym part_low) ∙ sym at.1,
      subst (Is u)
          (ap (λ xs. written (o_of xs) (g_of xs ms) f) changes
          ∙ ap (λ ys. written (o_of (changes_of low (w ∷ []))) (g_of (changes_of low (w ∷ [])) ys) f) moves
          ∙ taken_is h (w ∷ []) (o_of (changes_of low (w ∷ []))) (g_of (changes_of low (w ∷ [])) (moves_of low (w ∷ []))) low (row_away low (w ∷ [])) (child_row t h k one w can own distinct order) f is.distinct inside part_low)
          after,
    )

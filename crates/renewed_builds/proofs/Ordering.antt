-- Children that come into another order, element by element: no element changes twice, and each has its children once in its order.
use Rattle.std.proofs.Common.{◌≡◌, ◌≢◌, ℕ, zero, suc, ◌+◌, ◌<◌, ◌≤◌, Bool, true, false, cond, Option, Some, None, is_some, IfSome, option_map, List, [], ◌∷◌, ◌++◌, length, map, take, get_or, refl, sym, ap, ◌∙◌, subst, arith, inl, inr}
use Rattle.std.specs.Prelude.{slice_get}
use Rattle.std.specs.List.{All}
use Rattle.std.proofs.lemmas.Bool.{and_parts, cases_Bool}
use Rattle.std.proofs.lemmas.List.{length-map}
use Rattle.std.proofs.lemmas.List.Elements.{All-nil, All-cons, All-head, All-tail, All-append}
use Rattle.fx_handles.specs.declared.Handle.{Handle}
use Rattle.fx_handles.specs.Handle.{same, times, Among, AreDistinct}
use Rattle.fx_handles.specs.HandleLaws.{same_self, same-true, same-eq, same-ne, same-false, cases_same, times-cons, times_here, times_there}
use Rattle.node_tree.specs.Edits.{CanReorder, CanReorderAll}
use Rattle.node_tree.specs.Forest.{TreeNode, Forest, tops, count, In, IsDistinct, skip, first_trees, Stands}
use Rattle.node_tree.specs.Forest.Forest.{none, tree}
use Rattle.node_tree.specs.Tree.{Tree, IsNode, node_at, children_of, children_at}
use Rattle.node_tree.proofs.Children.{among_at}
use Rattle.node_tree.proofs.ForestLemmas.{is_zero, times-le-count}
use Rattle.widget_model.specs.Plain.{PlainWidget}
use Rattle.widget_model.specs.Plain.{children_of as child_widgets}
use Rattle.reconcile.specs.Matching.{matching}
use Rattle.reconcile.proofs.LawLemmas.{length-matching, matched_once, matching_within}
use Rattle.element_tree.specs.Element.{Element}
use Rattle.work_sets.specs.Members.{is_same_widget}
use Rattle.settled_builds.specs.Retaken.{gathered_by, gathered_at, gathered, asked_by, asked_at, all_asked}
use Rattle.renewed_builds.specs.Renewing.{Change, change_of, are_in_order, order_of, places_of, widgets_in, can_take_one, each_can_take, changes_one, each_changing}
use Rattle.renewed_builds.specs.Taking.{order_after, handles_at, no_handle, CanOrder, orders_by, HaveTheirOwn}
use Rattle.renewed_builds.proofs.Gathered.{all_parts, unseen, nowhere}
use Rattle.renewed_builds.proofs.Seen.{apart_from, each_change, other_change, often, often_append, often_times, elements_of, otherwise_seldom}
use Rattle.renewed_builds.proofs.Rows.{Follow, taken_parts, places_many, length-widgets}

-- ---- handles at places

distinct_get : (ks : List Handle) (i j : ℕ) → AreDistinct ks → i < length ks → j < length ks → get_or ks i no_handle ≡ get_or ks j no_handle → i ≡ j
distinct_get [] i j distinct low high is = absurd (omega (arith, low))
distinct_get (k ∷ ks) zero zero distinct low high is = refl
distinct_get (k ∷ ks) zero (suc j) distinct low high is =
    absurd (
    let there = among_at ks j no_handle (omega (arith, high)) in
    let again : Among k ks = subst (λ h. Among h ks) (sym is) there in
    omega (arith, distinct k, times_here k ks, again))
distinct_get (k ∷ ks) (suc i) zero distinct low high is =
    absurd (
    let there = among_at ks i no_handle (omega (arith, low)) in
    let again : Among k ks = subst (λ h. Among h ks) is there in
    omega (arith, distinct k, times_here k ks, again))
distinct_get (k ∷ ks) (suc i) (suc j) distinct low high is =
    let more = distinct_get ks i j (λ h. omega (arith, distinct h, times-cons h k ks)) (omega (arith, low)) (omega (arith, high)) is in
    ap suc more

module _ (ks : List Handle) (distinct : AreDistinct ks) where
  abbrev IsLow : Option ℕ → Type 0
  IsLow m = IfSome m (λ j. j < length ks)

  abbrev AreLow : List (Option ℕ) → Type 0
  AreLow ms = All IsLow ms

  abbrev IsPlace : ℕ → Type 0
  IsPlace i = i < length ks

  none_there : (j : ℕ) → j < length ks → (ms : List (Option ℕ)) → AreLow ms → ((i : ℕ) → slice_get ms i ≡ Some (Some j) → ⊥) → times (get_or ks j no_handle) (handles_at ks (places_of ms)) ≡ 0
  none_there j high [] low absent = refl
  none_there j high (None ∷ ms) low absent = none_there j high ms (All-tail IsLow None ms low) (λ i at. absent (suc i) at)
  none_there j high (Some k ∷ ms) low absent =
      let within : k < length ks = All-head IsLow (Some k) ms low in
      let other : get_or ks k no_handle ≢ get_or ks j no_handle = λ is. absent 0 (ap (λ n. Some (Some n)) (distinct_get ks k j distinct within high is)) in
      times_there (get_or ks j no_handle) (get_or ks k no_handle) (handles_at ks (places_of ms)) other ∙ none_there j high ms (All-tail IsLow (Some k) ms low) (λ i at. absent (suc i) at)

  -- places that are met once have handles that differ
  pub handles_differ : (ms : List (Option ℕ)) → AreLow ms → ((i k j : ℕ) → slice_get ms i ≡ Some (Some j) → slice_get ms k ≡ Some (Some j) → i ≡ k) → AreDistinct (handles_at ks (places_of ms))
  handles_differ [] low once x = omega arith
  handles_differ (None ∷ ms) low once x = handles_differ ms (All-tail IsLow None ms low) (λ i k j at there. let is = once (suc i) (suc k) j at there in omega (arith, is)) x
  handles_differ (Some j ∷ ms) low once x =
      let y = get_or ks j no_handle in
      let later = handles_at ks (places_of ms) in
      elim (cases_same y x) [
        | inl e ↦
            let gone = none_there j (All-head IsLow (Some j) ms low) ms (All-tail IsLow (Some j) ms low) (λ i at. let is = once 0 (suc i) j refl at in omega (arith, is)) in
            subst (λ z. times z (y ∷ later) ≤ 1) e (omega (arith, times_here y later, gone))
        | inr apart ↦
            let few = handles_differ ms (All-tail IsLow (Some j) ms low) (λ i k n at there. let is = once (suc i) (suc k) n at there in omega (arith, is)) x in
            omega (arith, times_there x y later apart, few)
      ]

  handles_among : (ms : List (Option ℕ)) → AreLow ms → (x : Handle) → Among x (handles_at ks (places_of ms)) → Among x ks
  handles_among [] low x among = absurd (omega (arith, among))
  handles_among (None ∷ ms) low x among = handles_among ms (All-tail IsLow None ms low) x among
  handles_among (Some j ∷ ms) low x among =
      let y = get_or ks j no_handle in
      let later = handles_at ks (places_of ms) in
      elim (cases_same y x) [
        | inl e ↦ subst (λ z. Among z ks) e (among_at ks j no_handle (All-head IsLow (Some j) ms low))
        | inr apart ↦ handles_among ms (All-tail IsLow (Some j) ms low) x (omega (arith, times_there x y later apart, among))
      ]

  places_low : (ms : List (Option ℕ)) → AreLow ms → All (λ i. i < length ks) (places_of ms)
  places_low [] low = All-nil IsPlace
  places_low (None ∷ ms) low = places_low ms (All-tail IsLow None ms low)
  places_low (Some j ∷ ms) low = All-cons IsPlace j (places_of ms) (All-head IsLow (Some j) ms low) (places_low ms (All-tail IsLow (Some j) ms low))

  -- all of them, once each
  pub handles_alike : (alike_law : (hs ls : List Handle) (x : Handle) → AreDistinct hs → ((k : Handle) → Among k hs → Among k ls) → length hs ≡ length ls → times x hs ≡ times x ls)
      → (ms : List (Option ℕ)) → AreLow ms → ((i k j : ℕ) → slice_get ms i ≡ Some (Some j) → slice_get ms k ≡ Some (Some j) → i ≡ k) → length (places_of ms) ≡ length ks
      → All (λ i. i < length ks) (places_of ms) × ((x : Handle) → times x (handles_at ks (places_of ms)) ≡ times x ks)
  handles_alike alike_law ms low once many = (
    places_low ms low,
    λ x. alike_law (handles_at ks (places_of ms)) ks x (handles_differ ms low once) (handles_among ms low) (let mapped : length (handles_at ks (places_of ms)) ≡ length (places_of ms) = simp length-map in mapped ∙ many),
  )

-- ---- each change has an order that its children may have

abbrev pub AlikeLaw : Type 0
AlikeLaw = (hs ls : List Handle) (x : Handle) → AreDistinct hs → ((k : Handle) → Among k hs → Among k ls) → length hs ≡ length ls → times x hs ≡ times x ls

abbrev pub OrderOk : Tree Element → Handle → List ℕ → Type 0
OrderOk t k places = All (λ i. i < length (children_at t k)) places × CanReorder t k (handles_at (children_at t k) places)

by_order : (P : List ℕ → Type 0) (places : List ℕ) → P places → (b : Bool) → IfSome (cond b None (Some places)) P
by_order P places is true = tt
by_order P places is false = is

module _ (t : Tree Element) (alike_law : AlikeLaw) where
  one_order : (p : Option Handle) (h : Handle) (e : Element) (kids : Forest Element) (us : List PlainWidget) → Stands (node_at t) p (tree h e kids none) → IsDistinct kids → Follow (widgets_in kids) us (each_can_take kids)
      → OrderOk t h (places_of (matching (widgets_in kids) us))
  one_order p h e kids us stands distinct can =
      let ms = matching (widgets_in kids) us in
      let children : children_at t h ≡ tops kids = ap children_of stands.0 in
      let apart : AreDistinct (tops kids) = λ k. let few = distinct k in let fewer = times-le-count k kids in omega (arith, few, fewer) in
      let tall = length-widgets kids in
      let low : All (λ m. IfSome m (λ j. j < length (tops kids))) ms = subst (λ n. All (λ m. IfSome m (λ j. j < n)) ms) tall (matching_within (widgets_in kids) us) in
      let is = handles_alike (tops kids) apart alike_law ms low (λ i k j at there. matched_once (widgets_in kids) us can.apart i k j at there) (places_many kids us can) in
      subst (λ ks. All (λ i. i < length ks) (places_of ms) × CanReorder t h (handles_at ks (places_of ms))) (sym children)
      (is.0, record { live = ap is_some stands.0; kept = λ k. is.1 k ∙ sym (ap (times k) children) })

  own_order : (h : Handle) (render : Option Handle) (w : PlainWidget) (places : List ℕ) → OrderOk t h places → All (CanOrder t) (change_of h render w (order_of places))
  own_order h None w places is = All-nil (CanOrder t)
  own_order h (Some at) w places is =
      All-cons (CanOrder t) (record { element = h; at = at; widget = w; order = order_of places }) [] (by_order (OrderOk t h) places is (are_in_order 0 places)) (All-nil (CanOrder t))

  either_order : (own inner : List Change) (b : Bool) → (b ≡ false → All (CanOrder t) own × All (CanOrder t) inner) → All (CanOrder t) (cond b [] (own ++ inner))
  either_order own inner true p = All-nil (CanOrder t)
  either_order own inner false p = All-append (CanOrder t) own inner (p refl).0 (p refl).1

  pub each_order : (p : Option Handle) (f : Forest Element) → Stands (node_at t) p f → IsDistinct f → (j : ℕ) (w : PlainWidget) (place : ℕ) → asked_by (slice_get (each_can_take f) j) w ≡ true
      → All (CanOrder t) (gathered_by (slice_get (each_changing f) j) w place)
  each_order p none stands distinct j w place can = All-nil (CanOrder t)
  each_order p (tree h e kids rest) stands distinct zero w place can =
      let ms = matching (widgets_in kids) (child_widgets w) in
      let inner_distinct : IsDistinct kids = λ k. let few = distinct k in omega (arith, few) in
      either_order (change_of h e.render w (order_of (places_of ms))) (gathered (each_changing kids) 0 (child_widgets w) ms) (is_same_widget e.widget w)
      (λ other.
      let parts = taken_parts e (widgets_in kids) (each_can_take kids) w other can in (
        own_order h e.render w (places_of ms) (one_order p h e kids (child_widgets w) (stands.0, stands.1, tt) inner_distinct parts.1),
        all_parts (CanOrder t) (each_changing kids) (each_can_take kids) (each_order (Some h) kids stands.1 inner_distinct) 0 (child_widgets w) ms parts.1.asked,
      ))
  each_order p (tree h e kids rest) stands distinct (suc j) w place can = each_order p rest stands.2 (λ k. let few = distinct k in omega (arith, few)) j w place can

  -- then each element's children may stand in what is given for them
  after_ok : (k : Handle) (c : Change) (o : Option (List ℕ)) → CanOrder t c → IfSome o (OrderOk t k) → (b : Bool) → same k c.element ≡ b → IfSome (cond b c.order o) (OrderOk t k)
  after_ok k c o can was true is = subst (λ h. IfSome c.order (OrderOk t h)) (sym (same-true k c.element is)) can
  after_ok k c o can was false is = was

  pub all_ok : (cs : List Change) → All (CanOrder t) cs → (k : Handle) (o : Option (List ℕ)) → IfSome o (OrderOk t k) → IfSome (order_after cs k o) (OrderOk t k)
  all_ok [] all k o was = was
  all_ok (c ∷ cs) all k o was = all_ok cs (All-tail (CanOrder t) c cs all) k (cond (same k c.element) c.order o) (after_ok k c o (All-head (CanOrder t) c cs all) was (same k c.element) refl)

  by_some : (k : Handle) (o : Option (List ℕ)) → IfSome o (OrderOk t k) → IfSome (option_map (handles_at (children_at t k)) o) (CanReorder t k) × IfSome o (λ places. All (λ i. i < length (children_at t k)) places)
  by_some k None is = (tt, tt)
  by_some k (Some places) is = (is.1, is.0)

  pub can_reorder : (cs : List Change) → All (CanOrder t) cs → CanReorderAll t (orders_by cs t) × ((k : Handle) → IfSome (order_after cs k None) (λ places. All (λ i. i < length (children_at t k)) places))
  can_reorder cs all = (
    λ k. (by_some k (order_after cs k None) (all_ok cs all k None tt)).0,
    λ k. (by_some k (order_after cs k None) (all_ok cs all k None tt)).1,
  )

-- ---- no element changes twice

module _ (k : Handle) where
  count_change : (f : Forest Element) (j : ℕ) (w : PlainWidget) (place n : ℕ) → count k f ≡ 0 → often k (gathered_by (slice_get (each_changing f) j) w place) n ≡ n
  count_change f j w place n absent = each_change (often k) (λ x. refl) (often_append k) k (otherwise_seldom k) f absent j w place n

  -- a tree in which it doesn't stand changes nothing of it
  count_tree : (f : Forest Element) (j : ℕ) (w : PlainWidget) (place n : ℕ) → count k (first_trees 1 (skip j f)) ≡ 0 → often k (gathered_by (slice_get (each_changing f) j) w place) n ≡ n
  count_tree none j w place n absent = refl
  count_tree (tree h e kids rest) zero w place n absent = count_change (tree h e kids none) 0 w place n absent
  count_tree (tree h e kids rest) (suc j) w place n absent = count_tree rest j w place n absent

  seldom_at : (f : Forest Element) → IsDistinct f → ((j : ℕ) (w : PlainWidget) (place : ℕ) → asked_by (slice_get (each_can_take f) j) w ≡ true → often k (gathered_by (slice_get (each_changing f) j) w place) 0 ≤ 1)
      → (place : ℕ) (ws : List PlainWidget) (ms : List (Option ℕ)) → all_asked (each_can_take f) ws ms ≡ true → ((i l j : ℕ) → slice_get ms i ≡ Some (Some j) → slice_get ms l ≡ Some (Some j) → i ≡ l)
      → often k (gathered (each_changing f) place ws ms) 0 ≤ 1
  seldom_at f distinct each place [] ms can once = omega arith
  seldom_at f distinct each place (w ∷ ws) [] can once = omega arith
  seldom_at f distinct each place (w ∷ ws) (None ∷ ms) can once = absurd (cc)
  seldom_at f distinct each place (w ∷ ws) (Some j ∷ ms) can once =
      let parts = and_parts (asked_at (each_can_take f) (Some j) w) (all_asked (each_can_take f) ws ms) can in
      let first = gathered_by (slice_get (each_changing f) j) w place in
      let later = gathered (each_changing f) (suc place) ws ms in
      let turn = often_append k first later 0 in
      elim (is_zero (count k (first_trees 1 (skip j f)))) [
        | inl absent ↦
            let none_first = count_tree f j w place 0 absent in
            let more = seldom_at f distinct each (suc place) ws ms parts.1 (λ i l n at there. let is = once (suc i) (suc l) n at there in omega (arith, is)) in
            subst (λ n. n ≤ 1) (sym (turn ∙ ap (often k later) none_first)) more
        | inr inside ↦
            let none_later : (n : ℕ) → often k later n ≡ n = λ n.
            nowhere (often k) (λ x. refl) (often_append k) (each_changing f) j (other_change (often k) (λ x. refl) (often_append k) k (otherwise_seldom k) f distinct j inside) (suc place) ws ms n
            (λ i at. let is = once 0 (suc i) j refl at in omega (arith, is)) in
            subst (λ n. n ≤ 1) (sym (turn ∙ none_later (often k first 0))) (each j w place parts.0)
      ]

  own_seldom : (h : Handle) (render : Option Handle) (w : PlainWidget) (order : Option (List ℕ)) → often k (change_of h render w order) 0 ≤ cond {A = ℕ} (same h k) 1 0
  own_seldom h None w order = omega arith
  own_seldom h (Some at) w order = omega arith

  abbrev EachSeldom : Forest Element → Type 0
  EachSeldom f = (j : ℕ) (w : PlainWidget) (place : ℕ) → asked_by (slice_get (each_can_take f) j) w ≡ true → often k (gathered_by (slice_get (each_changing f) j) w place) 0 ≤ 1

  module _ (h : Handle) (e : Element) (kids : Forest Element) (distinct : IsDistinct (tree h e kids none)) (w : PlainWidget) where
    abbrev ms : List (Option ℕ)
    ms = matching (widgets_in kids) (child_widgets w)

    abbrev own : List Change
    own = change_of h e.render w (order_of (places_of ms))

    abbrev inner : List Change
    inner = gathered (each_changing kids) 0 (child_widgets w) ms

    inner_distinct : IsDistinct kids
    inner_distinct x = let few = distinct x in omega (arith, few)

    both_seldom : (n : ℕ) → count k kids ≡ n → EachSeldom kids → Follow (widgets_in kids) (child_widgets w) (each_can_take kids) → often k (own ++ inner) 0 ≤ 1
    both_seldom zero absent each can =
        let quiet = each_change (often k) (λ x. refl) (often_append k) k (otherwise_seldom k) kids absent in
        let none_below : often k inner (often k own 0) ≡ often k own 0 = unseen (often k) (λ x. refl) (often_append k) (each_changing kids) quiet 0 (child_widgets w) ms (often k own 0) in
        let few = own_seldom h e.render w (order_of (places_of ms)) in
        let one = distinct k in
        subst (λ n. n ≤ 1) (sym (often_append k own inner 0 ∙ none_below)) (omega (arith, few, one))
    both_seldom (suc n) inside each can =
        let one = distinct k in
        let few = own_seldom h e.render w (order_of (places_of ms)) in
        let none_here : often k own 0 ≡ 0 = omega (arith, few, one, inside) in
        let below = seldom_at kids inner_distinct each 0 (child_widgets w) ms can.asked (λ i l j at there. matched_once (widgets_in kids) (child_widgets w) can.apart i l j at there) in
        subst (λ m. m ≤ 1) (sym (often_append k own inner 0 ∙ ap (often k inner) none_here)) below

    one_seldom : (b : Bool) → (b ≡ false → EachSeldom kids × Follow (widgets_in kids) (child_widgets w) (each_can_take kids)) → often k (cond b [] (own ++ inner)) 0 ≤ 1
    one_seldom true can = omega arith
    one_seldom false can = both_seldom (count k kids) refl (can refl).0 (can refl).1

  pub each_seldom : (f : Forest Element) → IsDistinct f → EachSeldom f
  each_seldom none distinct j w place can = omega arith
  each_seldom (tree h e kids rest) distinct zero w place can =
      one_seldom h e kids (λ x. let few = distinct x in omega (arith, few)) w (is_same_widget e.widget w)
      (λ other. (each_seldom kids (λ x. let few = distinct x in omega (arith, few)), (taken_parts e (widgets_in kids) (each_can_take kids) w other can).1))
  each_seldom (tree h e kids rest) distinct (suc j) w place can = each_seldom rest (λ x. let few = distinct x in omega (arith, few)) j w place can

  pub row_seldom : (f : Forest Element) → IsDistinct f → (ws : List PlainWidget) → Follow (widgets_in f) ws (each_can_take f) → times k (elements_of (gathered (each_changing f) 0 ws (matching (widgets_in f) ws))) ≤ 1
  row_seldom f distinct ws can =
      let few = seldom_at f distinct (each_seldom f distinct) 0 ws (matching (widgets_in f) ws) can.asked (λ i l j at there. matched_once (widgets_in f) ws can.apart i l j at there) in
      let is = often_times k (gathered (each_changing f) 0 ws (matching (widgets_in f) ws)) 0 in
      omega (arith, few, is)

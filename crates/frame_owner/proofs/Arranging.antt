-- The orders into which children of render nodes come where elements take widgets: each is that of its node, by number.
use Rattle.std.proofs.Common.{◌≡◌, ℕ, zero, suc, ◌+◌, ◌<◌, ◌≤◌, ◌==◌, Bool, true, false, cond, Option, Some, None, is_some, IfSome, option_map, List, [], ◌∷◌, ◌++◌, length, map, drop, refl, sym, ap, subst, ◌∙◌, inl, inr, arith}
use Rattle.std.specs.Prelude.{slice_get, slice_index_or}
use Rattle.std.specs.List.{All, find}
use Rattle.std.specs.Option.{option_to_list}
use Rattle.std.proofs.lemmas.Bool.{and_parts, eqb-true}
use Rattle.std.proofs.lemmas.List.Elements.{All-nil, All-cons}
use Rattle.fx_handles.specs.declared.Handle.{Handle}
use Rattle.fx_handles.specs.Handle.{same, times, AreDistinct}
use Rattle.fx_handles.specs.HandleLaws.{cases_same, same-eq, same-ne, same-true}
use Rattle.fx_handles.specs.ArenaLaws.{same_Some}
use Rattle.node_tree.specs.Edits.{CanReorder}
use Rattle.node_tree.specs.Forest.{TreeNode, Forest, tops, IsDistinct, Stands, append, skip, first_trees, trees_at, in_order_if, in_order}
use Rattle.node_tree.specs.Forest.Forest.{none, tree}
use Rattle.node_tree.specs.Tree.{Tree, node_at, children_of, children_at}
use Rattle.node_tree.proofs.ForestLemmas.{times-le-count}
use Rattle.reconcile.specs.Matching.{matching}
use Rattle.reconcile.proofs.LawLemmas.{length-matching, matched_once, matching_within}
use Rattle.widget_model.specs.Plain.{PlainWidget}
use Rattle.widget_model.specs.Plain.{children_of as child_widgets}
use Rattle.plain_tree.specs.Render.{Render, render, Renders, no_renders, more_renders, renders_of as renders_listed}
use Rattle.plain_tree.specs.RenderRole.{vanishes}
use Rattle.element_tree.specs.Element.{Element, element_at}
use Rattle.render_tree.specs.Object.{RenderObject, object_look}
use Rattle.render_tree.specs.Plain.{renders_of, lazy_children}
use Rattle.render_tree.specs.Tree.{object_at}
use Rattle.render_sync.specs.Numbering.{NumbersDiffer}
use Rattle.build_walk.specs.Renewing.{role_of}
use Rattle.settled_builds.specs.Looks.{NewLook, look_after}
use Rattle.settled_builds.specs.Rearranged.{NewOrder, at_all, order_or, order_after, all_rearranged}
use Rattle.settled_builds.specs.Retaken.{asked_at, all_asked}
use Rattle.renewed_builds.specs.Renewing.{Change, widgets_in, each_can_take, places_of, are_in_order, order_of}
use Rattle.renewed_builds.specs.Taking.{no_handle, handles_at}
use Rattle.renewed_builds.proofs.Ordering.{AlikeLaw, handles_alike}
use Rattle.renewed_builds.proofs.Rows.{follow, length-widgets, places_many}
use Rattle.frame_owner.specs.InPlace.{IsToldChange, AreToldChanges}
use Rattle.frame_owner.specs.Redrawing.{places_after, orders_after, forest_after, CanOrder}
use Rattle.frame_owner.proofs.Changing.{takes_of, AreChangesOf, look_then, lazy_then}
use Rattle.frame_owner.proofs.Finding.{at_own, at_other}
use Rattle.frame_owner.proofs.Windows.{ElementNode}

-- ---- lists at places

abbrev pub placed : {A : Type 0} → Option (List ℕ) → List A → List A
placed None xs = xs
placed (Some places) xs = at_all xs (map (λ (j : ℕ). Some j) places)

slice-past : {A : Type 0} (i : ℕ) (xs : List A) → length xs ≤ i → drop i xs ≡ []
slice-past zero [] low = refl
slice-past zero (x ∷ xs) low = absurd (omega (arith, low))
slice-past (suc i) [] low = refl
slice-past (suc i) (x ∷ xs) low = slice-past i xs (omega (arith, low))

next_one : {A : Type 0} (i : ℕ) (xs : List A) → i < length xs → option_to_list (slice_get xs i) ++ drop (suc i) xs ≡ drop i xs
next_one i [] low = absurd (omega (arith, low))
next_one zero (x ∷ xs) low = refl
next_one (suc i) (x ∷ xs) low = next_one i xs (omega (arith, low))

in_turn : {A : Type 0} (i : ℕ) (places : List ℕ) (xs : List A) → i + length places ≡ length xs → are_in_order i places ≡ true → at_all xs (map (λ (j : ℕ). Some j) places) ≡ drop i xs
in_turn i [] xs many order = sym (slice-past i xs (omega (arith, many)))
in_turn {A} i (j ∷ js) xs many order =
    let parts = and_parts (j == i) (are_in_order (suc i) js) order in
    ap (λ (n : ℕ). option_to_list (slice_get xs n) ++ at_all xs (map (λ (k : ℕ). Some k) js)) (eqb-true j i parts.0)
    ∙ ap (λ (ys : List A). option_to_list (slice_get xs i) ++ ys) (in_turn (suc i) js xs (omega (arith, many)) parts.1)
    ∙ next_one i xs (omega (arith, many))

placed_order : {A : Type 0} (places : List ℕ) (xs : List A) → length places ≡ length xs → placed (order_of places) xs ≡ at_all xs (map (λ (j : ℕ). Some j) places)
placed_order {A} places xs many = by_order (are_in_order 0 places) refl
  where
    by_order : (b : Bool) → are_in_order 0 places ≡ b → placed (cond b None (Some places)) xs ≡ at_all xs (map (λ (j : ℕ). Some j) places)
    by_order true order = sym (in_turn 0 places xs (omega (arith, many)) order)
    by_order false order = refl

-- where each is matched
all_found : (cans : List (PlainWidget → Bool)) (ws : List PlainWidget) (ms : List (Option ℕ)) → length ms ≡ length ws → all_asked cans ws ms ≡ true → map (λ (j : ℕ). Some j) (places_of ms) ≡ ms
all_found cans [] [] many can = refl
all_found cans [] (m ∷ ms) many can = absurd (omega (arith, many))
all_found cans (w ∷ ws) [] many can = absurd (omega (arith, many))
all_found cans (w ∷ ws) (None ∷ ms) many can = absurd (cc)
all_found cans (w ∷ ws) (Some j ∷ ms) many can = ap (λ (ns : List (Option ℕ)). Some j ∷ ns) (all_found cans ws ms (omega (arith, many)) (and_parts (asked_at cans (Some j) w) (all_asked cans ws ms) can).1)

-- ---- render nodes in a list

abbrev pub listing : Renders → List Render
listing no_renders = []
listing (more_renders x xs) = x ∷ listing xs

pub listed_again : (xs : Renders) → renders_listed (listing xs) ≡ xs
listed_again no_renders = refl
listed_again (more_renders x xs) = ap (λ (ys : Renders). more_renders x ys) (listed_again xs)

listing_both : (f g : Forest RenderObject) → listing (renders_of (append f g)) ≡ listing (renders_of f) ++ listing (renders_of g)
listing_both none g = refl
listing_both (tree h o kids rest) g = ap (λ (xs : List Render). render o.number (object_look o) o.parent_data o.scroll (lazy_children o) (renders_of kids) ∷ xs) (listing_both rest g)

one_listed : (i : ℕ) (f : Forest RenderObject) → listing (renders_of (first_trees 1 (skip i f))) ≡ option_to_list (slice_get (listing (renders_of f)) i)
one_listed zero none = refl
one_listed (suc i) none = refl
one_listed zero (tree h o kids rest) = refl
one_listed (suc i) (tree h o kids rest) = one_listed i rest

places_listed : (places : List ℕ) (f : Forest RenderObject) → listing (renders_of (trees_at places f)) ≡ at_all (listing (renders_of f)) (map (λ (j : ℕ). Some j) places)
places_listed [] f = refl
places_listed (i ∷ is) f = listing_both (first_trees 1 (skip i f)) (trees_at is f) ∙ (λ n. one_listed i f n ++ places_listed is f n)

length_listing : (f : Forest RenderObject) → length (listing (renders_of f)) ≡ length (tops f)
length_listing none = refl
length_listing (tree h o kids rest) = ap (λ (n : ℕ). suc n) (length_listing rest)

-- ---- one order

module _ (r : Tree RenderObject) where
  -- it is of the render node of a change
  pub record IsOrderOf (c : Change) (o : NewOrder) : Type 0 where
    pub object : RenderObject
    pub there : object_at r c.at ≡ Some object
    pub said_number : o.number ≡ object.number
    pub places : List ℕ
    pub said_places : o.places ≡ map (λ (j : ℕ). Some j) places
    pub order_is : c.order ≡ order_of places
    pub as_many : length places ≡ length (children_at r c.at)
    pub within : All (λ (i : ℕ). i < length (children_at r c.at)) places
    pub kept : (x : Handle) → times x (handles_at (children_at r c.at) places) ≡ times x (children_at r c.at)

  -- so it is of each change of a list, in step with the orders
  abbrev pub AreOrdersOf : List Change → List NewOrder → Type 0
  AreOrdersOf [] [] = Unit {0}
  AreOrdersOf [] (o ∷ os) = ⊥
  AreOrdersOf (c ∷ cs) [] = ⊥
  AreOrdersOf (c ∷ cs) (o ∷ os) = IsOrderOf c o × AreOrdersOf cs os

  -- ---- children may stand in it

  live_there : (x : Option (TreeNode RenderObject)) (o : RenderObject) → option_map (λ (n : TreeNode RenderObject). n.value) x ≡ Some o → is_some x ≡ true
  live_there None o e = cc
  live_there (Some n) o e = refl

  by_order : (P : List ℕ → Type 0) (places : List ℕ) → P places → (b : Bool) → IfSome (cond b None (Some places)) P
  by_order P places is true = tt
  by_order P places is false = is

  abbrev IsOrder : Handle → List ℕ → Type 0
  IsOrder h places = All (λ (i : ℕ). i < length (children_at r h)) places × CanReorder r h (handles_at (children_at r h) places)

  can_order : (c : Change) (o : NewOrder) → IsOrderOf c o → CanOrder r c
  can_order c o is =
      subst (λ (q : Option (List ℕ)). IfSome q (IsOrder c.at)) (sym is.order_is)
      (by_order (IsOrder c.at) is.places (is.within, record { live = live_there (node_at r c.at) is.object is.there; kept = is.kept }) (are_in_order 0 is.places))

  pub can_order_all : (cs : List Change) (os : List NewOrder) → AreOrdersOf cs os → All (CanOrder r) cs
  can_order_all [] os all = All-nil (CanOrder r)
  can_order_all (c ∷ cs) [] all = absurd all
  can_order_all (c ∷ cs) (o ∷ os) all = All-cons (CanOrder r) c cs (can_order c o all.0) (can_order_all cs os all.1)

  abbrev IsLow : Handle → List ℕ → Type 0
  IsLow h places = All (λ (i : ℕ). i < length (children_at r h)) places

  within_by : (k : Handle) (c : Change) (o : NewOrder) (later : Option (List ℕ)) → IsOrderOf c o → IfSome later (IsLow k) → (b : Bool) → same k c.at ≡ b → IfSome (cond b c.order later) (IsLow k)
  within_by k c o later is rest true e =
      subst (λ (h : Handle). IfSome c.order (IsLow h)) (sym (same-true k c.at e))
      (subst (λ (q : Option (List ℕ)). IfSome q (IsLow c.at)) (sym is.order_is) (by_order (IsLow c.at) is.places is.within (are_in_order 0 is.places)))
  within_by k c o later is rest false e = rest

  order_within : (k : Handle) (cs : List Change) (os : List NewOrder) → AreOrdersOf cs os → IfSome (places_after cs k) (IsLow k)
  order_within k [] os all = tt
  order_within k (c ∷ cs) [] all = absurd all
  order_within k (c ∷ cs) (o ∷ os) all = within_by k c o (places_after cs k) all.0 (order_within k cs os all.1) (same k c.at) refl

  -- ---- the orders

  module _ (differ : NumbersDiffer r) where
    abbrev numbered : Option RenderObject → Option ℕ
    numbered x = option_map (λ (v : RenderObject). v.number) x

    order_then : {A : Type 0} (k : Handle) (o : RenderObject) → object_at r k ≡ Some o → (cs : List Change) (os : List NewOrder) → AreOrdersOf cs os → (xs : List A) → length xs ≡ length (children_at r k)
        → order_after os o.number xs ≡ placed (places_after cs k) xs
    order_then k o at [] [] all xs long = refl
    order_then k o at [] (q ∷ os) all xs long = absurd all
    order_then k o at (c ∷ cs) [] all xs long = absurd all
    order_then {A} k o at (c ∷ cs) (q ∷ os) all xs long = elim (cases_same k c.at) [
      | inl e ↦
          let object : all.0.object ≡ o = same_Some (sym all.0.there ∙ (ap (object_at r) (sym e) ∙ at)) in
          let number : q.number ≡ o.number = all.0.said_number ∙ ap (λ (v : RenderObject). v.number) object in
          let many : length all.0.places ≡ length xs = all.0.as_many ∙ ap (λ (h : Handle). length (children_at r h)) (sym e) ∙ sym long in
          ap (λ (f : Option NewOrder). order_or f xs) (at_own q.number o.number (Some q) (find (λ (n : NewOrder). n.number == o.number) os) number)
          ∙ ap (at_all xs) all.0.said_places
          ∙ sym (placed_order all.0.places xs many)
          ∙ ap (λ (f : Option (List ℕ)). placed f xs) (sym all.0.order_is)
          ∙ sym (ap (λ (b : Bool). placed (cond {A = Option (List ℕ)} b c.order (places_after cs k)) xs) (same-eq k c.at e))
      | inr ne ↦
          let other : q.number ≡ o.number → ⊥ = λ is.
          ne (differ o.number k c.at (ap numbered at) (ap numbered all.0.there ∙ ap (λ n. Some n) (sym all.0.said_number ∙ is))) in
          ap (λ (f : Option NewOrder). order_or f xs) (at_other q.number o.number (Some q) (find (λ (n : NewOrder). n.number == o.number) os) other)
          ∙ order_then k o at cs os all.1 xs long
          ∙ sym (ap (λ (b : Bool). placed (cond {A = Option (List ℕ)} b c.order (places_after cs k)) xs) (same-ne k c.at ne))
    ]

    -- ---- the forest

    module _ (places_law : (f : Forest RenderObject) (is : List ℕ) (z : Handle) → AreDistinct (tops f) → All (λ (i : ℕ). i < length (tops f)) is → in_order (map (λ (i : ℕ). slice_index_or (tops f) i z) is) f ≡ trees_at is f)
        (t : Tree Element) (cs : List Change) (ls : List NewLook) (os : List NewOrder) (looks : AreChangesOf t r cs ls) (orders : AreOrdersOf cs os) where
      abbrev after : Forest RenderObject → Forest RenderObject
      after f = forest_after r cs f

      tops_after : (f : Forest RenderObject) → tops (after f) ≡ tops f
      tops_after none = refl
      tops_after (tree h o kids rest) = ap (λ (hs : List Handle). h ∷ hs) (tops_after rest)

      in_places : (hs : List Handle) (f : Forest RenderObject) → hs ≡ tops f → AreDistinct (tops f) → (q : Option (List ℕ)) → IfSome q (λ places. All (λ (i : ℕ). i < length hs) places)
          → listing (renders_of (in_order_if (option_map (handles_at hs) q) f)) ≡ placed q (listing (renders_of f))
      in_places hs f is apart None within = refl
      in_places hs f is apart (Some places) within =
          ap (λ (ks : List Handle). listing (renders_of (in_order (map (λ (i : ℕ). slice_index_or ks i no_handle) places) f))) is
          ∙ ap (λ (g : Forest RenderObject). listing (renders_of g)) (places_law f places no_handle apart (subst (λ (ks : List Handle). All (λ (i : ℕ). i < length ks) places) is within))
          ∙ places_listed places f

      pub rearranged_then : (p : Option Handle) (f : Forest RenderObject) → Stands (node_at r) p f → IsDistinct f → listing (renders_of (after f)) ≡ all_rearranged (look_after ls) (order_after os) (renders_of f)
      rearranged_then p none stands distinct = refl
      rearranged_then p (tree h o kids rest) stands distinct =
          let at : object_at r h ≡ Some o = ap (option_map (λ (n : TreeNode RenderObject). n.value)) stands.0 in
          let look = look_then t r differ h o at cs ls looks in
          let lazy = lazy_then t r differ h o at cs ls looks in
          let below = rearranged_then (Some h) kids stands.1 (λ x. let few = distinct x in omega (arith, few)) in
          let later = rearranged_then p rest stands.2 (λ x. let few = distinct x in omega (arith, few)) in
          let xs = all_rearranged (look_after ls) (order_after os) (renders_of kids) in
          let here : children_at r h ≡ tops (after kids) = ap (λ (n : Option (TreeNode RenderObject)). children_of n) stands.0 ∙ sym (tops_after kids) in
          let apart : AreDistinct (tops (after kids)) = λ x. subst (λ (hs : List Handle). times x hs ≤ 1) (sym (tops_after kids)) (let few = distinct x in let fewer = times-le-count x kids in omega (arith, few, fewer)) in
          let long : length xs ≡ length (children_at r h) = ap (λ (ys : List Render). length ys) (sym below) ∙ length_listing (after kids) ∙ ap (λ (hs : List Handle). length hs) (sym here) in
          let inner : renders_of (in_order_if (orders_after r cs h) (after kids)) ≡ renders_listed (order_after os o.number xs) =
          sym (listed_again (renders_of (in_order_if (orders_after r cs h) (after kids))))
          ∙ ap renders_listed (in_places (children_at r h) (after kids) here apart (places_after cs h) (order_within h cs os orders) ∙ ap (placed (places_after cs h)) below ∙ sym (order_then h o at cs os orders xs long)) in
          λ i. render o.number (look i) o.parent_data o.scroll (lazy i) (inner i) ∷ later i

-- ---- of what is told of elements

module _ (t : Tree Element) (r : Tree RenderObject) (alike_law : AlikeLaw) (drawn : (h : Handle) (e : Element) → element_at t h ≡ Some e → vanishes (role_of e) ≡ false → ElementNode r e)
    (counted : (h : Handle) (e : Element) → element_at t h ≡ Some e → (d : ElementNode r e) → length (children_at t h) ≡ length (children_at r d.handle)) (apart : (k : Handle) (o : RenderObject) → object_at r k ≡ Some o → AreDistinct (children_at r k)) where
  order_is : (c : Change) (l : NewLook) (o : NewOrder) → IsToldChange t c l o → IsOrderOf r c o
  order_is c l o x =
      let d = drawn c.element x.element x.stored (takes_of x.element c.widget x.takes).was_drawn in
      let at : d.handle ≡ c.at = same_Some (sym d.named ∙ x.named) in
      let us = child_widgets c.widget in
      let kids = x.kids in
      let ms = matching (widgets_in kids) us in
      let ks = children_at r c.at in
      let there : object_at r c.at ≡ Some d.object = ap (object_at r) (sym at) ∙ d.there in
      let can = follow (widgets_in kids) us (each_can_take kids) x.can in
      let tall : length (tops kids) ≡ length ks = ap (λ (hs : List Handle). length hs) (sym x.below) ∙ counted c.element x.element x.stored d ∙ ap (λ (h : Handle). length (children_at r h)) at in
      let low : All (λ (m : Option ℕ). IfSome m (λ (j : ℕ). j < length ks)) ms = subst (λ (n : ℕ). All (λ (m : Option ℕ). IfSome m (λ (j : ℕ). j < n)) ms) (length-widgets kids ∙ tall) (matching_within (widgets_in kids) us) in
      let is = handles_alike ks (apart c.at d.object there) alike_law ms low (λ i k j a b. matched_once (widgets_in kids) us can.apart i k j a b) (places_many kids us can ∙ tall) in
      record {
        object = d.object;
        there = there;
        said_number = ap (λ (n : NewOrder). n.number) x.places ∙ sym d.number_is;
        places = places_of ms;
        said_places = ap (λ (n : NewOrder). n.places) x.places ∙ sym (all_found (each_can_take kids) us ms (length-matching (widgets_in kids) us) can.asked);
        order_is = x.order;
        as_many = places_many kids us can ∙ tall;
        within = is.0;
        kept = is.1;
      }

  pub orders_are : (cs : List Change) (ls : List NewLook) (os : List NewOrder) → AreToldChanges t cs ls os → AreOrdersOf r cs os
  orders_are [] [] [] all = tt
  orders_are [] [] (o ∷ os) all = absurd all
  orders_are [] (l ∷ ls) os all = absurd all
  orders_are (c ∷ cs) [] os all = absurd all
  orders_are (c ∷ cs) (l ∷ ls) [] all = absurd all
  orders_are (c ∷ cs) (l ∷ ls) (o ∷ os) all = (order_is c l o all.0, orders_are cs ls os all.1)

-- What is told of the changes of elements of a forest that take widgets where these are matched.
use Rattle.std.proofs.Common.{◌≡◌, ℕ, zero, suc, Bool, true, false, ◌&&◌, cond, is_some, Option, Some, None, option_map, List, [], ◌∷◌, ◌++◌, map, refl, sym, ap, subst}
use Rattle.std.specs.Prelude.{slice_get}
use Rattle.fx_handles.specs.declared.Handle.{Handle}
use Rattle.node_tree.specs.Forest.{TreeNode, Forest, tops, Stands}
use Rattle.node_tree.specs.Forest.Forest.{none, tree}
use Rattle.node_tree.specs.Tree.{Tree, node_at, children_of, children_at}
use Rattle.widget_model.specs.Plain.{PlainWidget, look_of}
use Rattle.widget_model.specs.Plain.{children_of as child_widgets}
use Rattle.widget_model.specs.Update.{updates}
use Rattle.reconcile.specs.Matching.{matching}
use Rattle.plain_tree.specs.PlainNode.{PlainNodes, list_of, widget_of, nodes_of as listed}
use Rattle.element_tree.specs.Element.{Element, element_at}
use Rattle.element_tree.specs.Nodes.{nodes_of}
use Rattle.work_sets.specs.Members.{is_same_widget}
use Rattle.settled_builds.specs.Looks.{NewLook, new_look}
use Rattle.settled_builds.specs.Rearranged.{NewOrder, each_looks, each_order}
use Rattle.settled_builds.specs.Retaken.{gathered_by, gathered_at, gathered, asked_by, asked_at, all_asked}
use Rattle.renewed_builds.specs.Renewing.{Change, widgets_in, draws_its_own, takes_in_place, each_can_take, can_take_drawn, places_of, order_of, change_of, each_changing, changes_of}
use Rattle.renewed_builds.proofs.Retaking.{widgets_are}
use Rattle.renewed_builds.proofs.Rows.{follow}
use Rattle.frame_owner.specs.InPlace.{IsToldChange, AreToldChanges}
use Rattle.frame_owner.proofs.Changing.{both, or_other}

module _ (t : Tree Element) (scrolled : ℕ → ℕ) where
  pub append_told : (xs ys : List Change) (ks ls : List NewLook) (ps os : List NewOrder) → AreToldChanges t xs ks ps → AreToldChanges t ys ls os → AreToldChanges t (xs ++ ys) (ks ++ ls) (ps ++ os)
  append_told [] ys [] ls [] os a b = b
  append_told [] ys [] ls (p ∷ ps) os a b = absurd a
  append_told [] ys (k ∷ ks) ls ps os a b = absurd a
  append_told (c ∷ xs) ys [] ls ps os a b = absurd a
  append_told (c ∷ xs) ys (k ∷ ks) ls [] os a b = absurd a
  append_told (c ∷ xs) ys (k ∷ ks) ls (p ∷ ps) os a b = (a.0, append_told xs ys ks ls ps os a.1 b)

  abbrev plain : Forest Element → PlainNodes
  plain f = listed (nodes_of scrolled f)

  abbrev order_among : Element → List PlainWidget → PlainWidget → NewOrder
  order_among e olds w = record { number = e.number; places = matching olds (child_widgets w) }

  abbrev order_for : Element → Forest Element → PlainWidget → NewOrder
  order_for e kids w = order_among e (map widget_of (list_of (plain kids))) w

  -- one element takes a widget that it didn't have
  some_render : (r : Option Handle) → is_some r ≡ true → (k : Handle) × (r ≡ Some k)
  some_render None e = cc
  some_render (Some k) e = (k, refl)

  has_render : (e : Element) (w : PlainWidget) → takes_in_place e w ≡ true → is_some e.render ≡ true
  has_render e w can =
      let p = both (updates e.widget w) (draws_its_own (look_of e.widget) && (draws_its_own (look_of w) && is_some e.render)) can in
      let q = both (draws_its_own (look_of e.widget)) (draws_its_own (look_of w) && is_some e.render) p.1 in
      (both (draws_its_own (look_of w)) (is_some e.render) q.1).1

  one_told : (h : Handle) (e : Element) (w : PlainWidget) (kids : Forest Element) → element_at t h ≡ Some e → children_at t h ≡ tops kids → takes_in_place e w ≡ true → can_take_drawn kids (child_widgets w) ≡ true
      → (cs : List Change) (ls : List NewLook) (os : List NewOrder) → AreToldChanges t cs ls os
      → AreToldChanges t (change_of h e.render w (order_of (places_of (matching (widgets_in kids) (child_widgets w)))) ++ cs) (new_look e.number (look_of w) ∷ ls) (order_for e kids w ∷ os)
  one_told h e w kids at below takes can cs ls os inner =
      let order = order_of (places_of (matching (widgets_in kids) (child_widgets w))) in
      let k = some_render e.render (has_render e w takes) in
      let one : IsToldChange t (record { element = h; at = k.0; widget = w; order = order }) (new_look e.number (look_of w)) (order_for e kids w) = record {
        element = e;
        stored = at;
        named = k.1;
        takes = takes;
        kids = kids;
        below = below;
        can = can;
        look = refl;
        order = refl;
        places = ap (λ (olds : List PlainWidget). order_among e olds w) (widgets_are scrolled kids);
      } in
      subst (λ (x : Option Handle). AreToldChanges t (change_of h x w order ++ cs) (new_look e.number (look_of w) ∷ ls) (order_for e kids w ∷ os)) (sym k.1) (one, inner)

  told_here : (kept : Bool) (own : List Change) (l : NewLook) (o : NewOrder) (cs : List Change) (ls : List NewLook) (os : List NewOrder) → (kept ≡ false → AreToldChanges t (own ++ cs) (l ∷ ls) (o ∷ os))
      → AreToldChanges t (cond {A = List Change} kept [] (own ++ cs)) (cond {A = List NewLook} kept [] (l ∷ ls)) (cond {A = List NewOrder} kept [] (o ∷ os))
  told_here true own l o cs ls os step = tt
  told_here false own l o cs ls os step = step refl

  -- the parts of a forest, in step with those of its nodes
  abbrev PartsAre : Forest Element → Type 0
  PartsAre f =
      (j : ℕ) (w : PlainWidget) (place : ℕ) → asked_by (slice_get (each_can_take f) j) w ≡ true
      → AreToldChanges t (gathered_by (slice_get (each_changing f) j) w place) (gathered_by (slice_get (each_looks (plain f)) j) w place) (gathered_by (slice_get (each_order (plain f)) j) w place)

  part_at : (f : Forest Element) → PartsAre f → (m : Option ℕ) (w : PlainWidget) (place : ℕ) → asked_at (each_can_take f) m w ≡ true
      → AreToldChanges t (gathered_at (each_changing f) m w place) (gathered_at (each_looks (plain f)) m w place) (gathered_at (each_order (plain f)) m w place)
  part_at f parts None w place can = tt
  part_at f parts (Some j) w place can = parts j w place can

  all_parts : (f : Forest Element) → PartsAre f → (place : ℕ) (ws : List PlainWidget) (ms : List (Option ℕ)) → all_asked (each_can_take f) ws ms ≡ true
      → AreToldChanges t (gathered (each_changing f) place ws ms) (gathered (each_looks (plain f)) place ws ms) (gathered (each_order (plain f)) place ws ms)
  all_parts f parts place [] ms can = tt
  all_parts f parts place (w ∷ ws) [] can = tt
  all_parts f parts place (w ∷ ws) (m ∷ ms) can =
      let p = both (asked_at (each_can_take f) m w) (all_asked (each_can_take f) ws ms) can in
      append_told (gathered_at (each_changing f) m w place) _ (gathered_at (each_looks (plain f)) m w place) _ (gathered_at (each_order (plain f)) m w place) _ (part_at f parts m w place p.0) (all_parts f parts (suc place) ws ms p.1)

  abbrev RowIs : Forest Element → List PlainWidget → List PlainWidget → Type 0
  RowIs f ws olds = AreToldChanges t (changes_of f ws) (gathered (each_looks (plain f)) 0 ws (matching olds ws)) (gathered (each_order (plain f)) 0 ws (matching olds ws))

  row_is : (f : Forest Element) → PartsAre f → (ws : List PlainWidget) → can_take_drawn f ws ≡ true → RowIs f ws (map widget_of (list_of (plain f)))
  row_is f parts ws can = subst (RowIs f ws) (sym (widgets_are scrolled f)) (all_parts f parts 0 ws (matching (widgets_in f) ws) (follow (widgets_in f) ws (each_can_take f) can).asked)

  parts_are : (p : Option Handle) (f : Forest Element) → Stands (node_at t) p f → PartsAre f
  parts_are p none stands j w place can = tt
  parts_are p (tree h e kids rest) stands zero w place can =
      let order = order_of (places_of (matching (widgets_in kids) (child_widgets w))) in
      told_here (is_same_widget e.widget w) (change_of h e.render w order) (new_look e.number (look_of w)) (order_for e kids w) (changes_of kids (child_widgets w)) _ _
      (λ other.
      let own = both (takes_in_place e w) (can_take_drawn kids (child_widgets w)) (or_other (is_same_widget e.widget w) _ other can) in
      let at : element_at t h ≡ Some e = ap (option_map (λ (n : TreeNode Element). n.value)) stands.0 in
      let below : children_at t h ≡ tops kids = ap (λ (n : Option (TreeNode Element)). children_of n) stands.0 in
      one_told h e w kids at below own.0 own.1 (changes_of kids (child_widgets w)) _ _ (row_is kids (parts_are (Some h) kids stands.1) (child_widgets w) own.1))
  parts_are p (tree h e kids rest) stands (suc j) w place can = parts_are p rest stands.2 j w place can

  pub told_are : (p : Option Handle) (f : Forest Element) (ws : List PlainWidget) → Stands (node_at t) p f → can_take_drawn f ws ≡ true → RowIs f ws (map widget_of (list_of (plain f)))
  told_are p f ws stands can = row_is f (parts_are p f stands) ws can

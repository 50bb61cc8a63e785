-- Forests of which each element is changed: what they show, and what would change of them.
use Rattle.std.proofs.Common.{◌≡◌, ℕ, zero, suc, ◌+◌, ◌<◌, ◌≤◌, ◌==◌, Bool, true, false, ◌&&◌, ◌||◌, not, cond, Option, Some, None, option_map, is_some, List, [], ◌∷◌, ◌++◌, length, drop, drop-cons, get_or, refl, sym, ap, ◌∙◌, subst, arith}
use Rattle.std.specs.List.{list_all}
use Rattle.std.specs.Option.{option_or}
use Rattle.std.proofs.lemmas.Bool.{and_parts, ne_eqb}
use Rattle.std.proofs.lemmas.List.{drop_all}
use Rattle.fx_handles.specs.declared.Handle.{Handle}
use Rattle.fx_handles.specs.Handle.{same}
use Rattle.fx_handles.specs.HandleLaws.{same-true}
use Rattle.node_tree.specs.Forest.{Forest, tops, below, tree_of, or_else, map_values, IsDistinct}
use Rattle.node_tree.specs.Forest.Forest.{none, tree}
use Rattle.node_tree.specs.Tree.{Tree}
use Rattle.widget_model.specs.Plain.{PlainWidget, look_of}
use Rattle.widget_model.specs.Plain.{children_of as child_widgets}
use Rattle.widget_model.specs.Update.{updates}
use Rattle.reconcile.specs.Matching.{matching}
use Rattle.plain_tree.specs.At.{node_in, numbers_in}
use Rattle.plain_tree.specs.PlainNode.{PlainNode, node, widget_of, list_of, nodes_of as listed}
use Rattle.element_tree.specs.Edits.{Writes, with_widget}
use Rattle.element_tree.specs.Element.{Element, element_at}
use Rattle.element_tree.specs.Nodes.{IsLike, nodes_of}
use Rattle.element_tree.proofs.Changing.{value_after}
use Rattle.work_sets.specs.Members.{is_same_widget}
use Rattle.build_walk.specs.Kept.{node_over}
use Rattle.build_walk.proofs.Made.{list_of-nodes_of}
use Rattle.settled_builds.specs.Retaken.{gathered, can_follow_all}
use Rattle.settled_builds.specs.Taken.{nodes_below}
use Rattle.renewed_builds.specs.declared.taking.Moved.{Moved}
use Rattle.renewed_builds.specs.Renewing.{Change, change_of, order_of, places_of, draws_its_own, widgets_in, each_can_take, can_take_drawn, each_changing, changes_of, moved_to, each_moving, moves_of, taking_elements, with_given, stored_at}
use Rattle.renewed_builds.specs.Taking.{after_changes, order_after, HaveTheirOwn, StandInTurn}
use Rattle.renewed_builds.specs.Several.{Given, keeps_order, are_none, all_stored, can_take_still}
use Rattle.renewed_builds.specs.Going.{KeepsNodes}
use Rattle.renewed_builds.proofs.Retaking.{HasNumberAt}
use Rattle.renewed_builds.proofs.Rows.{o_of, g_of}
use Rattle.renewed_builds.proofs.Took.{map-twice}
use Rattle.renewed_builds.proofs.Whole.{one_can, one_in_order, not_one, row_in_order}
use Rattle.renewed_builds.proofs.Written.{Orders, placed_if, written}

-- ---- one tree of it

or_else-map : (g : Handle → Element → Element) (a b : Forest Element) → or_else (map_values g a) (map_values g b) ≡ map_values g (or_else a b)
or_else-map g none b = refl
or_else-map g (tree h e kids rest) b = refl

pub tree_of-map : (g : Handle → Element → Element) (h : Handle) (f : Forest Element) → tree_of h (map_values g f) ≡ map_values g (tree_of h f)
tree_of-map g h none = refl
tree_of-map g h (tree k e kids rest) = by_same (same k h) ((λ i. or_else (tree_of-map g h kids i) (tree_of-map g h rest i)) ∙ or_else-map g (tree_of h kids) (tree_of h rest))
  where
    by_same : (b : Bool) → or_else (tree_of h (map_values g kids)) (tree_of h (map_values g rest)) ≡ map_values g (or_else (tree_of h kids) (tree_of h rest)) → cond b (tree k (g k e) (map_values g kids) none) (or_else (tree_of h (map_values g kids)) (tree_of h (map_values g rest))) ≡ map_values g (cond b (tree k e kids none) (or_else (tree_of h kids) (tree_of h rest)))
    by_same true more = refl
    by_same false more = more

pub below-map : (g : Handle → Element → Element) (f : Forest Element) → below (map_values g f) ≡ map_values g (below f)
below-map g none = refl
below-map g (tree h e kids rest) = refl

-- ---- the nodes for which it stands

pub map_itself : (f : Forest Element) → map_values (λ k e. e) f ≡ f
map_itself none = refl
map_itself (tree h e kids rest) = λ i. tree h e (map_itself kids i) (map_itself rest i)

module _ (scrolled : ℕ → ℕ) where
  pub nodes_alike : (a b : Handle → Element → Element) (f : Forest Element) → ((k : Handle) (e : Element) → IsLike (a k e) (b k e)) → nodes_of scrolled (map_values b f) ≡ nodes_of scrolled (map_values a f)
  nodes_alike a b none like = refl
  nodes_alike a b (tree h e kids rest) like =
      let l = like h e in
      λ i. node (l.number i) (l.widget i) (l.fields i) (scrolled (l.number i)) (l.index i) (listed (nodes_alike a b kids like i)) ∷ nodes_alike a b rest like i

  pub nodes_map : (s : Handle → Element → Element) (f : Forest Element) → ((k : Handle) (e : Element) → IsLike e (s k e)) → nodes_of scrolled (map_values s f) ≡ nodes_of scrolled f
  nodes_map s f like = nodes_alike (λ k e. e) s f like ∙ ap (nodes_of scrolled) (map_itself f)

  pub numbers_map : (g : Handle → Element → Element) (f : Forest Element) → ((k : Handle) (e : Element) → (g k e).number ≡ e.number) → numbers_in (listed (nodes_of scrolled (map_values g f))) ≡ numbers_in (listed (nodes_of scrolled f))
  numbers_map g none keeps = refl
  numbers_map g (tree h e kids rest) keeps = λ i. (keeps h e i ∷ numbers_map g kids keeps i) ++ numbers_map g rest keeps i

  -- the node with the number of an element is over what is below it
  abbrev pub top_node : Forest Element → Option PlainNode
  top_node none = None
  top_node (tree h e kids rest) = Some (node_over scrolled e kids)

  top_else : (a b : Forest Element) → top_node (or_else a b) ≡ option_or (top_node a) (top_node b)
  top_else none b = refl
  top_else (tree h e kids rest) b = refl

  pub node_there : (h : Handle) (number : ℕ) (f : Forest Element) → HasNumberAt h number f → node_in number (listed (nodes_of scrolled f)) ≡ top_node (tree_of h f)
  node_there h number none has = refl
  node_there h number (tree k e kids rest) has =
      ap (λ (b : Bool). option_or (cond b (Some (node_over scrolled e kids)) (node_in number (listed (nodes_of scrolled kids)))) (node_in number (listed (nodes_of scrolled rest)))) has.0
      ∙ by_same (same k h) ((λ i. option_or (node_there h number kids has.1 i) (node_there h number rest has.2 i)) ∙ sym (top_else (tree_of h kids) (tree_of h rest)))
    where
      by_same : (b : Bool) → option_or (node_in number (listed (nodes_of scrolled kids))) (node_in number (listed (nodes_of scrolled rest))) ≡ top_node (or_else (tree_of h kids) (tree_of h rest)) → option_or (cond b (Some (node_over scrolled e kids)) (node_in number (listed (nodes_of scrolled kids)))) (node_in number (listed (nodes_of scrolled rest)))
          ≡ top_node (cond b (tree k e kids none) (or_else (tree_of h kids) (tree_of h rest)))
      by_same true more = refl
      by_same false more = more

pub has_number_map : (g : Handle → Element → Element) (h : Handle) (number : ℕ) (f : Forest Element) → ((k : Handle) (e : Element) → (g k e).number ≡ e.number) → HasNumberAt h number f → HasNumberAt h number (map_values g f)
has_number_map g h number none keeps has = tt
has_number_map g h number (tree k e kids rest) keeps has =
    (ap (λ (n : ℕ). n == number) (keeps k e) ∙ has.0, has_number_map g h number kids keeps has.1, has_number_map g h number rest keeps has.2)

-- ---- what a component stores

abbrev pub giving : Handle → List PlainWidget → Handle → Element → Element
giving h ws k e = cond (same k h) (with_given ws e) e

pub stored_maps : (h : Handle) (ws : List PlainWidget) (f : Forest Element) → stored_at h ws f ≡ map_values (giving h ws) f
stored_maps h ws none = refl
stored_maps h ws (tree k e kids rest) = λ i. tree k (giving h ws k e) (stored_maps h ws kids i) (stored_maps h ws rest i)

pub giving_like : (h : Handle) (ws : List PlainWidget) (k : Handle) (e : Element) → IsLike e (giving h ws k e)
giving_like h ws k e = by_same (same k h)
  where
    by_same : (b : Bool) → IsLike e (cond b (with_given ws e) e)
    by_same true = record { number = refl; widget = refl; fields = refl; index = refl }
    by_same false = record { number = refl; widget = refl; fields = refl; index = refl }

giving_render : (h : Handle) (ws : List PlainWidget) (k : Handle) (e : Element) → (giving h ws k e).render ≡ e.render
giving_render h ws k e = by_same (same k h)
  where
    by_same : (b : Bool) → (cond b (with_given ws e) e).render ≡ e.render
    by_same true = refl
    by_same false = refl

-- and several
abbrev pub all_giving : List Given → Handle → Element → Element
all_giving [] k e = e
all_giving (g ∷ gs) k e = all_giving gs k (giving g.at g.widgets k e)

pub all_stored_maps : (gs : List Given) (f : Forest Element) → all_stored gs f ≡ map_values (all_giving gs) f
all_stored_maps [] f = sym (map_itself f)
all_stored_maps (g ∷ gs) f =
    all_stored_maps gs (stored_at g.at g.widgets f)
    ∙ ap (map_values (all_giving gs)) (stored_maps g.at g.widgets f)
    ∙ map-twice (all_giving gs) (giving g.at g.widgets) f

pub like_then : (a b c : Element) → IsLike a b → IsLike b c → IsLike a c
like_then a b c p q = record { number = q.number ∙ p.number; widget = q.widget ∙ p.widget; fields = q.fields ∙ p.fields; index = q.index ∙ p.index }

pub all_giving_like : (gs : List Given) (k : Handle) (e : Element) → IsLike e (all_giving gs k e)
all_giving_like [] k e = record { number = refl; widget = refl; fields = refl; index = refl }
all_giving_like (g ∷ gs) k e =
    like_then e (giving g.at g.widgets k e) (all_giving gs k (giving g.at g.widgets k e)) (giving_like g.at g.widgets k e) (all_giving_like gs k (giving g.at g.widgets k e))

pub all_giving_render : (gs : List Given) (k : Handle) (e : Element) → (all_giving gs k e).render ≡ e.render
all_giving_render [] k e = refl
all_giving_render (g ∷ gs) k e = all_giving_render gs k (giving g.at g.widgets k e) ∙ giving_render g.at g.widgets k e

pub stored_more : (gs : List Given) (g : Given) (f : Forest Element) → all_stored (gs ++ g ∷ []) f ≡ stored_at g.at g.widgets (all_stored gs f)
stored_more [] g f = refl
stored_more (x ∷ gs) g f = stored_more gs g (stored_at x.at x.widgets f)

-- ---- what changes

pub after_like : (cs : List Change) (k : Handle) (e v : Element) → IsLike e v → IsLike (after_changes cs k e) (after_changes cs k v)
after_like [] k e v like = like
after_like (c ∷ cs) k e v like = after_like cs k (cond (same k c.element) (with_widget c.widget e) e) (cond (same k c.element) (with_widget c.widget v) v) (by_same (same k c.element))
  where
    by_same : (b : Bool) → IsLike (cond b (with_widget c.widget e) e) (cond b (with_widget c.widget v) v)
    by_same true = record { number = like.number; widget = refl; fields = like.fields; index = like.index }
    by_same false = like

pub widget_alone : (cs : List Change) (k : Handle) (e : Element) → after_changes cs k e ≡ with_widget (after_changes cs k e).widget e
widget_alone [] k e = refl
widget_alone (c ∷ cs) k e = widget_alone cs k (cond (same k c.element) (with_widget c.widget e) e) ∙ by_same (same k c.element) (after_changes (c ∷ cs) k e).widget
  where
    by_same : (b : Bool) (w : PlainWidget) → with_widget w (cond b (with_widget c.widget e) e) ≡ with_widget w e
    by_same true w = refl
    by_same false w = refl

pub number_after : (cs : List Change) (k : Handle) (e : Element) → (after_changes cs k e).number ≡ e.number
number_after cs k e = ap (λ (v : Element). v.number) (widget_alone cs k e)

-- the nodes tell where no widget is another one
abbrev widget_first : PlainWidget → List PlainNode → PlainWidget
widget_first w [] = w
widget_first w (n ∷ ns) = widget_of n

abbrev below_first : List PlainNode → List PlainNode
below_first [] = []
below_first (n ∷ ns) = list_of (nodes_below n)

abbrev later_ones : List PlainNode → List PlainNode
later_ones [] = []
later_ones (n ∷ ns) = ns

pub unmoved : (scrolled : ℕ → ℕ) (cs : List Change) (f : Forest Element) → nodes_of scrolled (map_values (after_changes cs) f) ≡ nodes_of scrolled f → map_values (after_changes cs) f ≡ f
unmoved scrolled cs none is = refl
unmoved scrolled cs (tree h e kids rest) is =
    let widget : (after_changes cs h e).widget ≡ e.widget = ap (widget_first e.widget) is in
    let own : after_changes cs h e ≡ e = widget_alone cs h e ∙ ap (λ (w : PlainWidget). with_widget w e) widget in
    let low = unmoved scrolled cs kids (sym (list_of-nodes_of (nodes_of scrolled (map_values (after_changes cs) kids))) ∙ ap below_first is ∙ list_of-nodes_of (nodes_of scrolled kids)) in
    let more = unmoved scrolled cs rest (ap later_ones is) in
    λ i. tree h (own i) (low i) (more i)

-- ---- what can be taken doesn't depend on flags and outputs

module _ (s : Handle → Element → Element) (widget : (k : Handle) (e : Element) → (s k e).widget ≡ e.widget) (render : (k : Handle) (e : Element) → (s k e).render ≡ e.render) where
  pub widgets_map : (f : Forest Element) → widgets_in (map_values s f) ≡ widgets_in f
  widgets_map none = refl
  widgets_map (tree h e kids rest) = λ i. widget h e i ∷ widgets_map rest i

  can_map : (f : Forest Element) → each_can_take (map_values s f) ≡ each_can_take f
  can_map none = refl
  can_map (tree h e kids rest) =
      λ i. (λ w. is_same_widget (widget h e i) w || ((updates (widget h e i) w && (draws_its_own (look_of (widget h e i)) && (draws_its_own (look_of w) && is_some (render h e i)))) && can_follow_all (widgets_map kids i) (child_widgets w) (can_map kids i)))
      ∷ can_map rest i

  changing_map : (f : Forest Element) → each_changing (map_values s f) ≡ each_changing f
  changing_map none = refl
  changing_map (tree h e kids rest) =
      λ i. (λ w place. cond (is_same_widget (widget h e i) w) [] (change_of h (render h e i) w (order_of (places_of (matching (widgets_map kids i) (child_widgets w)))) ++ gathered (changing_map kids i) 0 (child_widgets w) (matching (widgets_map kids i) (child_widgets w))))
      ∷ changing_map rest i

  moving_map : (old : ℕ) (f : Forest Element) → each_moving old (map_values s f) ≡ each_moving old f
  moving_map old none = refl
  moving_map old (tree h e kids rest) =
      λ i. (λ w place. moved_to h old place ++ cond (is_same_widget (widget h e i) w) [] (gathered (moving_map 0 kids i) 0 (child_widgets w) (matching (widgets_map kids i) (child_widgets w))))
      ∷ moving_map (suc old) rest i

  pub changes_map : (f : Forest Element) (ws : List PlainWidget) → changes_of (map_values s f) ws ≡ changes_of f ws
  changes_map f ws = λ i. gathered (changing_map f i) 0 ws (matching (widgets_map f i) ws)

  pub still_map : (f : Forest Element) (ws : List PlainWidget) → can_take_still (map_values s f) ws ≡ can_take_still f ws
  still_map f ws =
      λ i. can_follow_all (widgets_map f i) ws (can_map f i) && (list_all keeps_order (changes_map f ws i) && are_none (gathered (moving_map 0 f i) 0 ws (matching (widgets_map f i) ws)))

-- ---- where no child moves

no_order : (b : Bool) (o : Option (List ℕ)) → not (is_some o) ≡ true → cond b o None ≡ None
no_order true None e = refl
no_order false None e = refl
no_order true (Some places) e = cc
no_order false (Some places) e = cc

pub orders_none : (cs : List Change) → list_all keeps_order cs ≡ true → (k : Handle) → order_after cs k None ≡ None
orders_none [] keep k = refl
orders_none (c ∷ cs) keep k =
    let parts = and_parts (keeps_order c) (list_all keeps_order cs) keep in
    ap (order_after cs k) (no_order (same k c.element) c.order parts.0) ∙ orders_none cs parts.1 k

pub none_tested : (ms : List Moved) → (length ms == 0) ≡ are_none ms
none_tested [] = refl
none_tested (m ∷ ms) = ne_eqb (length (m ∷ ms)) 0 (λ is. omega (arith, is))

pub moves_none : (ms : List Moved) → are_none ms ≡ true → ms ≡ []
moves_none [] e = refl
moves_none (m ∷ ms) e = cc

pub written_maps : (o : Orders) (g : Handle → Element → Element) → ((k : Handle) → o k ≡ None) → (f : Forest Element) → written o g f ≡ map_values g f
written_maps o g quiet none = refl
written_maps o g quiet (tree h e kids rest) = λ i. tree h (g h e) (placed_if (quiet h i) (written_maps o g quiet kids i)) (written_maps o g quiet rest i)

false_is_true : {P : Type 0} (b : Bool) → b ≡ true → b ≡ false → P
false_is_true true e d = cc
false_is_true false e d = cc

-- one tree that can take a widget becomes what is written of it
pub row_still : (low : Forest Element) (w : PlainWidget) → HaveTheirOwn low → IsDistinct low → StandInTurn 0 low → can_take_drawn low (w ∷ []) ≡ true
    → written (o_of (changes_of low (w ∷ []))) (g_of (changes_of low (w ∷ [])) (moves_of low (w ∷ []))) low ≡ taking_elements low (w ∷ [])
row_still none w own distinct order can = false_is_true (can_take_drawn none (w ∷ [])) can (not_one none w (λ one. omega (arith, one)))
row_still (tree k e kids none) w own distinct order can =
    row_in_order (tree k e kids none) own distinct order (w ∷ []) can (one_in_order k e kids w (sym (one_can k e kids w) ∙ can))
row_still (tree k e kids (tree j v more rest)) w own distinct order can =
    false_is_true (can_take_drawn (tree k e kids (tree j v more rest)) (w ∷ [])) can (not_one (tree k e kids (tree j v more rest)) w (λ one. omega (arith, one)))

-- ---- tests over changes

pub keep_next : (cs : List Change) (i : ℕ) (d : Change) → i < length cs → list_all keeps_order (drop i cs) ≡ (keeps_order (get_or cs i d) && list_all keeps_order (drop (i + 1) cs))
keep_next cs i d low =
    let next : suc i ≡ i + 1 = omega arith in
    ap (list_all keeps_order) (drop-cons cs i d low) ∙ ap (λ (n : ℕ). keeps_order (get_or cs i d) && list_all keeps_order (drop n cs)) next

pub keep_broken : (cs : List Change) (i : ℕ) (d : Change) (whole : Bool) → i < length cs → list_all keeps_order (drop i cs) ≡ whole → is_some (get_or cs i d).order ≡ true → false ≡ whole
keep_broken cs i d whole low so_far other = sym (keep_next cs i d low ∙ ap (λ (b : Bool). not b && list_all keeps_order (drop (i + 1) cs)) other) ∙ so_far

pub keep_more : (cs : List Change) (i : ℕ) (d : Change) (whole : Bool) → i < length cs → list_all keeps_order (drop i cs) ≡ whole → is_some (get_or cs i d).order ≡ false → list_all keeps_order (drop (i + 1) cs) ≡ whole
keep_more cs i d whole low so_far quiet = sym (keep_next cs i d low ∙ ap (λ (b : Bool). not b && list_all keeps_order (drop (i + 1) cs)) quiet) ∙ so_far

pub keep_all : (cs : List Change) (i : ℕ) (whole : Bool) → length cs ≤ i → list_all keeps_order (drop i cs) ≡ whole → true ≡ whole
keep_all cs i whole past so_far = sym (ap (list_all keeps_order) (drop_all i cs past)) ∙ so_far

pub some_mapped : {A B : Type 0} (f : A → B) (o : Option A) → is_some (option_map f o) ≡ is_some o
some_mapped f None = refl
some_mapped f (Some a) = refl

-- ---- elements that show the same

pub nodes_then : (t u v : Tree Element) → KeepsNodes t u → KeepsNodes u v → KeepsNodes t v
nodes_then t u v a b = λ k z at.
    let q = b k z at in
    let p = a k q.0 q.1 in
    (p.0, p.1, like_then p.0 q.0 z p.2 q.2, q.3 ∙ p.3)

some_is : {X : Type 0} {x y : X} → Some x ≡ Some y → x ≡ y
some_is e = cc

-- one of them is written
module _ (t u : Tree Element) (h : Handle) (e w : Element) (here : element_at t h ≡ Some e) (like : IsLike e w) (render : w.render ≡ e.render) (writes : Writes t u h w) where
  abbrev Kept : Handle → Element → Type 0
  Kept k v = (z : Element) × (element_at t k ≡ Some z) × IsLike z v × (v.render ≡ z.render)

  kept_one : (k : Handle) (v z : Element) → element_at t k ≡ Some z → (b : Bool) → same k h ≡ b → cond b w z ≡ v → Kept k v
  kept_one k v z there true is at = (e, ap (element_at t) (same-true k h is) ∙ here, subst (λ (x : Element). IsLike e x) at like, subst (λ (x : Element). x.render ≡ e.render) at render)
  kept_one k v z there false is at = (z, there, subst (λ (x : Element). IsLike z x) at (record { number = refl; widget = refl; fields = refl; index = refl }), subst (λ (x : Element). x.render ≡ z.render) at refl)

  kept_by : (k : Handle) (v : Element) (o : Option Element) → element_at t k ≡ o → option_map (λ (x : Element). cond (same k h) w x) o ≡ Some v → Kept k v
  kept_by k v None there at = cc
  kept_by k v (Some z) there at = kept_one k v z there (same k h) refl (some_is at)

  pub written_keeps : KeepsNodes t u
  written_keeps = λ k v at. kept_by k v (element_at t k) refl (sym (value_after t u h w writes.writes k) ∙ at)

-- What is known of an element of the last frame is known of those below it, and stays so where elements and render nodes are added.
use Rattle.std.proofs.Common.{◌≡◌, ℕ, Option, Some, None, IsSome, List, [], ◌∷◌, map, option_map, refl, sym, ap, ◌∙◌, subst, arith}
use Rattle.std.specs.List.{All}
use Rattle.std.proofs.lemmas.List.Elements.{All-nil, All-cons}
use Rattle.fx_expr.specs.declared.values.Value.{Value}
use Rattle.fx_handles.specs.declared.Handle.{Handle}
use Rattle.node_tree.specs.Forest.{TreeNode, Forest, tops, below, IsDistinct, Stands}
use Rattle.node_tree.specs.Forest.Forest.{none, tree}
use Rattle.node_tree.specs.Tree.{Tree, node_at, IsNode, parent_at, children_at, parent_of, tops_at, Is, subtree_at, StandsAt, Holds}
use Rattle.plain_tree.specs.PlainNode.{PlainNode, widget_of, index_of, children_of, list_of, nodes_of as listed}
use Rattle.plain_tree.specs.RenderRole.{vanishes}
use Rattle.build_form.specs.Entering.{values_below}
use Rattle.build_form.specs.Partner.{nodes_had}
use Rattle.element_tree.specs.Element.{Element, element_at}
use Rattle.element_tree.specs.Nodes.{nodes_of}
use Rattle.render_tree.specs.Object.{RenderObject}
use Rattle.render_tree.specs.Tree.{object_at}
use Rattle.build_walk.specs.Past.{Pasts}
use Rattle.build_walk.specs.Renewing.{role_of, IsDrawn, Unless, AreDrawn}
use Rattle.build_walk.specs.Telling.{element_past, TellPasts}
use Rattle.build_walk.specs.Kept.{node_over, first_node, plain_at, plain_at_any, IsOldElement}
use Rattle.build_walk.proofs.Made.{list_of-nodes_of}
use Rattle.build_walk.proofs.Siblings.{drawn_later}

-- one tree of a forest stands where the forest does
pub one_stands : (t : Tree Element) (p : Option Handle) (h : Handle) (e : Element) (kids rest : Forest Element) → Stands (node_at t) p (tree h e kids rest) → IsDistinct (tree h e kids rest)
    → StandsAt t h (tree h e kids none)
one_stands t p h e kids rest stands distinct = record {
  top = refl;
  stands = (subst (λ q. node_at t h ≡ Some (record { parent = q; children = tops kids; value = e })) (sym (ap parent_of stands.0)) stands.0, stands.1, tt);
  distinct = λ x. omega (arith, distinct x);
}

module _ (pasts : Pasts) (scrolled : ℕ → ℕ) (t : Tree Element) (found : (h : Handle) (s : Forest Element) → StandsAt t h s → subtree_at t h ≡ s) where
  -- the trees of a forest are those of its tops
  each_kept : (r : Tree RenderObject) (p : Option Handle) (olds : List Value) (f : Forest Element) → Stands (node_at t) p f → IsDistinct f → TellPasts pasts olds f
      → AreDrawn (object_at r) scrolled f → All (IsOldElement pasts scrolled olds t r) (tops f)
  each_kept r p olds none stands distinct tells drawn = All-nil (IsOldElement pasts scrolled olds t r)
  each_kept r p olds (tree h e kids rest) stands distinct tells drawn =
      let one = one_stands t p h e kids rest stands distinct in
      let is = found h (tree h e kids none) one in
      All-cons (IsOldElement pasts scrolled olds t r) h (tops rest)
      (record {
        holds = subst (StandsAt t h) (sym is) one;
        tells = subst (TellPasts pasts olds) (sym is) (tells.0, tells.1, tt);
        drawn = subst (AreDrawn (object_at r) scrolled) (sym is) (drawn.0, drawn.1, tt);
      })
      (each_kept r p olds rest stands.2 (λ x. omega (arith, distinct x)) tells.2 drawn.2)

  each_plain : (p : Option Handle) (f : Forest Element) → Stands (node_at t) p f → IsDistinct f → map (plain_at scrolled t) (tops f) ≡ map Some (nodes_of scrolled f)
  each_plain p none stands distinct = refl
  each_plain p (tree h e kids rest) stands distinct =
      let is = found h (tree h e kids none) (one_stands t p h e kids rest stands distinct) in
      ap (λ (s : Forest Element). first_node (nodes_of scrolled s) ∷ map (plain_at scrolled t) (tops rest)) is
      ∙ ap (λ ns. Some (node_over scrolled e kids) ∷ ns) (each_plain p rest stands.2 (λ x. omega (arith, distinct x)))

  module _ (h : Handle) (e : Element) (holds : Holds t h) (opened : subtree_at t h ≡ tree h e (below (subtree_at t h)) none) where
    abbrev under : Forest Element
    under = below (subtree_at t h)

    distinct_below : IsDistinct under
    distinct_below = let all = subst IsDistinct opened holds.distinct in λ x. omega (arith, all x)

    pub kept_node : plain_at scrolled t h ≡ Some (node_over scrolled e under)
    kept_node = ap (λ (s : Forest Element). first_node (nodes_of scrolled s)) opened

    module _ (stands : Stands (node_at t) (Some h) under) (listed_below : tops under ≡ children_at t h) where
      pub kept_nodes : map (plain_at scrolled t) (children_at t h) ≡ map Some (nodes_had (plain_at scrolled t h))
      kept_nodes =
          ap (map (plain_at scrolled t)) (sym listed_below)
          ∙ each_plain (Some h) under stands distinct_below
          ∙ ap (map Some) (sym (list_of-nodes_of (nodes_of scrolled under)))
          ∙ ap (λ o. map Some (nodes_had o)) (sym kept_node)

      module _ (r : Tree RenderObject) (olds : List Value) (kept : IsOldElement pasts scrolled olds t r h) where
        pub kept_past : pasts e.number ≡ Some (element_past olds e)
        kept_past = (subst (TellPasts pasts olds) opened kept.tells).0

        pub kept_drawn : Unless (vanishes (role_of e)) (IsDrawn (object_at r) (scrolled e.number) e)
        kept_drawn = (subst (AreDrawn (object_at r) scrolled) opened kept.drawn).0

        pub kept_below : All (IsOldElement pasts scrolled (values_below e.widget olds) t r) (children_at t h)
        kept_below =
            subst (All (IsOldElement pasts scrolled (values_below e.widget olds) t r)) listed_below
            (each_kept r (Some h) (values_below e.widget olds) under stands distinct_below
            (subst (TellPasts pasts olds) opened kept.tells).1
            (subst (AreDrawn (object_at r) scrolled) opened kept.drawn).1)

-- where elements and render nodes are added
pub kept_later : (pasts : Pasts) (scrolled : ℕ → ℕ) (olds : List Value) (t u : Tree Element) (r s : Tree RenderObject) (h : Handle)
    → subtree_at u h ≡ subtree_at t h → Holds u h → ((k : Handle) (o : RenderObject) → object_at r k ≡ Some o → object_at s k ≡ Some o)
    → IsOldElement pasts scrolled olds t r h → IsOldElement pasts scrolled olds u s h
kept_later pasts scrolled olds t u r s h same holds keeps kept = record {
  holds = holds;
  tells = subst (TellPasts pasts olds) (sym same) kept.tells;
  drawn = drawn_later (object_at r) (object_at s) scrolled keeps (subtree_at u h) (subst (AreDrawn (object_at r) scrolled) (sym same) kept.drawn);
}

-- what stands at a handle is live
pub holds_live : (t : Tree Element) (h : Handle) → Holds t h → IsNode t h
holds_live t h holds = by_forest (subtree_at t h) holds.top holds.stands
  where
    by_forest : (s : Forest Element) → tops s ≡ h ∷ [] → Stands (node_at t) (parent_at t h) s → IsNode t h
    by_forest none top stands = absurd (cc)
    by_forest (tree k v kids rest) top stands =
        let here : k ≡ h = first_same top in
        subst (λ x. IsNode t x) here (subst IsSome (sym stands.0) refl)
      where
        first_same : {x : Handle} → k ∷ tops rest ≡ x ∷ [] → k ≡ x
        first_same e = cc

no_value : (o : Option (TreeNode Element)) → IsSome o → option_map (λ (n : TreeNode Element). n.value) o ≡ None → ⊥
no_value None live e = cc
no_value (Some n) live e = cc

module _ (scrolled : ℕ → ℕ) (t : Tree Element) (h : Handle) (holds : Holds t h) (node : (e : Element) → element_at t h ≡ Some e → plain_at scrolled t h ≡ Some (node_over scrolled e (below (subtree_at t h)))) where
  by_element : {A : Type 0} (f : PlainNode → A) (g : Element → A) → ((e : Element) (kids : Forest Element) → f (node_over scrolled e kids) ≡ g e)
      → (o : Option Element) → element_at t h ≡ o → option_map f (plain_at scrolled t h) ≡ option_map g (element_at t h)
  by_element f g same None is = absurd (no_value (node_at t h) (holds_live t h holds) is)
  by_element f g same (Some e) is = ap (option_map f) (node e is) ∙ ap Some (same e (below (subtree_at t h))) ∙ sym (ap (option_map g) is)

  pub widget_kept : option_map widget_of (plain_at scrolled t h) ≡ option_map (λ (e : Element). e.widget) (element_at t h)
  widget_kept = by_element widget_of (λ (e : Element). e.widget) (λ e kids. refl) (element_at t h) refl

  pub place_kept : option_map index_of (plain_at scrolled t h) ≡ option_map (λ (e : Element). e.index) (element_at t h)
  place_kept = by_element index_of (λ (e : Element). e.index) (λ e kids. refl) (element_at t h) refl

-- the tops of a whole tree
pub tops_kept : (pasts : Pasts) (scrolled : ℕ → ℕ) (defaults : List Value) (t : Tree Element) (found : (h : Handle) (s : Forest Element) → StandsAt t h s → subtree_at t h ≡ s) (r : Tree RenderObject) (f : Forest Element)
    → Is t f → TellPasts pasts defaults f → AreDrawn (object_at r) scrolled f → All (IsOldElement pasts scrolled defaults t r) (tops_at t)
tops_kept pasts scrolled defaults t found r f is tells drawn =
    subst (All (IsOldElement pasts scrolled defaults t r)) (sym is.tops) (each_kept pasts scrolled t found r None defaults f is.stands is.distinct tells drawn)

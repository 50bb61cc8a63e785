-- The forest that a plan builds, that forest with its marks, and as a layout leaves it.
use Rattle.std.proofs.Common.{◌≡◌, true, false, not, ◌&&◌, ◌||◌, Option, Some, None, option_map, List, ◌∷◌, refl, sym, ap, ◌∙◌, subst}
use Rattle.fx_handles.specs.declared.Handle.{Handle}
use Rattle.fx_handles.specs.ArenaLaws.{same_Some}
use Rattle.node_tree.specs.Forest.{TreeNode, Forest, tops, Stands}
use Rattle.node_tree.specs.Forest.Forest.{none, tree}
use Rattle.node_tree.specs.Tree.{Tree, node_at, children_at, children_of}
use Rattle.tree_marks.specs.Marking.{Above, within}
use Rattle.tree_marks.specs.Marks.{listed, some_climbs, sweep}
use Rattle.work_roles.specs.WorkRole.{is_repaint_boundary}
use Rattle.work_sets.specs.Paint.{numbers_below}
use Rattle.layout_rules.specs.Painting.{KeepsRest}
use Rattle.layout_rules.specs.Reads.{state_at}
use Rattle.render_tree.specs.declared.layout_state.LayoutState.{LayoutState}
use Rattle.render_tree.specs.LayoutState.{with_layout_state}
use Rattle.render_tree.specs.Marks.{layout_marks, paint_marks}
use Rattle.render_tree.specs.Object.{RenderObject, object_look}
use Rattle.render_tree.specs.Plain.{renders_of}
use Rattle.counted_work.specs.Painted.{paint_above}

-- the same nodes, each of its kind and with its number
abbrev pub SameNodes : Forest RenderObject → Forest RenderObject → Type 0
SameNodes none none = Unit {0}
SameNodes none (tree k w under rest) = ⊥
SameNodes (tree h v kids more) none = ⊥
SameNodes (tree h v kids more) (tree k w under rest) =
    (h ≡ k) × (object_look v ≡ object_look w) × (v.number ≡ w.number) × SameNodes kids under × SameNodes more rest

pub swept_nodes : (layouts paints : List Handle) (a b : Above) (f : Forest RenderObject) → SameNodes f (sweep paint_marks true paints b (sweep layout_marks true layouts a f))
swept_nodes layouts paints a b none = tt
swept_nodes layouts paints a b (tree h v kids rest) =
    (refl, refl, refl, swept_nodes layouts paints (within layout_marks a v) (within paint_marks b v) kids, swept_nodes layouts paints a b rest)

pub numbers_same : (f g : Forest RenderObject) → SameNodes f g → numbers_below (renders_of f) ≡ numbers_below (renders_of g)
numbers_same none none s = refl
numbers_same none (tree k w under rest) s = absurd s
numbers_same (tree h v kids more) none s = absurd s
numbers_same (tree h v kids more) (tree k w under rest) s = λ i. s.2 i ∷ numbers_same more rest s.4 i

pub climbs_same : (hs : List Handle) (f g : Forest RenderObject) → SameNodes f g → some_climbs paint_marks hs (paint_above false) f ≡ some_climbs paint_marks hs (paint_above false) g
climbs_same hs none none s = refl
climbs_same hs none (tree k w under rest) s = absurd s
climbs_same hs (tree h v kids more) none s = absurd s
climbs_same hs (tree h v kids more) (tree k w under rest) s = λ i.
    ((listed (s.0 i) hs || climbs_same hs kids under s.3 i) && not (is_repaint_boundary (s.1 i))) || climbs_same hs more rest s.4 i

-- a forest as a layout leaves it
abbrev pub IsRelaid : Forest RenderObject → Forest RenderObject → Type 0
IsRelaid none none = Unit {0}
IsRelaid none (tree k w under rest) = ⊥
IsRelaid (tree h v kids more) none = ⊥
IsRelaid (tree h v kids more) (tree k w under rest) = (h ≡ k) × ((u : LayoutState) × (w ≡ with_layout_state u v)) × IsRelaid kids under × IsRelaid more rest

pub relaid_nodes : (f g l : Forest RenderObject) → SameNodes f g → IsRelaid g l → SameNodes f l
relaid_nodes none none none s r = tt
relaid_nodes none none (tree k w under rest) s r = absurd r
relaid_nodes none (tree k w under rest) l s r = absurd s
relaid_nodes (tree h v kids more) none l s r = absurd s
relaid_nodes (tree h v kids more) (tree k w under rest) none s r = absurd r
relaid_nodes (tree h v kids more) (tree k w under rest) (tree j x below_x others) s r = (
  s.0 ∙ r.0,
  s.1 ∙ ap object_look (sym r.1.1),
  s.2 ∙ ap (λ (o : RenderObject). o.number) (sym r.1.1),
  relaid_nodes kids under below_x s.3 r.2,
  relaid_nodes more rest others s.4 r.3,
)

head_tail : (h k : Handle) (hs ks : List Handle) → h ∷ hs ≡ k ∷ ks → (h ≡ k) × (hs ≡ ks)
head_tail h k hs ks e = (cc, cc)

module _ (brought laid : Tree RenderObject) (keeps : KeepsRest brought laid) where
  pub laid_node : (k : Handle) (n : TreeNode RenderObject) → node_at brought k ≡ Some n → node_at laid k ≡ Some (record n { value = with_layout_state (state_at laid k) n.value })
  laid_node k n e = keeps.nodes k ∙ ap (option_map (λ (m : TreeNode RenderObject). record m { value = with_layout_state (state_at laid k) m.value })) e

  pub brought_node : (k : Handle) (n : TreeNode RenderObject) → node_at laid k ≡ Some n → (m : TreeNode RenderObject) × (node_at brought k ≡ Some m) × (n ≡ record m { value = with_layout_state (state_at laid k) m.value })
  brought_node k n e = by_node (node_at brought k) refl
    where
      none_some : {B : Type 0} → None ≡ Some n → B
      none_some x = absurd (cc)

      by_node : (x : Option (TreeNode RenderObject)) → node_at brought k ≡ x → (m : TreeNode RenderObject) × (node_at brought k ≡ Some m) × (n ≡ record m { value = with_layout_state (state_at laid k) m.value })
      by_node None f = none_some (sym (keeps.nodes k ∙ ap (option_map (λ (m : TreeNode RenderObject). record m { value = with_layout_state (state_at laid k) m.value })) f) ∙ e)
      by_node (Some m) f = (m, f, same_Some (sym e ∙ laid_node k m f))

  pub same_lists : (k : Handle) → children_at brought k ≡ children_at laid k
  same_lists k = by_node (node_at brought k) refl
    where
      by_node : (x : Option (TreeNode RenderObject)) → node_at brought k ≡ x → children_at brought k ≡ children_at laid k
      by_node None f = ap children_of f ∙ sym (ap children_of (keeps.nodes k ∙ ap (option_map (λ (m : TreeNode RenderObject). record m { value = with_layout_state (state_at laid k) m.value })) f))
      by_node (Some m) f = ap children_of f ∙ sym (ap children_of (laid_node k m f))

  pub relaid_forest : (q : Option Handle) (f g : Forest RenderObject) → Stands (node_at brought) q f → Stands (node_at laid) q g → tops f ≡ tops g → IsRelaid f g
  relaid_forest q none none s t e = tt
  relaid_forest q none (tree k w under rest) s t e = cc
  relaid_forest q (tree h v kids more) none s t e = cc
  relaid_forest q (tree h v kids more) (tree k w under rest) s t e =
      let heads = head_tail h k (tops more) (tops rest) e in
      let there = laid_node h (record { parent = q; children = tops kids; value = v }) s.0 in
      let node : List Handle → RenderObject → TreeNode RenderObject = λ l x. record { parent = q; children = l; value = x } in
      let same_node : node (tops kids) (with_layout_state (state_at laid h) v) ≡ node (tops under) w = same_Some (sym there ∙ (ap (node_at laid) heads.0 ∙ t.0)) in (
        heads.0,
        (state_at laid h, ap (λ (n : TreeNode RenderObject). n.value) (sym same_node)),
        relaid_forest (Some h) kids under s.1 (subst (λ x. Stands (node_at laid) (Some x) under) (sym heads.0) t.1) (ap (λ (n : TreeNode RenderObject). n.children) same_node),
        relaid_forest q more rest s.2 t.2 heads.1,
      )

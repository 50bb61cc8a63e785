-- Below lazy lists an outer flush scrolls no node otherwise.
use Rattle.std.proofs.Common.{◌≡◌, ◌⊎◌, ℕ, Bool, true, false, ◌||◌, Option, Some, None, option_map, List, [], ◌∷◌, refl, ap, sym, subst, ◌∙◌, inl, inr}
use Rattle.std.proofs.lemmas.Bool.{cases_Bool, false≢true}
use Rattle.fx_geom.specs.declared.boxes.Bounds.{Bounds}
use Rattle.fx_handles.specs.declared.Handle.{Handle}
use Rattle.node_tree.specs.Forest.{TreeNode, Forest, Stands}
use Rattle.node_tree.specs.Forest.Forest.{none, tree}
use Rattle.node_tree.specs.Tree.{Tree, node_at}
use Rattle.plain_tree.specs.declared.render.ParentData.{ParentData}
use Rattle.plain_tree.specs.declared.laid.Frame.{Frame}
use Rattle.tree_marks.specs.Marks.{listed, has_listed}
use Rattle.widget_model.specs.Look.{Look, sliver_lazy}
use Rattle.layout_form.specs.declared.asks.Ask.{Ask}
use Rattle.layout_form.specs.declared.asks.Ask.TheVariants.{AsBox, AsSliver}
use Rattle.layout_form.specs.Object.{Setting}
use Rattle.layout_walk.specs.Full.{asks_at, objects}
use Rattle.layout_walk.specs.Here.{outer_back}
use Rattle.layout_walk.specs.Node.{LayoutNode, NodeMember, member, members, tellings}
use Rattle.layout_walk.specs.Rule.{LayoutParts, asks_by, ask_of, later}
use Rattle.layout_walk.specs.Rules.{parts_of, is_list}
use Rattle.layout_walk.specs.Walk.{IsLeft, CorrectedAs, HeldOr, AreCorrected, IsCorrected}
use Rattle.layout_rules.specs.Nodes.{layout_node, layout_nodes}
use Rattle.render_tree.specs.Object.{RenderObject}
use Rattle.render_tree.specs.Tree.{object_at}
use Rattle.kept_phases.specs.Lists.{AreScrolledOtherwise}

-- ---- nodes that are scrolled as they were

-- all of them
abbrev AreStill : Forest LayoutNode → Forest LayoutNode → Type 0
AreStill none none = Unit {0}
AreStill none (tree k w below rest) = ⊥
AreStill (tree h v kids more) none = ⊥
AreStill (tree h v kids more) (tree k w below rest) = (h ≡ k) × (w.scroll ≡ v.scroll) × AreStill kids below × AreStill more rest

-- those below lists
abbrev ListsStill : Forest LayoutNode → Forest LayoutNode → Type 0
ListsStill none none = Unit {0}
ListsStill none (tree k w below rest) = ⊥
ListsStill (tree h v kids more) none = ⊥
ListsStill (tree h v kids more) (tree k w below rest) = (h ≡ k) × (is_list w.look ≡ true → AreStill kids below) × ListsStill kids below × ListsStill more rest

still_self : (f : Forest LayoutNode) → AreStill f f
still_self none = tt
still_self (tree h v kids rest) = (refl, refl, still_self kids, still_self rest)

lists_self : (f : Forest LayoutNode) → ListsStill f f
lists_self none = tt
lists_self (tree h v kids rest) = (refl, (λ list. still_self kids), lists_self kids, lists_self rest)

still_kept : (kids below : Forest LayoutNode) → below ≡ kids → AreStill kids below
still_kept kids below e = subst (λ (f : Forest LayoutNode). AreStill kids f) (sym e) (still_self kids)

lists_kept : (kids below : Forest LayoutNode) → below ≡ kids → ListsStill kids below
lists_kept kids below e = subst (λ (f : Forest LayoutNode). ListsStill kids f) (sym e) (lists_self kids)

-- ---- a list asks nobody as a box, and is held back as a sliver

box_nobody : (s : Setting) (m : NodeMember) (look : Look) (scroll : ℕ) (b : Bounds) (liked : ℕ) (ds : List ParentData) (gs : List (Ask → Frame)) → is_list look ≡ true
    → asks_by (parts_of s) (record m { look = look }) scroll (AsBox b) liked ds gs ≡ []
unfolding asks_by
box_nobody s m (sliver_lazy extent) scroll b liked ds gs is = refl
box_nobody s m look scroll b liked ds gs is = absurd (false≢true is)

sliver_held : (s : Setting) (look : Look) (ask : Ask) → is_list look ≡ true → (outer_back (parts_of s) look (Some ask) ≡ true) ⊎ ((b : Bounds) × (ask ≡ AsBox b))
sliver_held s (sliver_lazy extent) (AsBox b) is = inr (b, refl)
sliver_held s (sliver_lazy extent) (AsSliver b) is = inl refl
sliver_held s look ask is = absurd (false≢true is)

module _ (s : Setting) where
  abbrev P : LayoutParts
  P = parts_of s

  nobody_still : (f g : Forest LayoutNode) → AreCorrected P (outer_back P) [] f g → AreStill f g
  nobody_still none none corrected = tt
  nobody_still none (tree k w below rest) corrected = absurd corrected
  nobody_still (tree h v kids more) none corrected = absurd corrected
  nobody_still (tree h v kids more) (tree k w below rest) corrected =
      (corrected.0, ap (λ (x : LayoutNode). x.scroll) corrected.2.value, still_kept kids below corrected.2.inside, nobody_still more rest corrected.3)

  -- what is below a list
  list_still : (ask : Ask) (v : LayoutNode) (kids : Forest LayoutNode) (w : LayoutNode) (below : Forest LayoutNode) → IsCorrected P (outer_back P) ask v kids w below → is_list v.look ≡ true → AreStill kids below
  list_still ask v kids w below corrected list = elim (sliver_held s v.look ask list) [
    | inl held ↦ still_kept kids below (subst (λ (b : Bool). HeldOr b (below ≡ kids) (AreCorrected P (outer_back P) (asks_at P v ask kids (objects P kids)) kids below)) held corrected.1)
    | inr box ↦ by_back (outer_back P v.look (Some ask)) corrected.1 box.0 box.1
  ]
    where
      by_back : (b : Bool) → HeldOr b (below ≡ kids) (AreCorrected P (outer_back P) (asks_at P v ask kids (objects P kids)) kids below) → (bounds : Bounds) → ask ≡ AsBox bounds → AreStill kids below
      by_back true held bounds is = still_kept kids below held
      by_back false laid bounds is =
          nobody_still kids below
          (subst (λ (asks : List (Option Ask)). AreCorrected P (outer_back P) asks kids below)
          (ap (λ (a : Ask). asks_at P v a kids (objects P kids)) is
          ∙ box_nobody s (member v) v.look v.scroll bounds (P.liked v.look (AsBox bounds) (members kids)) (tellings kids) (objects P kids) list) laid)

  -- what is said of the trees below a node, however they are asked
  abbrev FurtherStill : Forest LayoutNode → Forest LayoutNode → Type 0
  FurtherStill kids below = (xs : List (Option Ask)) → AreCorrected P (outer_back P) xs kids below → ListsStill kids below

  lists_still : (asks : List (Option Ask)) (f g : Forest LayoutNode) → AreCorrected P (outer_back P) asks f g → ListsStill f g
  lists_still asks none none corrected = tt
  lists_still asks none (tree k w below rest) corrected = absurd corrected
  lists_still asks (tree h v kids more) none corrected = absurd corrected
  lists_still asks (tree h v kids more) (tree k w below rest) corrected =
      let look : v.look ≡ w.look = ap (λ (m : NodeMember). m.look) corrected.1 in (
        corrected.0,
        (λ list. own (ask_of asks) corrected.2 (ap is_list look ∙ list)),
        inside (ask_of asks) (λ xs laid. lists_still xs kids below laid) corrected.2,
        lists_still (later asks) more rest corrected.3,
      )
    where
      own : (o : Option Ask) → CorrectedAs o (λ ask. IsCorrected P (outer_back P) ask v kids w below) (IsLeft v kids w below) → is_list v.look ≡ true → AreStill kids below
      own None left list = still_kept kids below left.inside
      own (Some ask) laid list = list_still ask v kids w below laid list

      by_back : FurtherStill kids below → (b : Bool) (xs : List (Option Ask)) → HeldOr b (below ≡ kids) (AreCorrected P (outer_back P) xs kids below) → ListsStill kids below
      by_back further true xs held = lists_kept kids below held
      by_back further false xs laid = further xs laid

      inside : (o : Option Ask) → FurtherStill kids below → CorrectedAs o (λ ask. IsCorrected P (outer_back P) ask v kids w below) (IsLeft v kids w below) → ListsStill kids below
      inside None further left = lists_kept kids below left.inside
      inside (Some ask) further laid = by_back further (outer_back P v.look (Some ask)) (asks_at P v ask kids (objects P kids)) laid.1

-- ---- the listed nodes, each of which is scrolled otherwise

module _ (old new : Tree RenderObject) (scrolls : Handle → ℕ) (hs : List Handle) (were : (k : Handle) (o : RenderObject) → object_at old k ≡ Some o → scrolls k ≡ o.scroll)
    (otherwise : (k : Handle) (w : RenderObject) → listed k hs ≡ true → object_at new k ≡ Some w → w.scroll ≡ scrolls k → ⊥) where
  one_otherwise : (h k : Handle) (v w : RenderObject) → h ≡ k → object_at old h ≡ Some v → object_at new k ≡ Some w → listed k hs ≡ true → w.scroll ≡ v.scroll → ⊥
  one_otherwise h k v w one at now is still = otherwise k w is now (still ∙ (sym (were h v at) ∙ ap scrolls one))

  none_listed : (p q : Option Handle) (f g : Forest RenderObject) → Stands (node_at old) p f → Stands (node_at new) q g → AreStill (layout_nodes f) (layout_nodes g) → has_listed hs (layout_nodes g) ≡ false
  none_listed p q none none stands stood still = refl
  none_listed p q none (tree k w below rest) stands stood still = absurd still
  none_listed p q (tree h v kids more) none stands stood still = absurd still
  none_listed p q (tree h v kids more) (tree k w below rest) stands stood still = elim (cases_Bool (listed k hs)) [
    | inl is ↦
        absurd
        (one_otherwise h k v w still.0 (ap (option_map (λ (n : TreeNode RenderObject). n.value)) stands.0) (ap (option_map (λ (n : TreeNode RenderObject). n.value)) stood.0) is still.1)
    | inr off ↦
        ap (λ (b : Bool). b || (has_listed hs (layout_nodes below) || has_listed hs (layout_nodes rest))) off
        ∙ (ap (λ (b : Bool). b || has_listed hs (layout_nodes rest)) (none_listed (Some h) (Some k) kids below stands.1 stood.1 still.2) ∙ none_listed p q more rest stands.2 stood.2 still.3)
  ]

  outer_otherwise : (p q : Option Handle) (f g : Forest RenderObject) → Stands (node_at old) p f → Stands (node_at new) q g → ListsStill (layout_nodes f) (layout_nodes g)
      → AreScrolledOtherwise hs (layout_nodes f) (layout_nodes g)
  outer_otherwise p q none none stands stood lists = tt
  outer_otherwise p q none (tree k w below rest) stands stood lists = absurd lists
  outer_otherwise p q (tree h v kids more) none stands stood lists = absurd lists
  outer_otherwise p q (tree h v kids more) (tree k w below rest) stands stood lists = (
    one_otherwise h k v w lists.0 (ap (option_map (λ (n : TreeNode RenderObject). n.value)) stands.0) (ap (option_map (λ (n : TreeNode RenderObject). n.value)) stood.0),
    by_list (outer_otherwise (Some h) (Some k) kids below stands.1 stood.1 lists.2) (is_list (layout_node w).look) refl,
    outer_otherwise p q more rest stands.2 stood.2 lists.3,
  )
    where
      by_list : AreScrolledOtherwise hs (layout_nodes kids) (layout_nodes below) → (b : Bool) → is_list (layout_node w).look ≡ b
          → HeldOr b (has_listed hs (layout_nodes below) ≡ false) (AreScrolledOtherwise hs (layout_nodes kids) (layout_nodes below))
      by_list further true e = none_listed (Some h) (Some k) kids below stands.1 stood.1 (lists.1 e)
      by_list further false e = further

  pub now_otherwise : (s : Setting) (asks : List (Option Ask)) (f g : Forest RenderObject) → Stands (node_at old) None f → Stands (node_at new) None g
      → AreCorrected (parts_of s) (outer_back (parts_of s)) asks (layout_nodes f) (layout_nodes g) → AreScrolledOtherwise hs (layout_nodes f) (layout_nodes g)
  now_otherwise s asks f g stands stood corrected = outer_otherwise None None f g stands stood (lists_still s asks (layout_nodes f) (layout_nodes g) corrected)

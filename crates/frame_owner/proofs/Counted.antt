-- Render nodes have as many children as the elements whose render nodes they are, where each node without one has one child.
use Rattle.std.proofs.Common.{◌≡◌, ℕ, suc, ◌+◌, Bool, true, false, cond, Option, Some, None, option_map, List, [], ◌∷◌, ◌++◌, ◌⊎◌, length, refl, sym, ap, subst, ◌∙◌, inl, inr, arith}
use Rattle.std.specs.Option.{option_to_list}
use Rattle.std.proofs.lemmas.List.{append-nil}
use Rattle.fx_expr.specs.declared.values.Value.{Value}
use Rattle.fx_handles.specs.declared.Handle.{Handle}
use Rattle.fx_handles.specs.Handle.{AreDistinct}
use Rattle.node_tree.specs.Forest.{TreeNode, Forest, tops, In, IsDistinct, Stands}
use Rattle.node_tree.specs.Forest.Forest.{none, tree}
use Rattle.node_tree.specs.Tree.{Tree, node_at, children_of, children_at}
use Rattle.node_tree.proofs.ForestLemmas.{same_Some, times-le-count}
use Rattle.widget_model.specs.Plain.{PlainWidget, look_of}
use Rattle.widget_model.specs.Plain.{children_of as child_widgets}
use Rattle.plain_tree.specs.declared.render.ParentData.{ParentData}
use Rattle.plain_tree.specs.declared.role.RenderRole.{RenderRole}
use Rattle.plain_tree.specs.declared.role.RenderRole.TheVariants.{Plain}
use Rattle.plain_tree.specs.Laws.{IsOne, OneWhere, VanishAlone, AllVanishAlone}
use Rattle.plain_tree.specs.PlainNode.{PlainNode, node, PlainNodes, no_nodes, more_nodes, list_of, nodes_of as listed}
use Rattle.plain_tree.specs.Projection.{projected, projected_all, told_at, told_by, scroll_in}
use Rattle.plain_tree.specs.Render.{Render, render, Renders, no_renders, more_renders, renders_of as renders_listed, lazy_count}
use Rattle.plain_tree.specs.RenderRole.{render_role_of, vanishes}
use Rattle.element_tree.specs.Element.{Element, element_at}
use Rattle.element_tree.specs.Nodes.{nodes_of}
use Rattle.render_tree.specs.Object.{RenderObject}
use Rattle.render_tree.specs.Plain.{renders_of}
use Rattle.render_tree.specs.Tree.{object_at}
use Rattle.build_walk.specs.Standing.{RendersStandFor}
use Rattle.kept_builds.specs.Standing.{NumbersOnce}
use Rattle.frame_owner.proofs.Looks.{head_is, none_is, more_is, in_parts}
use Rattle.frame_owner.proofs.Windows.{ElementNode}

-- how many render nodes there are
abbrev pub many : Renders → ℕ
many no_renders = 0
many (more_renders r rs) = suc (many rs)

-- ---- a node with a number and so many children stands in a tree

abbrev mutual
  pub NodeCounts : ℕ → ℕ → PlainNode → Type 0
  NodeCounts w m (node number widget fields scroll index children) = ((number ≡ w) × (length (list_of children) ≡ m)) ⊎ NodesCount w m children

  pub NodesCount : ℕ → ℕ → PlainNodes → Type 0
  NodesCount w m no_nodes = ⊥
  NodesCount w m (more_nodes n ns) = NodeCounts w m n ⊎ NodesCount w m ns

abbrev mutual
  pub RenderCounts : ℕ → ℕ → Render → Type 0
  RenderCounts w m (render number look told scroll count children) = ((number ≡ w) × (many children ≡ m)) ⊎ RendersCount w m children

  pub RendersCount : ℕ → ℕ → Renders → Type 0
  RendersCount w m no_renders = ⊥
  RendersCount w m (more_renders r rs) = RenderCounts w m r ⊎ RendersCount w m rs

-- ---- each node gives one render node

one_where : (v : Bool) (children : PlainNodes) (xs : List Render) (x : Render) → OneWhere v children → (IsOne children → length xs ≡ 1) → length (cond v xs (x ∷ [])) ≡ 1
one_where true children xs x one step = step one
one_where false children xs x one step = refl

mutual
  one_each : (above : RenderRole) (told : Option ParentData) (n : PlainNode) → VanishAlone n → length (projected above told n) ≡ 1
  one_each above told (node number widget fields scroll index children) alone =
      ap (λ (rs : List Render). length rs) (head_is above told number widget fields scroll index children)
      ∙ one_where (vanishes (render_role_of (look_of widget))) children _ _ alone.0 (λ one. one_below above (Some (told_by above (render_role_of (look_of widget)) (told_at above told index))) children one alone.1)

  one_below : (above : RenderRole) (told : Option ParentData) (ns : PlainNodes) → IsOne ns → AllVanishAlone ns → length (projected_all above told ns) ≡ 1
  one_below above told no_nodes one alone = absurd one
  one_below above told (more_nodes n no_nodes) one alone =
      ap (λ (rs : List Render). length rs) (more_is above told n no_nodes ∙ ap (λ (ys : List Render). projected above told n ++ ys) (none_is above told) ∙ append-nil (projected above told n)) ∙ one_each above told n alone.0
  one_below above told (more_nodes n (more_nodes m ns)) one alone = absurd one

many_both : (xs ys : List Render) → many (renders_listed (xs ++ ys)) ≡ length xs + many (renders_listed ys)
many_both [] ys = omega arith
many_both (x ∷ xs) ys = let more = many_both xs ys in omega (arith, more)

as_many : (above : RenderRole) (told : Option ParentData) (ns : PlainNodes) → AllVanishAlone ns → many (renders_listed (projected_all above told ns)) ≡ length (list_of ns)
as_many above told no_nodes alone = ap (λ rs. many (renders_listed rs)) (none_is above told)
as_many above told (more_nodes n ns) alone =
    let parts = ap (λ rs. many (renders_listed rs)) (more_is above told n ns) ∙ many_both (projected above told n) (projected_all above told ns) in
    let one = one_each above told n alone.0 in
    let more = as_many above told ns alone.1 in
    parts ∙ counted_more (length (projected above told n)) (many (renders_listed (projected_all above told ns))) (length (list_of ns)) one more
  where
    counted_more : (a b k : ℕ) → a ≡ 1 → b ≡ k → a + b ≡ suc k
    counted_more a b k one more = omega (arith, one, more)

-- ---- it is among the render nodes only where it is among the nodes

in_either : (w m : ℕ) (xs ys : List Render) → RendersCount w m (renders_listed (xs ++ ys)) → RendersCount w m (renders_listed xs) ⊎ RendersCount w m (renders_listed ys)
in_either w m [] ys h = inr h
in_either w m (x ∷ xs) ys (inl h) = inl (inl h)
in_either w m (x ∷ xs) ys (inr h) = elim (in_either w m xs ys h) [
  | inl first ↦ inl (inr first)
  | inr later ↦ inr later
]

in_cond : (w m : ℕ) (v : Bool) (xs ys : List Render) → RendersCount w m (renders_listed (cond v xs ys)) → RendersCount w m (renders_listed xs) ⊎ RendersCount w m (renders_listed ys)
in_cond w m true xs ys h = inl h
in_cond w m false xs ys h = inr h

from_own : (w m number : ℕ) (widget : PlainWidget) (fields : List Value) (scroll index : ℕ) (children : PlainNodes) (told : ParentData) (at count : ℕ) (below : Renders)
    → RendersCount w m (more_renders (render number (look_of widget) told at count below) no_renders) → many below ≡ length (list_of children) → (RendersCount w m below → NodesCount w m children)
    → NodeCounts w m (node number widget fields scroll index children)
from_own w m number widget fields scroll index children told at count below (inl (inl here)) same f = inl (here.0, sym same ∙ here.1)
from_own w m number widget fields scroll index children told at count below (inl (inr inner)) same f = inr (f inner)
from_own w m number widget fields scroll index children told at count below (inr none_more) same f = absurd none_more

mutual
  from_one : (w m : ℕ) (above : RenderRole) (told : Option ParentData) (n : PlainNode) → VanishAlone n → RendersCount w m (renders_listed (projected above told n)) → NodeCounts w m n
  from_one w m above told (node number widget fields scroll index children) alone h =
      let role = render_role_of (look_of widget) in
      elim (in_cond w m (vanishes role) _ _ (subst (λ rs. RendersCount w m (renders_listed rs)) (head_is above told number widget fields scroll index children) h)) [
        | inl through ↦ inr (from_all w m above (Some (told_by above role (told_at above told index))) children alone.1 through)
        | inr own ↦
            from_own w m number widget fields scroll index children (told_at above told index) (scroll_in role scroll) (lazy_count role (child_widgets widget)) (renders_listed (projected_all role None children)) own
            (as_many role None children alone.1) (λ below. from_all w m role None children alone.1 below)
      ]

  from_all : (w m : ℕ) (above : RenderRole) (told : Option ParentData) (ns : PlainNodes) → AllVanishAlone ns → RendersCount w m (renders_listed (projected_all above told ns)) → NodesCount w m ns
  from_all w m above told no_nodes alone h = absurd (subst (λ rs. RendersCount w m (renders_listed rs)) (none_is above told) h)
  from_all w m above told (more_nodes n ns) alone h =
      elim (in_either w m (projected above told n) (projected_all above told ns) (subst (λ rs. RendersCount w m (renders_listed rs)) (more_is above told n ns) h)) [
        | inl first ↦ inl (from_one w m above told n alone.0 first)
        | inr later ↦ inr (from_all w m above told ns alone.1 later)
      ]

-- ---- what stands in a forest of render nodes

tops_many : (f : Forest RenderObject) → many (renders_of f) ≡ length (tops f)
tops_many none = refl
tops_many (tree h o kids rest) = ap (λ n. suc n) (tops_many rest)

module _ (r : Tree RenderObject) where
  children_here : (p : Option Handle) (h : Handle) (o : RenderObject) (kids rest : Forest RenderObject) → Stands (node_at r) p (tree h o kids rest) → children_at r h ≡ tops kids
  children_here p h o kids rest stands = ap (λ (n : Option (TreeNode RenderObject)). children_of n) stands.0

  object_counts : (p : Option Handle) (f : Forest RenderObject) → Stands (node_at r) p f → (k : Handle) → In k f → (o : RenderObject) → object_at r k ≡ Some o → RendersCount o.number (length (children_at r k)) (renders_of f)
  object_counts p none stands k among o at = absurd (omega (arith, among))
  object_counts p (tree h v kids rest) stands k among o at =
      in_parts k h v kids rest (RendersCount o.number (length (children_at r k)) (renders_of (tree h v kids rest))) among
      (λ here.
      let value : v ≡ o = same_Some (sym (ap (option_map (λ (n : TreeNode RenderObject). n.value)) stands.0) ∙ (ap (object_at r) here ∙ at)) in
      inl (inl (ap (λ (x : RenderObject). x.number) value, tops_many kids ∙ ap (λ hs. length hs) (sym (children_here p h v kids rest stands)) ∙ ap (λ x. length (children_at r x)) here)))
      (λ inner. inl (inr (object_counts (Some h) kids stands.1 k inner o at)))
      (λ later. inr (object_counts p rest stands.2 k later o at))

  -- the children of a node differ
  pub children_differ : (p : Option Handle) (f : Forest RenderObject) → Stands (node_at r) p f → IsDistinct f → (k : Handle) → In k f → AreDistinct (children_at r k)
  children_differ p none stands distinct k among = absurd (omega (arith, among))
  children_differ p (tree h v kids rest) stands distinct k among =
      in_parts k h v kids rest (AreDistinct (children_at r k)) among
      (λ here. subst (λ x. AreDistinct (children_at r x)) here (subst AreDistinct (sym (children_here p h v kids rest stands)) (λ x. let few = distinct x in let fewer = times-le-count x kids in omega (arith, few, fewer))))
      (λ inner. children_differ (Some h) kids stands.1 (λ x. let few = distinct x in omega (arith, few)) k inner)
      (λ later. children_differ p rest stands.2 (λ x. let few = distinct x in omega (arith, few)) k later)

-- ---- and of elements

module _ (t : Tree Element) (scrolled : ℕ → ℕ) (once : NumbersOnce t) where
  tops_listed : (f : Forest Element) → length (list_of (listed (nodes_of scrolled f))) ≡ length (tops f)
  tops_listed none = refl
  tops_listed (tree h v kids rest) = ap (λ n. suc n) (tops_listed rest)

  element_counts : (w m : ℕ) (p : Option Handle) (f : Forest Element) → Stands (node_at t) p f → NodesCount w m (listed (nodes_of scrolled f)) → (k : Handle) (e : Element) → element_at t k ≡ Some e → e.number ≡ w
      → length (children_at t k) ≡ m
  element_counts w m p none stands there k e at is = absurd there
  element_counts w m p (tree h v kids rest) stands (inl (inl here)) k e at is =
      let own : element_at t h ≡ Some v = ap (option_map (λ (n : TreeNode Element). n.value)) stands.0 in
      let same : h ≡ k = once w h k (ap (option_map (λ (x : Element). x.number)) own ∙ ap (λ n. Some n) here.0) (ap (option_map (λ (x : Element). x.number)) at ∙ ap (λ n. Some n) is) in
      ap (λ x. length (children_at t x)) (sym same) ∙ ap (λ (n : Option (TreeNode Element)). length (children_of n)) stands.0 ∙ sym (tops_listed kids) ∙ here.1
  element_counts w m p (tree h v kids rest) stands (inl (inr inner)) k e at is = element_counts w m (Some h) kids stands.1 inner k e at is
  element_counts w m p (tree h v kids rest) stands (inr later) k e at is = element_counts w m p rest stands.2 later k e at is

  -- the render node of an element has as many children as it
  pub children_many : (r : Tree RenderObject) (old : Option PlainNode) (f : Forest Element) → Stands (node_at t) None f → option_to_list old ≡ nodes_of scrolled f → AllVanishAlone (listed (option_to_list old)) → (s : RendersStandFor old scrolled f r)
      → (k : Handle) (e : Element) → element_at t k ≡ Some e → (d : ElementNode r e) → In d.handle s.objects → length (children_at t k) ≡ length (children_at r d.handle)
  children_many r old f stands nodes alone s k e at d among =
      let counts = subst (RendersCount d.object.number (length (children_at r d.handle))) s.projected (object_counts r None s.objects s.is.stands d.handle among d.object d.there) in
      let inside = from_all d.object.number (length (children_at r d.handle)) Plain None (listed (option_to_list old)) alone counts in
      element_counts d.object.number (length (children_at r d.handle)) None f stands (subst (λ ns. NodesCount d.object.number (length (children_at r d.handle)) (listed ns)) nodes inside) k e at (sym d.number_is)

-- What an outer layout leaves of what is kept, of the nodes beside the root's tree too.
use Rattle.std.proofs.Common.{◌≡◌, Bool, true, false, cond, Option, Some, None, option_map, List, [], ◌∷◌, ◌++◌, refl, ap, sym, ◌∙◌, subst, arith}
use Rattle.std.proofs.lemmas.Bool.{or_parts}
use Rattle.std.specs.Option.{option_to_list}
use Rattle.fx_geom.specs.declared.shapes.Size.{Size}
use Rattle.fx_handles.specs.declared.Handle.{Handle}
use Rattle.fx_handles.specs.Handle.{same, times}
use Rattle.fx_handles.specs.HandleLaws.{same_self, times_there}
use Rattle.delegates.specs.Table.{Plug}
use Rattle.node_tree.specs.Forest.{TreeNode, Forest, tops, In, Stands, or_else, tree_of, map_values}
use Rattle.node_tree.specs.Forest.Forest.{none, tree}
use Rattle.node_tree.specs.Tree.{Tree, Is, IsTree, node_at, parent_of, tops_at}
use Rattle.node_tree.proofs.Children.{mapped_is}
use Rattle.node_tree.proofs.ForestLemmas.{same_Some, count_here}
use Rattle.node_tree.proofs.TreeLemmas.{parent_lists, subtree_is-tree_of}
use Rattle.tree_marks.specs.Marking.{at_top}
use Rattle.tree_marks.specs.Marks.{listed, sweep}
use Rattle.layout_form.specs.Object.{Setting}
use Rattle.layout_walk.specs.Here.{HereAll}
use Rattle.layout_walk.specs.Node.{LayoutNode}
use Rattle.layout_walk.specs.Rules.{parts_of}
use Rattle.layout_rules.specs.Nodes.{layout_node, layout_nodes, seen_node, seen_at}
use Rattle.layout_rules.specs.Painting.{PaintedOwn, PaintedPlace, own_in, place_in, PaintsAnew}
use Rattle.layout_rules.specs.Reads.{state_or, state_at}
use Rattle.layout_owner.specs.Outer.{PaintsThenRanges}
use Rattle.layout_owner.specs.Ranges.{without_live}
use Rattle.render_tree.specs.LayoutState.{layout_state_of, with_layout_state}
use Rattle.render_tree.specs.Marks.{paint_marks}
use Rattle.render_tree.specs.Object.{RenderObject, object_look}
use Rattle.render_tree.specs.Plain.{frame_or, offset_or, root_below, root_tree}
use Rattle.render_tree.specs.Tree.{object_at}
use Rattle.render_tree.specs.declared.layout_state.LayoutState.{LayoutState}
use Rattle.kept_layers.specs.Group.{is_boundary}
use Rattle.kept_layers.specs.Repainted.{KeepsPaint, CarriesPaint}
use Rattle.kept_layers.specs.Unmarked.{placed_of, drawn_of}
use Rattle.kept_layouts.specs.Here.{KeepsLayouts}
use Rattle.paint_owner.specs.PaintOwner.{PaintOwner}
use Rattle.kept_phases.specs.Layers.{KeepsLayers}
use Rattle.kept_phases.proofs.Layouts.{keeps_one}
use Rattle.kept_phases.proofs.Unread.{paint_part, unread_kept}
use Rattle.kept_phases.proofs.Whole.{ListsAll, listed_kept}

-- ---- layers

-- a node that isn't listed isn't counted in the list
uncounted : (k : Handle) (hs : List Handle) → listed k hs ≡ false → times k hs ≡ 0
uncounted k [] off = refl
uncounted k (h ∷ hs) off =
    let two = or_parts (same k h) (listed k hs) off in
    times_there k h hs (λ e. true_false (sym (same_self k) ∙ (ap (same k) (sym e) ∙ two.0))) ∙ uncounted k hs two.1
  where
    true_false : true ≡ false → ⊥
    true_false e = cc

-- what was laid out, as it is stored
abbrev now : LayoutState → TreeNode RenderObject → TreeNode RenderObject
now u n = record n { value = with_layout_state u n.value }

module _ (cell : Size) (delegates : List Plug) (old new : Tree RenderObject) (is : IsTree old) (p : PaintsAnew old new) where
  -- the state of a node that is stored
  state_is : (t : Tree RenderObject) (k : Handle) (o : RenderObject) → object_at t k ≡ Some o → state_at t k ≡ layout_state_of o
  state_is t k o at = ap state_or at

  own_same : (k : Handle) (was : TreeNode RenderObject) → node_at old k ≡ Some was → listed k p.changed ≡ false → own_in (state_at p.laid k) ≡ own_in (layout_state_of was.value)
  own_same k was at off =
      (p.repaints.same k (uncounted k p.changed off)).own ∙ ap own_in (state_is old k was.value (ap (option_map (λ (n : TreeNode RenderObject). n.value)) at))

  drawn_same : (k : Handle) (was : TreeNode RenderObject) → node_at old k ≡ Some was → listed k p.changed ≡ false → drawn_of (with_layout_state (state_at p.laid k) was.value) ≡ drawn_of was.value
  drawn_same k was at off = ap (λ (x : PaintedOwn). record { look = object_look was.value; frame = frame_or x.frame }) (own_same k was at off)

  placed_same : (k : Handle) (was : TreeNode RenderObject) → node_at old k ≡ Some was → (q : Handle) → was.parent ≡ Some q → listed q p.changed ≡ false
      → placed_of (with_layout_state (state_at p.laid k) was.value) ≡ placed_of was.value
  placed_same k was at q parent off =
      let above = parent_lists old is.0 k q is.1 (ap parent_of at ∙ parent) in
      ap (λ (x : PaintedPlace). record { offset = offset_or x.offset; shown = x.shown; apart = is_boundary was.value })
      ((p.repaints.same q (uncounted q p.changed off)).places k above.1 ∙ ap place_in (state_is old k was.value (ap (option_map (λ (n : TreeNode RenderObject). n.value)) at)))

  carried : (k : Handle) (n : TreeNode RenderObject) → node_at p.laid k ≡ Some n → CarriesPaint cell delegates delegates true p.changed k (node_at old k) n
  carried k n there = by_node (node_at old k) refl (sym (p.rest.nodes k) ∙ there)
    where
      keeps : (was : TreeNode RenderObject) → node_at old k ≡ Some was → KeepsPaint cell delegates delegates true p.changed k was (now (state_at p.laid k) was)
      keeps was at = record {
        flag = refl;
        mark = refl;
        drawn = drawn_same k was at;
        draws = λ off q. refl;
        placed = λ q parent off. placed_same k was at q parent off;
        children = λ off. refl;
      }

      by_node : (x : Option (TreeNode RenderObject)) → node_at old k ≡ x → option_map (now (state_at p.laid k)) x ≡ Some n → CarriesPaint cell delegates delegates true p.changed k x n
      by_node None e is_n = absurd (cc)
      by_node (Some was) e is_n = subst (KeepsPaint cell delegates delegates true p.changed k was) (same_Some is_n) (keeps was e)

  laid_tree : IsTree p.laid
  laid_tree =
      let tops_same : tops_at p.laid ≡ tops_at old = λ i. option_to_list (p.rest.root i) ++ p.rest.inactive i in
      (map_values (λ k o. with_layout_state (state_at p.laid k) o) is.0, mapped_is (λ k o. with_layout_state (state_at p.laid k) o) old p.laid is.0 is.1 p.rest.nodes tops_same)

  lists : ListsAll cell delegates delegates true p.changed old p.laid
  lists = record { nodes = carried; root = λ r at off. sym p.rest.root ∙ at }

  pub laid_layers : (o : PaintOwner) → KeepsLayers cell delegates o old → KeepsLayers cell delegates o new
  laid_layers o kept = listed_kept cell delegates delegates o true p.changed old p.laid new is laid_tree lists p.marks kept

  pub laid_is : IsTree new
  laid_is = (sweep paint_marks true p.changed at_top laid_tree.0, p.marks.plain laid_tree.0 laid_tree.1)

-- live ranges are nothing that painting reads
ranged_part : (a b : Option (TreeNode RenderObject)) → option_map without_live a ≡ option_map without_live b → option_map paint_part a ≡ option_map paint_part b
ranged_part None None e = refl
ranged_part None (Some n) e = absurd cc
ranged_part (Some m) None e = absurd cc
ranged_part (Some m) (Some n) e = ap (λ (x : TreeNode RenderObject). Some (paint_part x)) (same_Some e)

pub outer_layers : (cell : Size) (delegates : List Plug) (o : PaintOwner) (old new : Tree RenderObject) → IsTree old → IsTree new → PaintsThenRanges old new → KeepsLayers cell delegates o old → KeepsLayers cell delegates o new
outer_layers cell delegates o old new is_old is_new p kept =
    unread_kept cell delegates p.laid new (λ k. ranged_part (node_at new k) (node_at p.laid k) (p.ranges.nodes k)) o (laid_is cell delegates old p.laid is_old p.paints) is_new p.ranges.root
    (laid_layers cell delegates old p.laid is_old p.paints o kept)

-- ---- layouts

seen_some : (at : Option (TreeNode RenderObject)) (n : TreeNode RenderObject) → at ≡ Some n → option_map seen_node at ≡ Some (seen_node n)
seen_some at n e = ap (option_map seen_node) e

cons_head : (h k : Handle) (hs ks : List Handle) → h ∷ hs ≡ k ∷ ks → h ≡ k
cons_head h k hs ks e = cc

cons_tail : (h k : Handle) (hs ks : List Handle) → h ∷ hs ≡ k ∷ ks → hs ≡ ks
cons_tail h k hs ks e = cc

cons_none : (h : Handle) (hs : List Handle) → h ∷ hs ≡ [] → ⊥
cons_none h hs e = cc

module _ (old new : Tree RenderObject) where
  -- forests with the same tops, whose nodes a layout sees alike, are alike to it
  same_seen : (p q : Option Handle) (f g : Forest RenderObject) → Stands (node_at new) p f → Stands (node_at old) q g → tops f ≡ tops g
      → ((k : Handle) → In k g → seen_at new k ≡ seen_at old k) → layout_nodes f ≡ layout_nodes g
  same_seen p q none none stood stands same_tops seen = refl
  same_seen p q none (tree k w below rest) stood stands same_tops seen = absurd (cons_none k (tops rest) (sym same_tops))
  same_seen p q (tree h v kids more) none stood stands same_tops seen = absurd (cons_none h (tops more) same_tops)
  same_seen p q (tree h v kids more) (tree k w below rest) stood stands same_tops seen =
      let e = cons_head h k (tops more) (tops rest) same_tops in
      let one : Some (seen_node (record { parent = p; children = tops kids; value = v })) ≡ Some (seen_node (record { parent = q; children = tops below; value = w })) =
      sym (seen_some (node_at new h) _ stood.0) ∙ (ap (seen_at new) e ∙ (seen k (count_here k w below rest) ∙ seen_some (node_at old k) _ stands.0)) in
      let value : layout_node v ≡ layout_node w = ap (λ (n : TreeNode LayoutNode). n.value) (same_Some one) in
      let children : tops kids ≡ tops below = ap (λ (n : TreeNode LayoutNode). n.children) (same_Some one) in
      λ i. tree (e i) (value i) (same_seen (Some h) (Some k) kids below stood.1 stands.1 children (λ j is. seen j (in_below j k w below rest is)) i)
      (same_seen p q more rest stood.2 stands.2 (cons_tail h k (tops more) (tops rest) same_tops) (λ j is. seen j (in_rest j k w below rest is)) i)
    where
      in_below : (j k : Handle) (w : RenderObject) (below rest : Forest RenderObject) → In j below → In j (tree k w below rest)
      in_below j k w below rest is = omega (arith, is)

      in_rest : (j k : Handle) (w : RenderObject) (below rest : Forest RenderObject) → In j rest → In j (tree k w below rest)
      in_rest j k w below rest is = omega (arith, is)

  -- the first tree of a forest is the root's
  first_tree : (t : Tree RenderObject) (r h : Handle) (v : RenderObject) (kids rest : Forest RenderObject) → t.root ≡ Some r → h ≡ r → Is t (tree h v kids rest) → root_tree t ≡ tree h v kids none
  first_tree t r h v kids rest at e is =
      ap (root_below t) (at ∙ ap (λ x. Some x) (sym e))
      ∙ (subtree_is-tree_of t (tree h v kids rest) h is (count_here h v kids rest) ∙ ap (λ (b : Bool). cond b (tree h v kids none) (or_else (tree_of h kids) (tree_of h rest))) (same_self h))

  module _ (s : Setting) (r : Handle) (at_old : old.root ≡ Some r) (root : new.root ≡ old.root) (inactive : new.inactive ≡ old.inactive)
      (others : (k : Handle) → (In k (root_tree old) → ⊥) → seen_at new k ≡ seen_at old k) where
    tops_old : tops_at old ≡ r ∷ old.inactive
    tops_old = ap (λ (o : Option Handle). option_to_list o ++ old.inactive) at_old

    tops_new : tops_at new ≡ r ∷ old.inactive
    tops_new = (λ i. option_to_list (root i) ++ inactive i) ∙ tops_old

    all_here : (f g : Forest RenderObject) → Is new f → Is old g → HereAll (parts_of s) (layout_nodes (root_tree new)) → HereAll (parts_of s) (layout_nodes g) → HereAll (parts_of s) (layout_nodes f)
    all_here none g is_new is_old here was = tt
    all_here (tree h v kids more) none is_new is_old here was = absurd (cons_none r old.inactive (sym tops_old ∙ is_old.tops))
    all_here (tree h v kids more) (tree k w below rest) is_new is_old here was =
        let first : h ≡ r = cons_head h r (tops more) old.inactive (sym is_new.tops ∙ tops_new) in
        let first_old : k ≡ r = cons_head k r (tops rest) old.inactive (sym is_old.tops ∙ tops_old) in
        let same_tops : tops more ≡ tops rest =
        cons_tail h r (tops more) old.inactive (sym is_new.tops ∙ tops_new) ∙ sym (cons_tail k r (tops rest) old.inactive (sym is_old.tops ∙ tops_old)) in
        let own : HereAll (parts_of s) (layout_nodes (tree h v kids none)) =
        subst (λ x. HereAll (parts_of s) (layout_nodes x)) (first_tree new r h v kids more (root ∙ at_old) first is_new) here in
        let out : (j : Handle) → In j rest → In j (root_tree old) → ⊥ = λ j is inside.
        let there : In j (tree k w below none) = subst (In j) (first_tree old r k w below rest at_old first_old is_old) inside in
        let once = is_old.distinct j in
        omega (arith, is, there, once) in
        (own.0, own.1, subst (HereAll (parts_of s)) (sym (same_seen None None more rest is_new.stands.2 is_old.stands.2 same_tops (λ j is. others j (out j is)))) was.2)

    pub beside_layouts : IsTree old → IsTree new → HereAll (parts_of s) (layout_nodes (root_tree new)) → KeepsLayouts s old → KeepsLayouts s new
    beside_layouts is_old is_new here keeps =
        keeps_one s new is_new.0 is_new.1 (all_here is_new.0 is_old.0 is_new.1 is_old.1 here (keeps is_old.0 is_old.1))

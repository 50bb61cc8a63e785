-- Once the lazy lists of a first phase are laid out and Viewports put back, each node that wasn't claimed is as it was in the last frame.
use Rattle.std.proofs.Common.{◌≡◌, ◌≢◌, ◌⊎◌, ℕ, zero, suc, Bool, true, false, cond, ◌||◌, ◌&&◌, Option, Some, None, option_map, List, ◌∷◌, inl, inr, refl, sym, ap, ◌∙◌, arith}
use Rattle.fx_geom.specs.declared.shapes.Size.{Size}
use Rattle.fx_handles.specs.declared.Handle.{Handle}
use Rattle.fx_handles.specs.Handle.{same}
use Rattle.fx_handles.specs.HandleLaws.{cases_same, same-ne}
use Rattle.fx_handles.specs.ArenaLaws.{same_Some}
use Rattle.node_tree.specs.Forest.{TreeNode, Forest, tops, count, In, Stands}
use Rattle.node_tree.specs.Forest.Forest.{none, tree}
use Rattle.node_tree.specs.Tree.{Tree, node_at}
use Rattle.node_tree.proofs.TreeLemmas.{is_node}
use Rattle.tree_marks.specs.Marking.{Marking, Above, at_top, within}
use Rattle.tree_marks.specs.Marks.{listed, has_listed, some_climbs, sweep}
use Rattle.layout_form.specs.Object.{Setting}
use Rattle.layout_walk.specs.Node.{LayoutNode}
use Rattle.layout_walk.specs.Rules.{is_list}
use Rattle.layout_rules.specs.Nodes.{layout_nodes, seen_node}
use Rattle.layout_rules.specs.Reads.{state_at}
use Rattle.layout_owner.specs.Ranges.{without_live}
use Rattle.render_tree.specs.LayoutState.{with_layout_state}
use Rattle.render_tree.specs.Marks.{layout_marks, paint_marks}
use Rattle.render_tree.specs.Object.{RenderObject, object_look}
use Rattle.render_tree.specs.Plain.{root_tree}
use Rattle.render_tree.specs.Tree.{object_at}
use Rattle.kept_phases.specs.Lists.{scrolled_as, StaysBuilt, FlushesLists}
use Rattle.counted_phases.specs.Outer.{ListOr}
use Rattle.counted_frames.proofs.Planned.{no_some, some_is}
use Rattle.counted_frames.proofs.Outer.{HasOuter}
use Rattle.counted_frames.proofs.Laid.{AreAlike, ListsAlike}

-- ---- marks leave the nodes that there are

pub swept_count : (m : Marking RenderObject) (also : Bool) (hs : List Handle) (k : Handle) (p : Above) (f : Forest RenderObject) → count k (sweep m also hs p f) ≡ count k f
swept_count m also hs k p none = refl
swept_count m also hs k p (tree h o kids rest) =
    let inner = swept_count m also hs k (within m p o) kids in
    let later = swept_count m also hs k p rest in
    omega (arith, inner, later)

value_of : (t : Tree RenderObject) (k : Handle) (n : TreeNode RenderObject) → node_at t k ≡ Some n → object_at t k ≡ Some n.value
value_of t k n e = ap (option_map (λ (m : TreeNode RenderObject). m.value)) e

-- ---- what is put back and marked

module _ (flushed ranged : Tree RenderObject) (corrected : List Handle) (scrolls : Handle → ℕ) where
  abbrev put : Above → Forest RenderObject → Forest RenderObject
  put c f = scrolled_as scrolls (sweep layout_marks true corrected c f)

  put_tops : (c : Above) (f : Forest RenderObject) → tops (put c f) ≡ tops f
  put_tops c none = refl
  put_tops c (tree h o kids rest) = ap (λ l. h ∷ l) (put_tops c rest)

  pub record IsPutSo (k : Handle) (n : TreeNode RenderObject) : Type 0 where
    pub node : TreeNode RenderObject
    pub at : node_at ranged k ≡ Some node
    pub children : node.children ≡ n.children
    pub told : node.value.parent_data ≡ n.value.parent_data
    pub frame : node.value.frame ≡ n.value.frame

  pub put_node : (k : Handle) (n : TreeNode RenderObject) → node_at flushed k ≡ Some n → (c : Above) (q r : Option Handle) (f : Forest RenderObject) → Stands (node_at flushed) q f → Stands (node_at ranged) r (put c f) → In k f → IsPutSo k n
  put_node k n at c q r none stands stood i = absurd (omega (arith, i))
  put_node k n at c q r (tree h o kids rest) stands stood i =
      by_here (cases_same h k) (λ m. put_node k n at (within layout_marks c o) (Some h) (Some h) kids stands.1 stood.1 m) (λ m. put_node k n at c q r rest stands.2 stood.2 m)
    where
      marked : RenderObject
      marked = record (layout_marks.marked ((listed h corrected || some_climbs layout_marks corrected (within layout_marks c o) kids) && true) (has_listed corrected kids || (true && listed h corrected)) o) { scroll = scrolls h }

      here_is : h ≡ k → IsPutSo k n
      here_is e =
          let same_node : record { parent = q; children = tops kids; value = o } ≡ n = same_Some (sym stands.0 ∙ (ap (node_at flushed) e ∙ at)) in
          record {
            node = record { parent = r; children = tops (put (within layout_marks c o) kids); value = marked };
            at = sym (ap (node_at ranged) e) ∙ stood.0;
            children = put_tops (within layout_marks c o) kids ∙ ap (λ (m : TreeNode RenderObject). m.children) same_node;
            told = ap (λ (m : TreeNode RenderObject). m.value.parent_data) same_node;
            frame = ap (λ (m : TreeNode RenderObject). m.value.frame) same_node;
          }

      by_count : (m : ℕ) → count k kids ≡ m → cond {A = ℕ} (same h k) 1 0 ≡ 0 → (In k kids → IsPutSo k n) → (In k rest → IsPutSo k n) → IsPutSo k n
      by_count zero e off inner later = later (omega (arith, i, e, off))
      by_count (suc m) e off inner later = inner (omega (arith, e))

      by_here : (h ≡ k) ⊎ (h ≢ k) → (In k kids → IsPutSo k n) → (In k rest → IsPutSo k n) → IsPutSo k n
      by_here (inl e) inner later = here_is e
      by_here (inr ne) inner later = by_count (count k kids) refl (ap (λ b. cond {A = ℕ} b 1 0) (same-ne h k ne)) inner later

-- ---- what a flush leaves of items

module _ (mid flushed : Tree RenderObject) (k : Handle) (o w : RenderObject) (at_o : object_at mid k ≡ Some o) (at_w : object_at flushed k ≡ Some w) where
  alike_frame : (q r : Option Handle) (f g : Forest RenderObject) → Stands (node_at mid) q f → Stands (node_at flushed) r g → AreAlike (layout_nodes f) (layout_nodes g) → In k f → w.frame ≡ o.frame
  alike_frame q r none g stands stood alike i = absurd (omega (arith, i))
  alike_frame q r (tree h v kids more) none stands stood alike i = absurd alike
  alike_frame q r (tree h v kids more) (tree j x under rest) stands stood alike i =
      by_here (cases_same h k) (λ m. alike_frame (Some h) (Some j) kids under stands.1 stood.1 alike.5 m) (λ m. alike_frame q r more rest stands.2 stood.2 alike.6 m)
    where
      here_is : h ≡ k → w.frame ≡ o.frame
      here_is e =
          let a : v ≡ o = some_is v o (sym (value_of mid h _ stands.0) ∙ (ap (object_at mid) e ∙ at_o)) in
          let b : x ≡ w = some_is x w (sym (value_of flushed j _ stood.0) ∙ (ap (object_at flushed) (sym alike.0 ∙ e) ∙ at_w)) in
          ap (λ (y : RenderObject). y.frame) (sym b) ∙ (alike.3 ∙ ap (λ (y : RenderObject). y.frame) a)

      by_count : (m : ℕ) → count k kids ≡ m → cond {A = ℕ} (same h k) 1 0 ≡ 0 → (In k kids → w.frame ≡ o.frame) → (In k more → w.frame ≡ o.frame) → w.frame ≡ o.frame
      by_count zero e off inner later = later (omega (arith, i, e, off))
      by_count (suc m) e off inner later = inner (omega (arith, e))

      by_here : (h ≡ k) ⊎ (h ≢ k) → (In k kids → w.frame ≡ o.frame) → (In k more → w.frame ≡ o.frame) → w.frame ≡ o.frame
      by_here (inl e) inner later = here_is e
      by_here (inr ne) inner later = by_count (count k kids) refl (ap (λ b. cond {A = ℕ} b 1 0) (same-ne h k ne)) inner later

  module _ (hs repainted : List Handle) where
    abbrev both : Above → Above → Forest RenderObject → Forest RenderObject
    both a b f = sweep paint_marks true repainted b (sweep layout_marks true hs a f)

    both_in : (a b : Above) (f : Forest RenderObject) → In k f → In k (both a b f)
    both_in a b f i =
        let x = swept_count paint_marks true repainted k b (sweep layout_marks true hs a f) in
        let y = swept_count layout_marks true hs k a f in
        omega (arith, i, x, y)

    pub item_frame : (a b : Above) (q r : Option Handle) (n g : Forest RenderObject) → Stands (node_at mid) q (both a b n) → Stands (node_at flushed) r g → ListsAlike (layout_nodes (both a b n)) (layout_nodes g)
        → In k n → (HasOuter k n → ⊥) → w.frame ≡ o.frame
    item_frame a b q r none g stands stood alike i outer = absurd (omega (arith, i))
    item_frame a b q r (tree h v kids more) none stands stood alike i outer = absurd alike
    item_frame a b q r (tree h v kids more) (tree j x under rest) stands stood alike i outer =
        by_here (cases_same h k)
        (λ s m n. item_frame (within layout_marks a v) (within paint_marks b marked_v) (Some h) (Some j) kids under stands.1 stood.1 s m n) (λ m. item_frame a b q r more rest stands.2 stood.2 alike.3 m (λ n. outer (inr (inr n))))
      where
        marked_v : RenderObject
        marked_v = layout_marks.marked ((listed h hs || some_climbs layout_marks hs (within layout_marks a v) kids) && true) (has_listed hs kids || (true && listed h hs)) v

        inner_nodes : Forest RenderObject
        inner_nodes = both (within layout_marks a v) (within paint_marks b marked_v) kids

        Inner : Type 0
        Inner = ListsAlike (layout_nodes inner_nodes) (layout_nodes under) → In k kids → (HasOuter k kids → ⊥) → w.frame ≡ o.frame

        by_list : (d : Bool) → is_list (object_look v) ≡ d → ListOr d (AreAlike (layout_nodes inner_nodes) (layout_nodes under)) (ListsAlike (layout_nodes inner_nodes) (layout_nodes under)) → Inner → In k kids → w.frame ≡ o.frame
        by_list true e s go m = alike_frame (Some h) (Some j) inner_nodes under stands.1 stood.1 s (both_in (within layout_marks a v) (within paint_marks b marked_v) kids m)
        by_list false e s go m = go s m (λ n. outer (inr (inl (e, n))))

        by_count : (m : ℕ) → count k kids ≡ m → cond {A = ℕ} (same h k) 1 0 ≡ 0 → Inner → (In k more → w.frame ≡ o.frame) → w.frame ≡ o.frame
        by_count zero e off go later = later (omega (arith, i, e, off))
        by_count (suc m) e off go later = by_list (is_list (object_look v)) refl alike.2 go (omega (arith, e))

        by_here : (h ≡ k) ⊎ (h ≢ k) → Inner → (In k more → w.frame ≡ o.frame) → w.frame ≡ o.frame
        by_here (inl e) go later = absurd (outer (inl e))
        by_here (inr ne) go later = by_count (count k kids) refl (ap (λ b. cond {A = ℕ} b 1 0) (same-ne h k ne)) go later

-- ---- from the first phase's nodes to those before the second

module _ (s : Setting) (view : Size) (mid ranged : Tree RenderObject) (fl : FlushesLists s view mid ranged) (stays : StaysBuilt mid ranged) where
  pub record IsFlushedSo (k : Handle) (n : TreeNode RenderObject) : Type 0 where
    pub node : TreeNode RenderObject
    pub at : node_at fl.flushed k ≡ Some node
    pub children : node.children ≡ n.children
    pub told : node.value.parent_data ≡ n.value.parent_data

  pub flushed_node : (k : Handle) (n : TreeNode RenderObject) → node_at mid k ≡ Some n → IsFlushedSo k n
  flushed_node k n at = by (node_at fl.flushed k) refl
    where
      changed : TreeNode RenderObject
      changed = record n { value = with_layout_state (state_at fl.paints.paints.laid k) n.value }

      laid_at : node_at fl.paints.paints.laid k ≡ Some changed
      laid_at = fl.paints.paints.rest.nodes k ∙ ap (option_map (λ (m : TreeNode RenderObject). record m { value = with_layout_state (state_at fl.paints.paints.laid k) m.value })) at

      marks : (f : Bool) × (b : Bool) × (node_at fl.paints.laid k ≡ Some (record changed { value = paint_marks.marked f b changed.value }))
      marks = fl.paints.paints.marks.only k changed laid_at

      lives : option_map without_live (node_at fl.flushed k) ≡ Some (without_live (record changed { value = paint_marks.marked marks.0 marks.1 changed.value }))
      lives = fl.paints.ranges.nodes k ∙ ap (option_map without_live) marks.2

      by : (x : Option (TreeNode RenderObject)) → node_at fl.flushed k ≡ x → IsFlushedSo k n
      by None e = no_some (without_live (record changed { value = paint_marks.marked marks.0 marks.1 changed.value })) (sym (ap (option_map without_live) e) ∙ lives)
      by (Some m) e =
          let same_node : without_live m ≡ without_live (record changed { value = paint_marks.marked marks.0 marks.1 changed.value }) =
          some_is (without_live m) (without_live (record changed { value = paint_marks.marked marks.0 marks.1 changed.value })) (sym (ap (option_map without_live) e) ∙ lives) in
          record {
            node = m;
            at = e;
            children = ap (λ (x : TreeNode RenderObject). x.children) same_node;
            told = ap (λ (x : TreeNode RenderObject). x.value.parent_data) same_node;
          }

  -- what stands before the second phase of a node of the first
  pub record IsRangedSo (k : Handle) (n : TreeNode RenderObject) : Type 0 where
    pub node : TreeNode RenderObject
    pub at : node_at ranged k ≡ Some node
    pub children : node.children ≡ n.children
    pub number : node.value.number ≡ n.value.number
    pub widget : node.value.widget ≡ n.value.widget
    pub told : node.value.parent_data ≡ n.value.parent_data
    pub scroll : node.value.scroll ≡ n.value.scroll
    -- where the flush leaves its frame
    pub frame : ((w : RenderObject) → object_at fl.flushed k ≡ Some w → w.frame ≡ n.value.frame) → node.value.frame ≡ n.value.frame

  pub ranged_node : (k : Handle) (n : TreeNode RenderObject) → node_at mid k ≡ Some n → IsRangedSo k n
  ranged_node k n at =
      let kept = flushed_node k n at in
      let inside : In k fl.tree.0 = fl.tree.1.whole k (is_node (node_at fl.flushed k) kept.node kept.at) in
      let put = put_node fl.flushed ranged fl.corrected fl.scrolls k kept.node kept.at at_top None None fl.tree.0 fl.tree.1.stands (fl.plain fl.tree.0 fl.tree.1).stands inside in
      let built = stays.drawn k n.value (value_of mid k n at) in
      let same_value : built.0 ≡ put.node.value = some_is built.0 put.node.value (sym built.1 ∙ value_of ranged k put.node put.at) in
      record {
        node = put.node;
        at = put.at;
        children = put.children ∙ kept.children;
        number = ap (λ (o : RenderObject). o.number) (sym same_value) ∙ built.2;
        widget = some_is put.node.value.widget n.value.widget
            (sym (ap (option_map (λ (o : RenderObject). o.widget)) (value_of ranged k put.node put.at)) ∙ (stays.widgets k ∙ ap (option_map (λ (o : RenderObject). o.widget)) (value_of mid k n at)));
        told = put.told ∙ kept.told;
        scroll = ap (λ (o : RenderObject). o.scroll) (sym same_value) ∙ built.3;
        frame = λ same_frame. put.frame ∙ same_frame kept.node.value (value_of fl.flushed k kept.node kept.at);
      }

  -- what is beside the root's tree keeps its frame
  pub beside_frame : (k : Handle) (n : TreeNode RenderObject) → node_at mid k ≡ Some n → (In k (root_tree mid) → ⊥) → (w : RenderObject) → object_at fl.flushed k ≡ Some w → w.frame ≡ n.value.frame
  beside_frame k n at out w at_w = by (node_at fl.flushed k) refl
    where
      same_seen : option_map seen_node (node_at fl.flushed k) ≡ Some (seen_node n)
      same_seen = fl.others k out ∙ ap (option_map seen_node) at

      by : (x : Option (TreeNode RenderObject)) → node_at fl.flushed k ≡ x → w.frame ≡ n.value.frame
      by None e = no_some w (sym (ap (option_map (λ (m : TreeNode RenderObject). m.value)) e) ∙ at_w)
      by (Some m) e =
          let value : m.value ≡ w = some_is m.value w (sym (value_of fl.flushed k m e) ∙ at_w) in
          ap (λ (o : RenderObject). o.frame) (sym value) ∙ ap (λ (x : TreeNode LayoutNode). x.value.frame) (some_is (seen_node m) (seen_node n) (sym (ap (option_map seen_node) e) ∙ same_seen))

  -- ---- nothing comes

  live_in : (t : Tree RenderObject) (k : Handle) (q : Option Handle) (f : Forest RenderObject) → Stands (node_at t) q f → In k f → (n : TreeNode RenderObject) × (node_at t k ≡ Some n)
  live_in t k q none stands i = absurd (omega (arith, i))
  live_in t k q (tree h o kids rest) stands i = by_here (cases_same h k) (λ m. live_in t k (Some h) kids stands.1 m) (λ m. live_in t k q rest stands.2 m)
    where
      Live : Type 0
      Live = (n : TreeNode RenderObject) × (node_at t k ≡ Some n)

      by_count : (m : ℕ) → count k kids ≡ m → cond {A = ℕ} (same h k) 1 0 ≡ 0 → (In k kids → Live) → (In k rest → Live) → Live
      by_count zero e off inner later = later (omega (arith, i, e, off))
      by_count (suc m) e off inner later = inner (omega (arith, e))

      by_here : (h ≡ k) ⊎ (h ≢ k) → (In k kids → Live) → (In k rest → Live) → Live
      by_here (inl e) inner later = (record { parent = q; children = tops kids; value = o }, ap (node_at t) (sym e) ∙ stands.0)
      by_here (inr ne) inner later = by_count (count k kids) refl (ap (λ b. cond {A = ℕ} b 1 0) (same-ne h k ne)) inner later

  put_count : (k : Handle) (c : Above) (f : Forest RenderObject) → count k (scrolled_as fl.scrolls (sweep layout_marks true fl.corrected c f)) ≡ count k f
  put_count k c none = refl
  put_count k c (tree h o kids rest) =
      let inner = put_count k (within layout_marks c o) kids in
      let later = put_count k c rest in
      omega (arith, inner, later)

  pub mid_back : (k : Handle) (n : TreeNode RenderObject) → node_at ranged k ≡ Some n → (m : TreeNode RenderObject) × (node_at mid k ≡ Some m)
  mid_back k n at = by (node_at mid k) refl
    where
      out : {B : Type 0} → node_at mid k ≡ None → B
      out e =
          let laid_none : node_at fl.paints.paints.laid k ≡ None = fl.paints.paints.rest.nodes k ∙ ap (option_map (λ (m : TreeNode RenderObject). record m { value = with_layout_state (state_at fl.paints.paints.laid k) m.value })) e in
          let marked_none : node_at fl.paints.laid k ≡ None = fl.paints.paints.marks.absent k laid_none in
          let flushed_none : option_map without_live (node_at fl.flushed k) ≡ None = fl.paints.ranges.nodes k ∙ ap (option_map without_live) marked_none in
          let is = fl.plain fl.tree.0 fl.tree.1 in
          let inside : In k fl.tree.0 = (let i = is.whole k (is_node (node_at ranged k) n at) in let c = put_count k at_top fl.tree.0 in omega (arith, i, c)) in
          let there = live_in fl.flushed k None fl.tree.0 fl.tree.1.stands inside in
          no_some (without_live there.0) (sym flushed_none ∙ ap (option_map without_live) there.1)

      by : (x : Option (TreeNode RenderObject)) → node_at mid k ≡ x → (m : TreeNode RenderObject) × (node_at mid k ≡ Some m)
      by None e = out e
      by (Some m) e = (m, e)

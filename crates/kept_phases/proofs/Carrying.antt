-- What a step of a build changes for painting.
use Rattle.std.proofs.Common.{◌≡◌, ℕ, cond, Bool, true, false, Option, Some, None, IfSome, option_map, List, [], ◌∷◌, refl, ap, sym, ◌∙◌, subst, inl, inr, arith}
use Rattle.fx_handles.specs.declared.Handle.{Handle}
use Rattle.fx_handles.specs.Handle.{same as same_handle}
use Rattle.fx_handles.specs.HandleLaws.{cases_same, same-ne}
use Rattle.fx_geom.specs.declared.shapes.Size.{Size}
use Rattle.delegates.specs.Table.{Plug}
use Rattle.node_tree.specs.Forest.{TreeNode, Forest, tops, count, In, Stands}
use Rattle.node_tree.specs.Forest.Forest.{none, tree}
use Rattle.node_tree.specs.Plan.{PlanEntry, entries, relinked, IsUpdated}
use Rattle.node_tree.specs.Tree.{Tree, node_at, IsTree}
use Rattle.node_tree.proofs.ForestLemmas.{same_Some, is_zero}
use Rattle.node_tree.proofs.TreeLemmas.{is_node}
use Rattle.tree_marks.specs.Marking.{at_top}
use Rattle.tree_marks.specs.Marks.{listed, sweep}
use Rattle.render_tree.specs.Changes.{EachEntry, KeepsLook, KeepsList}
use Rattle.render_tree.specs.Marks.{layout_marks}
use Rattle.render_tree.specs.Object.{RenderObject}
use Rattle.render_tree.specs.Plain.{frame_or, offset_or}
use Rattle.render_tree.specs.Redraw.{Redraw, redrawn}
use Rattle.render_tree.specs.Tree.{object_at}
use Rattle.kept_layers.specs.Group.{is_boundary}
use Rattle.kept_layers.specs.Repainted.{KeepsPaint, CarriesPaint}
use Rattle.paint_owner.specs.PaintOwner.{PaintOwner}
use Rattle.kept_phases.specs.Layers.{KeepsLayers}
use Rattle.kept_phases.specs.Redraws.{Redraws, KeepsKinds}
use Rattle.kept_phases.proofs.Planned.{tops_updated, each_front, each_back}
use Rattle.kept_phases.proofs.Whole.{ListsAll, listed_kept}

-- what is stored where its value is known
node_of : (o : Option (TreeNode RenderObject)) (u : Redraw) (v : RenderObject) → option_map (redrawn u) (option_map (λ (n : TreeNode RenderObject). n.value) o) ≡ Some v
    → (n : TreeNode RenderObject) × (o ≡ Some n) × (redrawn u n.value ≡ v)
node_of None u v e = absurd cc
node_of (Some n) u v e = (n, refl, same_Some e)

-- the node at a handle after a plan was committed: some entry is for it, of which this holds
pub record Entered (P : PlanEntry Redraw → Type 0) (made committed : Tree RenderObject) (k : Handle) : Type 0 where
  pub entry : PlanEntry Redraw
  pub here : k ≡ entry.at
  pub holds : P entry
  pub node : TreeNode RenderObject
  pub was : node_at made k ≡ Some node
  pub is : node_at committed k ≡ Some (relinked redrawn entry node)

module _ (P : PlanEntry Redraw → Type 0) (made committed : Tree RenderObject) where
  pub entered : (p : Option Handle) (g : Forest Redraw) (f : Forest RenderObject) → EachEntry P (entries p g) → IsUpdated redrawn (object_at made) g f → Stands (node_at committed) p f
      → (k : Handle) → In k f → Entered P made committed k
  entered p none none all u stands k among = absurd (omega arith)
  entered p none (tree j v below rest) all u stands k among = absurd u
  entered p (tree h x kids more) none all u stands k among = absurd u
  entered p (tree h x kids more) (tree j v below rest) all u stands k among = elim (cases_same j k) [
    | inl e ↦
        let mine = each_back P (entries (Some h) kids) (record { at = h; parent = p; children = tops kids; update = x } ∷ entries p more) all in
        let n = node_of (node_at made h) x v u.1 in
        record {
          entry = record { at = h; parent = p; children = tops kids; update = x };
          here = sym e ∙ sym u.0;
          holds = mine.0;
          node = n.0;
          was = ap (node_at made) (sym e ∙ sym u.0) ∙ n.1;
          is = ap (node_at committed) (sym e) ∙ stands.0
              ∙ (λ i. Some (record { parent = p; children = sym (tops_updated (object_at made) kids below u.2) i; value = sym n.2 i }));
        }
    | inr ne ↦
        let here = no_hit j k ne in
        elim (is_zero (count k below)) [
          | inl gone ↦
              entered p more rest (each_back P (entries (Some h) kids) (record { at = h; parent = p; children = tops kids; update = x } ∷ entries p more) all).1 u.3 stands.2 k (omega (arith, among, here, gone))
          | inr there ↦
              entered (Some h) kids below (each_front P (entries (Some h) kids) (record { at = h; parent = p; children = tops kids; update = x } ∷ entries p more) all) u.2
              (subst (λ y. Stands (node_at committed) (Some y) below) (sym u.0) stands.1) k there
        ]
  ]
    where
      no_hit : (j k : Handle) → (j ≡ k → ⊥) → cond {A = ℕ} (same_handle j k) 1 0 ≡ 0
      no_hit j k ne = ap (λ (b : Bool). cond {A = ℕ} b 1 0) (same-ne j k ne)

-- a node, as a commit and marks for layout left it
left : PlanEntry Redraw → Bool → Bool → TreeNode RenderObject → TreeNode RenderObject
left e f b n = record { parent = e.parent; children = e.children; value = layout_marks.marked f b (redrawn e.update n.value) }

module _ (cell : Size) (delegates : List Plug) (old new : Tree RenderObject) (r : Redraws old new) (kinds : KeepsKinds old r.committed) where
  -- an entry changes what painting reads only where its node is listed
  abbrev Covered : PlanEntry Redraw → Type 0
  Covered e = listed e.at r.painted ≡ false → KeepsLook r.made e × KeepsList r.made e

  keeps_paint : (k : Handle) (e : PlanEntry Redraw) (f b : Bool) (n : TreeNode RenderObject) → k ≡ e.at → Covered e → node_at r.made k ≡ Some n → node_at old k ≡ Some n
      → node_at r.committed k ≡ Some (relinked redrawn e n) → KeepsPaint cell delegates delegates true r.painted k n (left e f b n)
  unfolding left
  keeps_paint k e f b n here covered at_made at_old at_new =
      let at_entry : node_at r.made e.at ≡ Some n = ap (node_at r.made) (sym here) ∙ at_made in
      let unlisted : listed k r.painted ≡ false → listed e.at r.painted ≡ false = λ u. ap (λ h. listed h r.painted) (sym here) ∙ u in
      let kind : is_boundary (redrawn e.update n.value) ≡ is_boundary n.value =
      kinds k n.value (redrawn e.update n.value) (ap (option_map (λ (x : TreeNode RenderObject). x.value)) at_old) (ap (option_map (λ (x : TreeNode RenderObject). x.value)) at_new) in
      record {
        flag = refl;
        mark = refl;
        drawn = λ u.
            let look = (covered (unlisted u)).0 n.value (ap (option_map (λ (x : TreeNode RenderObject). x.value)) at_entry) in
            (λ i. record { look = look i; frame = frame_or n.value.frame });
        draws = λ u p. refl;
        placed = λ p up u i. record { offset = offset_or n.value.offset; shown = n.value.shown; apart = kind i };
        children = λ u. (covered (unlisted u)).1 ∙ ap kids_of at_entry;
      }
    where
      kids_of : Option (TreeNode RenderObject) → List Handle
      kids_of None = []
      kids_of (Some x) = x.children

  carries : (k : Handle) (is : TreeNode RenderObject) → node_at r.laid_marked k ≡ Some is → CarriesPaint cell delegates delegates true r.painted k (node_at old k) is
  unfolding left
  carries k is at_new = by_committed (node_at r.committed k) refl
    where
      by_old : (o : Option (TreeNode RenderObject)) → node_at old k ≡ o → (e : PlanEntry Redraw) (f b : Bool) (n : TreeNode RenderObject) → k ≡ e.at → Covered e → node_at r.made k ≡ Some n
          → node_at r.committed k ≡ Some (relinked redrawn e n) → CarriesPaint cell delegates delegates true r.painted k o (left e f b n)
      by_old None at_old e f b n here covered at_made now =
          let fresh = (r.grows.fresh k n at_old at_made).2 in
          (ap (λ (y : TreeNode RenderObject). y.value.needs_paint) fresh, ap (λ (y : TreeNode RenderObject). y.value.paint_below) fresh)
      by_old (Some was) at_old e f b n here covered at_made now =
          let same_node : n ≡ was = same_Some (sym at_made ∙ r.grows.keeps k (is_node (node_at old k) was at_old) ∙ at_old) in
          subst (λ x. KeepsPaint cell delegates delegates true r.painted k x (left e f b n)) same_node
          (keeps_paint k e f b n here covered at_made (at_old ∙ ap (λ x. Some x) (sym same_node)) now)

      by_committed : (o : Option (TreeNode RenderObject)) → node_at r.committed k ≡ o → CarriesPaint cell delegates delegates true r.painted k (node_at old k) is
      by_committed None e = absurd (let gone = sym (r.layouts.absent k e) ∙ at_new in cc)
      by_committed (Some v) e =
          let m = r.layouts.only k v e in
          let en = entered Covered r.made r.committed None r.updates r.nodes r.painted_anew.own r.updated r.is.stands k (r.is.whole k (is_node (node_at r.committed k) v e)) in
          let same_node : relinked redrawn en.entry en.node ≡ v = same_Some (sym en.is ∙ e) in
          let is_left : left en.entry m.0 m.1 en.node ≡ is =
          ap (λ (x : TreeNode RenderObject). record { parent = x.parent; children = x.children; value = layout_marks.marked m.0 m.1 x.value }) same_node ∙ same_Some (sym m.2 ∙ at_new) in
          subst (λ x. CarriesPaint cell delegates delegates true r.painted k (node_at old k) x) is_left
          (by_old (node_at old k) refl en.entry m.0 m.1 en.node en.here en.holds en.was en.is)

  lists : ListsAll cell delegates delegates true r.painted old r.laid_marked
  lists = record {
    nodes = carries;
    root = λ x e u.
        let top : IfSome (Some x) (λ (y : Handle). listed y r.painted ≡ false → r.made.root ≡ Some y) =
        subst (λ (o : Option Handle). IfSome o (λ (y : Handle). listed y r.painted ≡ false → r.made.root ≡ Some y)) (sym r.layouts.root ∙ e) r.painted_anew.top in
        sym r.grows.root ∙ top u;
  }

  pub redrawn_layers : (o : PaintOwner) → IsTree old → KeepsLayers cell delegates o old → KeepsLayers cell delegates o new
  redrawn_layers o is_old kept =
      listed_kept cell delegates delegates o true r.painted old r.laid_marked new is_old (sweep layout_marks true r.laid at_top r.nodes, r.layouts.plain r.nodes r.is) lists r.paints kept

-- What a commit changes for painting.
use Rattle.std.proofs.Common.{◌≡◌, Bool, true, false, if◌then◌else◌, Option, Some, None, option_map, List, [], ◌∷◌, refl, ap, sym, ◌∙◌, subst, inl, inr}
use Rattle.fx_handles.specs.declared.Handle.{Handle}
use Rattle.fx_handles.specs.HandleLaws.{cases_same, same-eq, same-ne}
use Rattle.fx_geom.specs.declared.shapes.Size.{Size}
use Rattle.delegates.specs.Table.{Plug}
use Rattle.node_tree.specs.Forest.{TreeNode}
use Rattle.node_tree.specs.Plan.{PlanEntry, relinked, committed as committed_at}
use Rattle.node_tree.specs.Tree.{Tree, node_at, IsTree}
use Rattle.node_tree.proofs.ForestLemmas.{same_Some}
use Rattle.node_tree.proofs.TreeLemmas.{is_node}
use Rattle.tree_marks.specs.Marks.{listed}
use Rattle.render_tree.specs.Changes.{EachEntry, KeepsLook, KeepsList}
use Rattle.render_tree.specs.Marks.{layout_marks}
use Rattle.render_tree.specs.Object.{RenderObject}
use Rattle.render_tree.specs.Plain.{frame_or, offset_or}
use Rattle.render_tree.specs.Redraw.{Redraw, redrawn}
use Rattle.kept_layers.specs.Group.{is_boundary}
use Rattle.kept_layers.specs.Repainted.{KeepsPaint, CarriesPaint, ListsChanges}
use Rattle.kept_layers.specs.Committed.{CommitsListed}
use Rattle.kept_layers.proofs.RootTrees.{all_inside}

-- the node at a handle after a plan was committed: some entry is for it, of which this holds
pub record Entered (P : PlanEntry Redraw → Type 0) (k : Handle) (o : Option (TreeNode RenderObject)) (c : TreeNode RenderObject) : Type 0 where
  pub entry : PlanEntry Redraw
  pub here : k ≡ entry.at
  pub holds : P entry
  pub node : TreeNode RenderObject
  pub was : o ≡ Some node
  pub is : relinked redrawn entry node ≡ c

entered : (P : PlanEntry Redraw → Type 0) (es : List (PlanEntry Redraw)) (k : Handle) (o : Option (TreeNode RenderObject)) (c : TreeNode RenderObject)
    → EachEntry P es → committed_at redrawn es k o ≡ Some c → Entered P k o c
entered P [] k o c all e = absurd cc
entered P (x ∷ es) k o c all e = elim (cases_same k x.at) [
  | inl here ↦ at_option here o refl (sym (ap (λ (b : Bool). if b then option_map (relinked redrawn x) o else committed_at redrawn es k o) (same-eq k x.at here)) ∙ e)
  | inr ne ↦ entered P es k o c all.1 (sym (ap (λ (b : Bool). if b then option_map (relinked redrawn x) o else committed_at redrawn es k o) (same-ne k x.at ne)) ∙ e)
]
  where
    at_option : k ≡ x.at → (n : Option (TreeNode RenderObject)) → o ≡ n → option_map (relinked redrawn x) n ≡ Some c → Entered P k o c
    at_option here None was e2 = absurd cc
    at_option here (Some v) was e2 = record { entry = x; here = here; holds = all.0; node = v; was = was; is = same_Some e2 }

-- a node, as a commit and marks for layout left it
left : PlanEntry Redraw → Bool → Bool → TreeNode RenderObject → TreeNode RenderObject
left e f b n = record { parent = e.parent; children = e.children; value = layout_marks.marked f b (redrawn e.update n.value) }

module _ (cell : Size) (delegates : List Plug) (painted : List Handle) (old new : Tree RenderObject) (is_old : IsTree old) (c : CommitsListed painted old new) where
  -- an entry changes what painting reads only where its node is listed
  abbrev Covered : PlanEntry Redraw → Type 0
  Covered e = listed e.at painted ≡ false → KeepsLook c.made e × KeepsList c.made e

  keeps_paint : (k : Handle) (e : PlanEntry Redraw) (f b : Bool) (n : TreeNode RenderObject) → k ≡ e.at → Covered e → node_at c.made k ≡ Some n → node_at old k ≡ Some n
      → node_at new k ≡ Some (left e f b n) → KeepsPaint cell delegates delegates true painted k n (left e f b n)
  unfolding left
  keeps_paint k e f b n here covered at_made at_old at_new =
      let at_entry : node_at c.made e.at ≡ Some n = ap (node_at c.made) (sym here) ∙ at_made in
      let unlisted : listed k painted ≡ false → listed e.at painted ≡ false = λ u. ap (λ h. listed h painted) (sym here) ∙ u in
      let kind : is_boundary (redrawn e.update n.value) ≡ is_boundary n.value =
      c.kinds k n.value (left e f b n).value (ap (option_map (λ (x : TreeNode RenderObject). x.value)) at_old) (ap (option_map (λ (x : TreeNode RenderObject). x.value)) at_new) in
      record {
        flag = refl;
        mark = refl;
        drawn = λ u.
            let look = (covered (unlisted u)).0 n.value (ap (option_map (λ (x : TreeNode RenderObject). x.value)) at_entry) in
            (λ i. record { look = look i; frame = frame_or n.value.frame });
        draws = λ u p. refl;
        placed = λ p up u i. record { offset = offset_or n.value.offset; shown = n.value.shown; apart = kind i };
        children = λ u. (covered (unlisted u)).1 ∙ ap kids_of at_entry;
      }
    where
      kids_of : Option (TreeNode RenderObject) → List Handle
      kids_of None = []
      kids_of (Some x) = x.children

  carries : (k : Handle) (is : TreeNode RenderObject) → node_at new k ≡ Some is → CarriesPaint cell delegates delegates true painted k (node_at old k) is
  unfolding left
  carries k is at_new = by_committed (node_at c.committed k) refl
    where
      by_old : (o : Option (TreeNode RenderObject)) → node_at old k ≡ o → (e : PlanEntry Redraw) (f b : Bool) (n : TreeNode RenderObject) → k ≡ e.at → Covered e → node_at c.made k ≡ Some n
          → node_at new k ≡ Some (left e f b n) → CarriesPaint cell delegates delegates true painted k o (left e f b n)
      by_old None at_old e f b n here covered at_made now = c.fresh k n at_old at_made
      by_old (Some was) at_old e f b n here covered at_made now =
          let same_node : n ≡ was = same_Some (sym at_made ∙ c.keeps k (is_node (node_at old k) was at_old) ∙ at_old) in
          subst (λ x. KeepsPaint cell delegates delegates true painted k x (left e f b n)) same_node
          (keeps_paint k e f b n here covered at_made (at_old ∙ ap (λ x. Some x) (sym same_node)) now)

      by_committed : (o : Option (TreeNode RenderObject)) → node_at c.committed k ≡ o → CarriesPaint cell delegates delegates true painted k (node_at old k) is
      by_committed None e = absurd (let gone = sym (c.layouts.absent k e) ∙ at_new in cc)
      by_committed (Some v) e =
          let m = c.layouts.only k v e in
          let en = entered Covered c.plan k (node_at c.made k) v c.painted_anew.own (sym (c.commits.nodes k) ∙ e) in
          let is_left : left en.entry m.0 m.1 en.node ≡ is =
          ap (λ (x : TreeNode RenderObject). record { parent = x.parent; children = x.children; value = layout_marks.marked m.0 m.1 x.value }) en.is ∙ same_Some (sym m.2 ∙ at_new) in
          subst (λ x. CarriesPaint cell delegates delegates true painted k (node_at old k) x) is_left
          (by_old (node_at old k) refl en.entry m.0 m.1 en.node en.here en.holds en.was (at_new ∙ ap (λ x. Some x) (sym is_left)))

  pub commit_lists : ListsChanges cell delegates delegates true painted old new
  commit_lists = record {
    nodes = carries;
    root = λ r e u.
        let same : c.root ≡ r = same_Some (sym (c.layouts.root ∙ c.at_root) ∙ e) in
        sym c.same_root ∙ c.painted_anew.top (ap (λ h. listed h painted) same ∙ u) ∙ ap (λ h. Some h) same;
    inside = λ h is live. all_inside old is_old c.whole h live;
  }

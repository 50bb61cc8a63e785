-- Changes of single nodes, of delegates, and of what painting doesn't read.
use Rattle.std.proofs.Common.{◌≡◌, Bool, false, if◌then◌else◌, Option, Some, None, option_map, List, refl, ap, sym, ◌∙◌, subst, inl, inr}
use Rattle.fx_handles.specs.declared.Handle.{Handle}
use Rattle.fx_handles.specs.Handle.{same}
use Rattle.fx_handles.specs.HandleLaws.{cases_same, same-eq, same-ne}
use Rattle.fx_geom.specs.declared.shapes.Size.{Size}
use Rattle.delegates.specs.Table.{Plug}
use Rattle.node_tree.specs.Forest.{TreeNode, In, with_value_at}
use Rattle.node_tree.specs.Tree.{Tree, node_at, parent_of, parent_at, IsNode, IsTree}
use Rattle.node_tree.proofs.ForestLemmas.{same_Some, node_in}
use Rattle.tree_marks.specs.Marks.{listed}
use Rattle.render_tree.specs.Edits.{Writes}
use Rattle.render_tree.specs.Marked.{SetsMarks}
use Rattle.render_tree.specs.Marks.{layout_marks}
use Rattle.render_tree.specs.Object.{RenderObject}
use Rattle.render_tree.specs.Plain.{root_tree}
use Rattle.render_tree.specs.Tree.{object_at}
use Rattle.kept_layers.specs.Unmarked.{placed_of, drawn_of, DrawsSame}
use Rattle.kept_layers.specs.Repainted.{KeepsPaint, CarriesPaint, ListsChanges, KeepsParents}
use Rattle.kept_layers.proofs.Repainting.{read_back, some_read}
use Rattle.kept_layers.proofs.RootTrees.{root_stands}

-- ---- one node

-- a node was written: painting reads nothing else of it, or it is listed; nor does its group of its place, or its parent is
pub written_lists : (cell : Size) (delegates : List Plug) (also : Bool) (hs : List Handle) (old new : Tree RenderObject) (h : Handle) (o w : RenderObject)
    → object_at old h ≡ Some o → Writes old new h w → w.needs_paint ≡ o.needs_paint → w.paint_below ≡ o.paint_below
    → (listed h hs ≡ false → drawn_of w ≡ drawn_of o) → ((p : Handle) → parent_at old h ≡ Some p → listed p hs ≡ false → placed_of w ≡ placed_of o)
    → ((k : Handle) → In k (root_tree new) → IsNode old k → In k (root_tree old)) → ListsChanges cell delegates delegates also hs old new
written_lists cell delegates also hs old new h o w at_h writes flag mark drawn placed inside = record {
  nodes = λ k is at_new. at_node k is (node_at old k) refl (sym (writes.writes.nodes k) ∙ at_new);
  root = λ r e u. sym writes.root ∙ e;
  inside = inside;
}
  where
    at_node : (k : Handle) (is : TreeNode RenderObject) (n : Option (TreeNode RenderObject)) → node_at old k ≡ n → option_map (with_value_at h w k) (node_at old k) ≡ Some is
        → CarriesPaint cell delegates delegates also hs k n is
    at_node k is None at_old e = absurd (let both = sym (ap (option_map (with_value_at h w k)) at_old) ∙ e in cc)
    at_node k is (Some n) at_old e = elim (cases_same k h) [
      | inl here ↦
          let is_w : record n { value = w } ≡ is = ap (λ (b : Bool). if b then record n { value = w } else n) (sym (same-eq k h here)) ∙ same_Some (sym (ap (option_map (with_value_at h w k)) at_old) ∙ e) in
          let is_o : o ≡ n.value = same_Some (sym at_h ∙ ap (option_map (λ (x : TreeNode RenderObject). x.value)) (ap (node_at old) (sym here) ∙ at_old)) in
          let up : parent_at old h ≡ n.parent = ap parent_of (ap (node_at old) (sym here) ∙ at_old) in
          subst (KeepsPaint cell delegates delegates also hs k n) is_w (record {
            flag = flag ∙ ap (λ x. x.needs_paint) is_o;
            mark = mark ∙ ap (λ x. x.paint_below) is_o;
            drawn = λ u. drawn (ap (λ x. listed x hs) (sym here) ∙ u) ∙ ap drawn_of is_o;
            draws = λ u p. refl;
            placed = λ p e2 u. placed p (up ∙ e2) u ∙ ap placed_of is_o;
            children = λ u. refl;
          })
      | inr ne ↦
          let is_n : n ≡ is = ap (λ (b : Bool). if b then record n { value = w } else n) (sym (same-ne k h ne)) ∙ same_Some (sym (ap (option_map (with_value_at h w k)) at_old) ∙ e) in
          subst (KeepsPaint cell delegates delegates also hs k n) is_n
          (record { flag = refl; mark = refl; drawn = λ u. refl; draws = λ u p. refl; placed = λ p e2 u. refl; children = λ u. refl })
    ]

-- ---- no node

-- only delegates changed: each node that draws otherwise is listed
pub delegates_list : (cell : Size) (before after : List Plug) (also : Bool) (hs : List Handle) (t : Tree RenderObject)
    → ((k : Handle) (o : RenderObject) → object_at t k ≡ Some o → listed k hs ≡ false → DrawsSame cell before after o) → ListsChanges cell before after also hs t t
delegates_list cell before after also hs t same = record {
  nodes = λ k is at_t. at_node k is (node_at t k) refl at_t;
  root = λ r e u. e;
  inside = λ h is live. is;
}
  where
    at_node : (k : Handle) (is : TreeNode RenderObject) (n : Option (TreeNode RenderObject)) → node_at t k ≡ n → node_at t k ≡ Some is → CarriesPaint cell before after also hs k n is
    at_node k is None at_old e = absurd (let both = sym at_old ∙ e in cc)
    at_node k is (Some n) at_old e =
        let is_n : n ≡ is = same_Some (sym at_old ∙ e) in
        record {
          flag = ap (λ x. x.value.needs_paint) (sym is_n);
          mark = ap (λ x. x.value.paint_below) (sym is_n);
          drawn = λ u. ap (λ x. drawn_of x.value) (sym is_n);
          draws = λ u. same k is.value (ap (option_map (λ (x : TreeNode RenderObject). x.value)) e) u;
          placed = λ p e2 u. ap (λ x. placed_of x.value) (sym is_n);
          children = λ u. ap (λ x. x.children) (sym is_n);
        }

-- marks for layout change nothing that painting reads
pub layouts_list : (cell : Size) (delegates : List Plug) (also laid_also : Bool) (hs laid : List Handle) (old new : Tree RenderObject) → SetsMarks layout_marks laid_also laid old new
    → ((k : Handle) → In k (root_tree new) → IsNode old k → In k (root_tree old)) → ListsChanges cell delegates delegates also hs old new
layouts_list cell delegates also laid_also hs laid old new sets inside = record {
  nodes = λ k is at_new. at_node k is (node_at old k) refl at_new;
  root = λ r e u. sym sets.root ∙ e;
  inside = inside;
}
  where
    at_node : (k : Handle) (is : TreeNode RenderObject) (n : Option (TreeNode RenderObject)) → node_at old k ≡ n → node_at new k ≡ Some is → CarriesPaint cell delegates delegates also hs k n is
    at_node k is None at_old e = absurd (let gone = sym (sets.absent k at_old) ∙ e in cc)
    at_node k is (Some n) at_old e =
        let m = sets.only k n at_old in
        subst (KeepsPaint cell delegates delegates also hs k n) (same_Some (sym m.2 ∙ e))
        (record { flag = refl; mark = refl; drawn = λ u. refl; draws = λ u p. refl; placed = λ p e2 u. refl; children = λ u. refl })

-- marks for layout after a change leave what it lists
pub laid_after : (cell : Size) (before after : List Plug) (also laid_also : Bool) (hs laid : List Handle) (old mid new : Tree RenderObject) → ListsChanges cell before after also hs old mid
    → SetsMarks layout_marks laid_also laid mid new → ((k : Handle) → In k (root_tree new) → In k (root_tree mid)) → ListsChanges cell before after also hs old new
laid_after cell before after also laid_also hs laid old mid new lists sets inside = record {
  nodes = λ k is at_new. at_mid k is (node_at mid k) refl at_new;
  root = λ r e u. lists.root r (sym sets.root ∙ e) u;
  inside = λ k is live. lists.inside k (inside k is) live;
}
  where
    marked : (k : Handle) (f b : Bool) (n : TreeNode RenderObject) (was : Option (TreeNode RenderObject)) → CarriesPaint cell before after also hs k was n
        → CarriesPaint cell before after also hs k was (record n { value = layout_marks.marked f b n.value })
    marked k f b n None c = c
    marked k f b n (Some was) c = record { flag = c.flag; mark = c.mark; drawn = c.drawn; draws = c.draws; placed = c.placed; children = c.children }

    at_mid : (k : Handle) (is : TreeNode RenderObject) (n : Option (TreeNode RenderObject)) → node_at mid k ≡ n → node_at new k ≡ Some is → CarriesPaint cell before after also hs k (node_at old k) is
    at_mid k is None e at_new = absurd (let gone = sym (sets.absent k e) ∙ at_new in cc)
    at_mid k is (Some n) e at_new =
        let m = sets.only k n e in
        subst (CarriesPaint cell before after also hs k (node_at old k)) (same_Some (sym m.2 ∙ at_new)) (marked k m.0 m.1 n (node_at old k) (lists.nodes k n e))

-- ---- one change after another

-- of the same list, where the second keeps each node's parent
pub both_list : (cell : Size) (delegates : List Plug) (also : Bool) (hs : List Handle) (a b c : Tree RenderObject) → IsTree c → ListsChanges cell delegates delegates also hs a b
    → ListsChanges cell delegates delegates also hs b c → KeepsParents b c → ListsChanges cell delegates delegates also hs a c
both_list cell delegates also hs a b c is_tree first second parents = record {
  nodes = λ k is at_c. let n = read_back (λ (x : TreeNode RenderObject). x.parent) (node_at b k) is.parent (parents k is at_c) in joined k n.0 is (node_at a k) n.1 n.2 at_c (first.nodes k n.0 n.1);
  root = λ r e u. first.root r (second.root r e u) u;
  inside = λ h is live.
      let there = node_in (node_at c) None (root_tree c) h (root_stands c is_tree) is in
      first.inside h (second.inside h is (some_read (λ (x : TreeNode RenderObject). x.parent) (node_at b h) there.0.parent (parents h there.0 there.1))) live;
}
  where
    later : (k : Handle) (n is : TreeNode RenderObject) → node_at b k ≡ Some n → node_at c k ≡ Some is → KeepsPaint cell delegates delegates also hs k n is
    later k n is at_b at_c = subst (λ o. CarriesPaint cell delegates delegates also hs k o is) at_b (second.nodes k is at_c)

    joined : (k : Handle) (n is : TreeNode RenderObject) (was : Option (TreeNode RenderObject)) → node_at b k ≡ Some n → n.parent ≡ is.parent → node_at c k ≡ Some is
        → CarriesPaint cell delegates delegates also hs k was n → CarriesPaint cell delegates delegates also hs k was is
    joined k n is None at_b up at_c carries = let keeps = later k n is at_b at_c in (keeps.flag ∙ carries.0, keeps.mark ∙ carries.1)
    joined k n is (Some was) at_b up at_c carries =
        let keeps = later k n is at_b at_c in
        record {
          flag = keeps.flag ∙ carries.flag;
          mark = keeps.mark ∙ carries.mark;
          drawn = λ u. keeps.drawn u ∙ carries.drawn u;
          draws = λ u p. refl;
          placed = λ p e u. keeps.placed p e u ∙ carries.placed p (up ∙ e) u;
          children = λ u. keeps.children u ∙ carries.children u;
        }

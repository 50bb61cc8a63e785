-- Layers that are kept of a whole tree stay fresh where nothing changes that painting reads.
use Rattle.std.proofs.Common.{◌≡◌, ℕ, Bool, true, false, cond, inl, inr, ◌∷◌, Option, Some, None, option_map, List, [], refl, ap, sym, ◌∙◌}
use Rattle.std.proofs.lemmas.Bool.{cases_Bool, false≢true}
use Rattle.fx_handles.specs.declared.Handle.{Handle}
use Rattle.fx_handles.specs.Handle.{same}
use Rattle.fx_handles.specs.HandleLaws.{same-true}
use Rattle.fx_geom.specs.declared.shapes.Size.{Size}
use Rattle.delegates.specs.Table.{Plug}
use Rattle.node_tree.specs.Forest.{TreeNode, set_value}
use Rattle.node_tree.specs.Tree.{Tree, Is, IsTree, node_at}
use Rattle.node_tree.proofs.ForestLemmas.{same_Some}
use Rattle.tree_marks.specs.Marking.{at_top}
use Rattle.tree_marks.specs.Marks.{sweep}
use Rattle.tree_marks.specs.Ways.{OnlyMarks}
use Rattle.render_tree.specs.Edits.{Writes, with_scroll}
use Rattle.render_tree.specs.Marked.{SetsMarks}
use Rattle.render_tree.specs.Marks.{layout_marks}
use Rattle.render_tree.specs.Object.{RenderObject}
use Rattle.render_tree.specs.Tree.{object_at}
use Rattle.kept_layers.specs.Repainted.{CarriesPaint}
use Rattle.kept_layers.specs.Unmarked.{PlacedNode, placed_of, DrawnNode, drawn_of}
use Rattle.kept_layers.proofs.RootTrees.{no_marks}
use Rattle.paint_owner.specs.PaintOwner.{PaintOwner}
use Rattle.kept_phases.specs.Layers.{KeepsLayers}
use Rattle.kept_phases.proofs.Whole.{listed_kept}

-- what painting reads of a node, and its marks
pub record PaintPart : Type 0 where
  pub children : List Handle
  pub placed : PlacedNode
  pub drawn : DrawnNode
  pub flag : Bool
  pub below : Bool

abbrev pub paint_part : TreeNode RenderObject → PaintPart
paint_part n = record { children = n.children; placed = placed_of n.value; drawn = drawn_of n.value; flag = n.value.needs_paint; below = n.value.paint_below }

module _ (cell : Size) (delegates : List Plug) (old new : Tree RenderObject)
    (same : (k : Handle) → option_map paint_part (node_at new k) ≡ option_map paint_part (node_at old k)) where
  carried : (k : Handle) (is : TreeNode RenderObject) → node_at new k ≡ Some is → CarriesPaint cell delegates delegates true [] k (node_at old k) is
  carried k is at_new = by_old (node_at old k) (sym (ap (option_map paint_part) at_new) ∙ same k)
    where
      by_old : (o : Option (TreeNode RenderObject)) → Some (paint_part is) ≡ option_map paint_part o → CarriesPaint cell delegates delegates true [] k o is
      by_old None e = absurd cc
      by_old (Some was) e =
          let parts : paint_part is ≡ paint_part was = same_Some e in
          record {
            flag = ap (λ (p : PaintPart). p.flag) parts;
            mark = ap (λ (p : PaintPart). p.below) parts;
            drawn = λ off. ap (λ (p : PaintPart). p.drawn) parts;
            draws = λ off q. refl;
            placed = λ q up off. ap (λ (p : PaintPart). p.placed) parts;
            children = λ off. ap (λ (p : PaintPart). p.children) parts;
          }

  pub unread_kept : (o : PaintOwner) → IsTree old → IsTree new → new.root ≡ old.root → KeepsLayers cell delegates o old → KeepsLayers cell delegates o new
  unread_kept o is_old is_new root kept =
      listed_kept cell delegates delegates o true [] old new new is_old is_new (record { nodes = carried; root = λ r e off. sym root ∙ e }) (no_marks true new) kept

-- ---- a node is scrolled, and marked for layout

part_written : (o w : RenderObject) → placed_of w ≡ placed_of o → drawn_of w ≡ drawn_of o → w.needs_paint ≡ o.needs_paint → w.paint_below ≡ o.paint_below
    → (at : Option (TreeNode RenderObject)) → option_map (λ (n : TreeNode RenderObject). n.value) at ≡ Some o
    → option_map paint_part (option_map (λ (n : TreeNode RenderObject). record n { value = w }) at) ≡ option_map paint_part at
part_written o w placed drawn flag below None e = refl
part_written o w placed drawn flag below (Some n) e =
    let value : n.value ≡ o = same_Some e in
    λ i. Some (record {
      children = n.children;
      placed = (placed ∙ ap placed_of (sym value)) i;
      drawn = (drawn ∙ ap drawn_of (sym value)) i;
      flag = (flag ∙ ap (λ (x : RenderObject). x.needs_paint) (sym value)) i;
      below = (below ∙ ap (λ (x : RenderObject). x.paint_below) (sym value)) i;
    })

-- marks for layout are nothing that painting reads
pub layout_parts_same : (old new : Tree RenderObject) → OnlyMarks layout_marks old new → ((k : Handle) → node_at old k ≡ None → node_at new k ≡ None)
    → (k : Handle) → option_map paint_part (node_at new k) ≡ option_map paint_part (node_at old k)
layout_parts_same old new only absent k = by_node (node_at old k) refl
  where
    by_node : (o : Option (TreeNode RenderObject)) → node_at old k ≡ o → option_map paint_part (node_at new k) ≡ option_map paint_part o
    by_node None e = ap (option_map paint_part) (absent k e)
    by_node (Some n) e = ap (option_map paint_part) (only k n e).2

module _ (old mid new : Tree RenderObject) (h : Handle) (v : RenderObject) (scroll : ℕ) (at_h : object_at old h ≡ Some v) (writes : Writes old mid h (with_scroll scroll v)) where
  written_part : (k : Handle) → option_map paint_part (node_at mid k) ≡ option_map paint_part (node_at old k)
  written_part k = ap (option_map paint_part) (writes.writes.nodes k) ∙ elim (cases_Bool (same k h)) [
    | inl e ↦
        by_same (same k h) e (node_at old k) (part_written v (with_scroll scroll v) refl refl refl refl (node_at old k)
        (ap (object_at old) (same-true k h e) ∙ at_h))
    | inr e ↦ by_other (same k h) e (node_at old k)
  ]
    where
      by_same : (b : Bool) → b ≡ true → (o : Option (TreeNode RenderObject))
          → option_map paint_part (option_map (λ (n : TreeNode RenderObject). record n { value = with_scroll scroll v }) o) ≡ option_map paint_part o
          → option_map paint_part (option_map (λ (n : TreeNode RenderObject). cond b (record n { value = with_scroll scroll v }) n) o) ≡ option_map paint_part o
      by_same true e o is = is
      by_same false e o is = absurd (false≢true e)

      by_other : (b : Bool) → b ≡ false → (o : Option (TreeNode RenderObject))
          → option_map paint_part (option_map (λ (n : TreeNode RenderObject). cond b (record n { value = with_scroll scroll v }) n) o) ≡ option_map paint_part o
      by_other true e o = absurd (false≢true (sym e))
      by_other false e None = refl
      by_other false e (Some n) = refl

  pub scrolled_layers : (cell : Size) (delegates : List Plug) (o : PaintOwner) → IsTree old → SetsMarks layout_marks true (h ∷ []) mid new → KeepsLayers cell delegates o old → KeepsLayers cell delegates o new
  scrolled_layers cell delegates o is sets kept =
      let written : Is mid (set_value h (with_scroll scroll v) is.0) = writes.plain is.0 is.1 in
      unread_kept cell delegates old new (λ k. layout_parts_same mid new sets.only sets.absent k ∙ written_part k) o is
      (sweep layout_marks true (h ∷ []) at_top (set_value h (with_scroll scroll v) is.0), sets.plain (set_value h (with_scroll scroll v) is.0) written)
      (sets.root ∙ writes.root) kept

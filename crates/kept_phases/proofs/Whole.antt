-- Layers that are kept of a whole tree stay fresh where a change was listed, and the listed nodes were marked.
use Rattle.std.proofs.Common.{◌≡◌, Bool, true, false, Option, Some, None, List, [], refl, ap, sym, ◌∙◌, subst}
use Rattle.fx_handles.specs.declared.Handle.{Handle}
use Rattle.fx_geom.specs.declared.shapes.Size.{Size}
use Rattle.delegates.specs.Table.{Plug}
use Rattle.handle_shelf.specs.Shelf.{kept_at}
use Rattle.node_tree.specs.Forest.{TreeNode, Forest, tops}
use Rattle.node_tree.specs.Forest.Forest.{none, tree}
use Rattle.node_tree.specs.Tree.{Tree, Is, IsTree, node_at}
use Rattle.tree_marks.specs.Marking.{at_top}
use Rattle.tree_marks.specs.Marks.{listed, sweep}
use Rattle.render_tree.specs.Object.{RenderObject}
use Rattle.render_tree.specs.Marks.{paint_marks}
use Rattle.render_tree.specs.Marked.{SetsMarks}
use Rattle.render_tree.specs.Plain.{root_below, root_tree}
use Rattle.kept_layers.specs.KeptLayers.{IsFresh, IsMarked, filled}
use Rattle.kept_layers.specs.Repainted.{IsRootRepainted, CarriesPaint}
use Rattle.kept_layers.proofs.Repainting.{read_at, fresh_again, root_stays}
use Rattle.kept_layers.proofs.RootTrees.{root_is, root_swept}
use Rattle.kept_layers.proofs.Sweeping.{root_repainted, marked_again}
use Rattle.paint_owner.specs.PaintOwner.{PaintOwner, kept_of, frame_layer, KeepsRoot, IsRootFresh, IsKept}
use Rattle.kept_phases.proofs.Roots.{same_forest, root_forest}
use Rattle.kept_phases.specs.Layers.{KeepsLayers}
use Rattle.kept_phases.proofs.Tops.{tops_repainted}

-- a change before its marks, of every node, and of the root
pub record ListsAll (cell : Size) (before after : List Plug) (also : Bool) (hs : List Handle) (old mid : Tree RenderObject) : Type 0 where
  pub nodes : (k : Handle) (is : TreeNode RenderObject) → node_at mid k ≡ Some is → CarriesPaint cell before after also hs k (node_at old k) is
  pub root : (r : Handle) → mid.root ≡ Some r → listed r hs ≡ false → old.root ≡ Some r

module _ (cell : Size) (before after : List Plug) (o : PaintOwner) (also : Bool) (hs : List Handle) (old mid new : Tree RenderObject) (is_old : IsTree old) (is_mid : IsTree mid)
    (lists : ListsAll cell before after also hs old mid) (sets : SetsMarks paint_marks also hs mid new) (kept : KeepsLayers cell before o old) where
  abbrev swept : Forest RenderObject
  swept = sweep paint_marks also hs at_top is_mid.0

  new_is : Is new swept
  new_is = sets.plain is_mid.0 is_mid.1

  fresh_all : IsFresh cell after (kept_of o) swept
  fresh_all =
      fresh_again cell before after (node_at old) (kept_of o) None is_old.0 is_old.1.stands (kept.boundaries is_old.0 is_old.1) true swept
      (λ k is live. is_old.1.whole k live) (tops_repainted cell before after also hs old mid lists.nodes is_old None is_mid.0 is_mid.1.stands)

  marked_all : IsMarked swept
  marked_all =
      marked_again cell before after also hs old mid lists.nodes is_old is_old.0 is_old.1.stands (kept.marks is_old.0 is_old.1) at_top None is_mid.0 is_mid.1.stands
      (λ k is live. is_old.1.whole k live)

  fresh_top : IsRootFresh cell after o (root_tree new)
  fresh_top = subst (IsRootFresh cell after o) (sym (root_swept also hs mid new is_mid sets)) (at_root mid.root refl)
    where
      at_root : (h : Option Handle) → mid.root ≡ h → IsRootFresh cell after o (sweep paint_marks also hs at_top (root_tree mid))
      at_root None e = subst (λ f. IsRootFresh cell after o (sweep paint_marks also hs at_top f)) (sym (ap (root_below mid) e)) tt
      at_root (Some h) e =
          let root = root_is mid is_mid h e in
          let groups : IsRootRepainted cell before after (node_at old) old.root (sweep paint_marks also hs at_top (tree h root.value root.kids none)) =
          root_repainted cell before after also hs old mid lists.nodes is_old None h root.value root.kids root.stands (lists.root h e) in
          subst (λ f. IsRootFresh cell after o (sweep paint_marks also hs at_top f)) (sym root.is) (λ calm.
          let same = groups.0 calm in
          let was = root_is old is_old h same.0 in
          let was_calm : was.value.needs_paint ≡ false =
          read_at (λ (n : TreeNode RenderObject). n.value.needs_paint) (node_at old h) (record { parent = None; children = tops was.kids; value = was.value }) false was.stands.0 same.2 in
          let keeps : KeepsRoot cell before o (tree h was.value was.kids none) = subst (IsRootFresh cell before o) was.is kept.root was_calm in
          let e2 = root_stays cell before after (node_at old) old.root None h _ _ (tree h was.value was.kids none) was.stands refl groups calm in
          record { top = keeps.top ∙ ap (λ ps. Some ps) (sym e2); root = keeps.root ∙ ap (λ ps. Some (frame_layer (filled (kept_at o.wholes) ps))) (sym e2) })

  pub listed_kept : KeepsLayers cell after o new
  listed_kept = record {
    boundaries = λ f is. subst (IsFresh cell after (kept_of o)) (same_forest new swept f new_is is) fresh_all;
    root = fresh_top;
    marks = λ f is. subst IsMarked (same_forest new swept f new_is is) marked_all;
  }

-- ---- a tree with no node beside the root's

pub kept_whole : (cell : Size) (delegates : List Plug) (o : PaintOwner) (t : Tree RenderObject) → t.inactive ≡ [] → IsKept cell delegates o (root_tree t) → KeepsLayers cell delegates o t
kept_whole cell delegates o t alone kept = record {
  boundaries = λ f is. subst (IsFresh cell delegates (kept_of o)) (root_forest t f alone is) kept.boundaries;
  root = kept.root;
  marks = λ f is. subst IsMarked (root_forest t f alone is) kept.marks;
}

pub whole_kept : (cell : Size) (delegates : List Plug) (o : PaintOwner) (t : Tree RenderObject) → t.inactive ≡ [] → IsTree t → KeepsLayers cell delegates o t → IsKept cell delegates o (root_tree t)
whole_kept cell delegates o t alone is kept =
    let same = sym (root_forest t is.0 alone is.1) in
    record {
      boundaries = subst (IsFresh cell delegates (kept_of o)) same (kept.boundaries is.0 is.1);
      root = kept.root;
      marks = subst IsMarked same (kept.marks is.0 is.1);
    }

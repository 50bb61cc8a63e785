-- Where all is flagged that is painted otherwise than it was, what is kept is fresh again.
use Rattle.std.proofs.Common.{◌≡◌, Bool, true, false, Option, Some, None, List, refl, ap, sym, ◌∙◌, subst}
use Rattle.fx_handles.specs.declared.Handle.{Handle}
use Rattle.fx_geom.specs.declared.shapes.Size.{Size}
use Rattle.delegates.specs.Table.{Plug}
use Rattle.handle_shelf.specs.Shelf.{kept_at}
use Rattle.node_tree.specs.Forest.{TreeNode, tops, In}
use Rattle.node_tree.specs.Forest.Forest.{none, tree}
use Rattle.node_tree.specs.Tree.{Tree, node_at, IsTree}
use Rattle.tree_marks.specs.Marking.{at_top}
use Rattle.tree_marks.specs.Marks.{sweep}
use Rattle.render_tree.specs.Object.{RenderObject}
use Rattle.render_tree.specs.Marks.{paint_marks}
use Rattle.render_tree.specs.Marked.{SetsMarks}
use Rattle.render_tree.specs.Plain.{root_below, root_tree}
use Rattle.kept_layers.specs.KeptLayers.{IsFresh, filled}
use Rattle.kept_layers.specs.Repainted.{IsRootRepainted, FlagsChanges, ListsChanges}
use Rattle.kept_layers.proofs.Repainting.{read_at, fresh_again, root_repainted, root_stays}
use Rattle.kept_layers.proofs.RootTrees.{root_is, root_stands, repaints}
use Rattle.kept_layers.proofs.Changing.{delegates_list}
use Rattle.paint_owner.specs.PaintOwner.{PaintOwner, kept_of, frame_layer, KeepsRoot, IsRootFresh, IsKept}

module _ (cell : Size) (before after : List Plug) (o : PaintOwner) (old new : Tree RenderObject) (is_old : IsTree old) (is_new : IsTree new) (r : FlagsChanges cell before after old new)
    (kept : IsKept cell before o (root_tree old)) where
  fresh_boundaries : IsFresh cell after (kept_of o) (root_tree new)
  fresh_boundaries = at_root new.root refl
    where
      at_root : (h : Option Handle) → new.root ≡ h → IsFresh cell after (kept_of o) (root_tree new)
      at_root None e = subst (IsFresh cell after (kept_of o)) (sym (ap (root_below new) e)) tt
      at_root (Some h) e =
          let root = root_is new is_new h e in
          let groups : IsRootRepainted cell before after (node_at old) old.root (tree h root.value root.kids none) = subst (IsRootRepainted cell before after (node_at old) old.root) root.is r.groups in
          subst (IsFresh cell after (kept_of o)) (sym root.is)
          (fresh_again cell before after (node_at old) (kept_of o) None (root_tree old) (root_stands old is_old) kept.boundaries true (tree h root.value root.kids none)
          (λ k is live. r.inside k (subst (In k) (sym root.is) is) live) (root_repainted cell before after (node_at old) old.root h root.value root.kids groups))

  fresh_top : IsRootFresh cell after o (root_tree new)
  fresh_top = at_root new.root refl
    where
      at_root : (h : Option Handle) → new.root ≡ h → IsRootFresh cell after o (root_tree new)
      at_root None e = subst (IsRootFresh cell after o) (sym (ap (root_below new) e)) tt
      at_root (Some h) e =
          let root = root_is new is_new h e in
          let groups : IsRootRepainted cell before after (node_at old) old.root (tree h root.value root.kids none) = subst (IsRootRepainted cell before after (node_at old) old.root) root.is r.groups in
          subst (IsRootFresh cell after o) (sym root.is) (λ calm.
          let same = groups.0 calm in
          let was = root_is old is_old h same.0 in
          let was_calm : was.value.needs_paint ≡ false =
          read_at (λ (n : TreeNode RenderObject). n.value.needs_paint) (node_at old h) (record { parent = None; children = tops was.kids; value = was.value }) false was.stands.0 same.2 in
          let keeps : KeepsRoot cell before o (tree h was.value was.kids none) = subst (IsRootFresh cell before o) was.is kept.root was_calm in
          let e2 = root_stays cell before after (node_at old) old.root None h root.value root.kids (tree h was.value was.kids none) was.stands refl groups calm in
          record { top = keeps.top ∙ ap (λ ps. Some ps) (sym e2); root = keeps.root ∙ ap (λ ps. Some (frame_layer (filled (kept_at o.wholes) ps))) (sym e2) })

  pub kept_again : IsKept cell after o (root_tree new)
  kept_again = record { boundaries = fresh_boundaries; root = fresh_top; marks = r.marks }

-- marks leave a tree
pub marked_tree : (also : Bool) (hs : List Handle) (old new : Tree RenderObject) → IsTree old → SetsMarks paint_marks also hs old new → IsTree new
marked_tree also hs old new (f, is) sets = (sweep paint_marks also hs at_top f, sets.plain f is)

pub marked_kept : (cell : Size) (before after : List Plug) (o : PaintOwner) (also : Bool) (hs : List Handle) (old mid new : Tree RenderObject) → IsTree old → IsTree mid
    → ListsChanges cell before after also hs old mid → SetsMarks paint_marks also hs mid new → IsKept cell before o (root_tree old) → IsKept cell after o (root_tree new)
marked_kept cell before after o also hs old mid new is_old is_mid lists sets kept =
    kept_again cell before after o old new is_old (marked_tree also hs mid new is_mid sets) (repaints cell before after also hs old mid new is_old is_mid lists sets kept.marks) kept

-- marks alone
pub marks_keep : (cell : Size) (delegates : List Plug) (o : PaintOwner) (also : Bool) (hs : List Handle) (old new : Tree RenderObject) → IsTree old
    → SetsMarks paint_marks also hs old new → IsKept cell delegates o (root_tree old) → IsKept cell delegates o (root_tree new)
marks_keep cell delegates o also hs old new is sets kept =
    marked_kept cell delegates delegates o also hs old old new is is (delegates_list cell delegates delegates also hs old (λ k v at_k unlisted p. refl)) sets kept

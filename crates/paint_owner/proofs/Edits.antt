-- What is kept stays fresh where one node was written, and where delegates changed.
use Rattle.std.proofs.Common.{◌≡◌, ℕ, Bool, true, false, ◌||◌, Option, Some, None, IsSome, option_map, List, [], ◌∷◌, refl, ap, sym, ◌∙◌, subst, true≢false}
use Rattle.fx_handles.specs.declared.Handle.{Handle}
use Rattle.fx_handles.specs.HandleLaws.{same_self}
use Rattle.fx_geom.specs.declared.shapes.Size.{Size}
use Rattle.delegates.specs.Meaning.{Meaning}
use Rattle.delegates.specs.Table.{Plug, with_meaning}
use Rattle.node_tree.specs.Forest.{TreeNode, with_value_at, set_value}
use Rattle.node_tree.specs.Tree.{Tree, node_at, parent_at, IsNode, IsTree}
use Rattle.node_tree.proofs.ForestLemmas.{same_Some}
use Rattle.node_tree.proofs.TreeLemmas.{parent_lists}
use Rattle.tree_marks.specs.Marking.{at_top}
use Rattle.tree_marks.specs.Marks.{listed, sweep}
use Rattle.render_tree.specs.Calls.{MarksAt}
use Rattle.render_tree.specs.Edits.{Writes}
use Rattle.render_tree.specs.Object.{RenderObject}
use Rattle.render_tree.specs.Marks.{layout_marks, paint_marks}
use Rattle.render_tree.specs.Marked.{SetsMarks}
use Rattle.render_tree.specs.Plain.{root_tree}
use Rattle.render_tree.specs.Tree.{object_at}
use Rattle.render_tree.specs.Users.{uses}
use Rattle.kept_layers.specs.Unmarked.{placed_of, drawn_of, DrawsSame}
use Rattle.kept_layers.specs.Repainted.{ListsChanges}
use Rattle.paint_owner.specs.Changes.{SamePaintMarks}
use Rattle.paint_owner.specs.PaintOwner.{PaintOwner, IsKept}
use Rattle.paint_owner.proofs.Changes.{marked_kept}

own_listed : (h : Handle) → listed h (h ∷ []) ≡ true
own_listed h = ap (λ b. b || false) (same_self h)

pub written_tree : (old new : Tree RenderObject) (h : Handle) (w : RenderObject) → IsTree old → Writes old new h w → IsTree new
written_tree old new h w (f, is) writes = (set_value h w f, writes.plain f is)

pub laid_tree : (also : Bool) (hs : List Handle) (old new : Tree RenderObject) → IsTree old → SetsMarks layout_marks also hs old new → IsTree new
laid_tree also hs old new (f, is) sets = (sweep layout_marks also hs at_top f, sets.plain f is)

-- a live handle of a tree is live after one node was written
pub still_live : (old new : Tree RenderObject) (h : Handle) (w : RenderObject) → Writes old new h w → (k : Handle) → IsNode old k → IsNode new k
still_live old new h w writes k live = by_node (node_at old k) live (writes.writes.nodes k)
  where
    by_node : (n : Option (TreeNode RenderObject)) → IsSome n → node_at new k ≡ option_map (with_value_at h w k) n → IsNode new k
    by_node None e is = absurd cc
    by_node (Some n) e is = subst IsSome (sym is) refl

module _ (cell : Size) (delegates : List Plug) (o : PaintOwner) where
  -- the laws that the change lists what it changes
  pub record Listing : Type 0 where
    pub written : (also : Bool) (hs : List Handle) (old new : Tree RenderObject) (h : Handle) (v w : RenderObject)
        → IsTree old → object_at old h ≡ Some v → Writes old new h w → w.needs_paint ≡ v.needs_paint → w.paint_below ≡ v.paint_below
        → (listed h hs ≡ false → drawn_of w ≡ drawn_of v)
        → ((p : Handle) → parent_at old h ≡ Some p → listed p hs ≡ false → placed_of w ≡ placed_of v) → ListsChanges cell delegates delegates also hs old new
    pub layouts : (also laid_also : Bool) (hs laid : List Handle) (old new : Tree RenderObject)
        → IsTree old → SetsMarks layout_marks laid_also laid old new → ListsChanges cell delegates delegates also hs old new
    pub nothing : (also : Bool) (t : Tree RenderObject) → SetsMarks paint_marks also [] t t

  module _ (law : Listing) (old : Tree RenderObject) (is_old : IsTree old) (kept : IsKept cell delegates o (root_tree old)) where
    pub drawn_kept : (also : Bool) (mid new : Tree RenderObject) (h : Handle) (v w : RenderObject) → object_at old h ≡ Some v → Writes old mid h w → SamePaintMarks v w → placed_of w ≡ placed_of v
        → SetsMarks paint_marks also (h ∷ []) mid new → IsKept cell delegates o (root_tree new)
    drawn_kept also mid new h v w at_h writes marks placed sets =
        marked_kept cell delegates delegates o also (h ∷ []) old mid new is_old (written_tree old mid h w is_old writes)
        (law.written also (h ∷ []) old mid h v w is_old at_h writes marks.flag marks.mark (λ u. absurd (true≢false (sym (own_listed h) ∙ u))) (λ p up u. placed)) sets kept

    pub unread_kept : (new : Tree RenderObject) (h : Handle) (v w : RenderObject) → object_at old h ≡ Some v → Writes old new h w → SamePaintMarks v w → drawn_of w ≡ drawn_of v → placed_of w ≡ placed_of v
        → IsKept cell delegates o (root_tree new)
    unread_kept new h v w at_h writes marks drawn placed =
        marked_kept cell delegates delegates o false [] old new new is_old (written_tree old new h w is_old writes)
        (law.written false [] old new h v w is_old at_h writes marks.flag marks.mark (λ u. drawn) (λ p up u. placed)) (law.nothing false new) kept

    pub layouts_kept : (also : Bool) (hs : List Handle) (new : Tree RenderObject) → SetsMarks layout_marks also hs old new → IsKept cell delegates o (root_tree new)
    layouts_kept also hs new sets =
        marked_kept cell delegates delegates o false [] old new new is_old (laid_tree also hs old new is_old sets) (law.layouts false also [] hs old new is_old sets) (law.nothing false new) kept

    pub placed_kept : (mid new : Tree RenderObject) (h : Handle) (v w : RenderObject) → object_at old h ≡ Some v → Writes old mid h w → SamePaintMarks v w → drawn_of w ≡ drawn_of v
        → MarksAt paint_marks (parent_at old h) mid new → IsKept cell delegates o (root_tree new)
    placed_kept mid new h v w at_h writes marks drawn sets = by_parent (parent_at old h) refl sets
      where
        by_parent : (p : Option Handle) → parent_at old h ≡ p → MarksAt paint_marks p mid new → IsKept cell delegates o (root_tree new)
        by_parent None e is =
            subst (λ t. IsKept cell delegates o (root_tree t)) (sym is)
            (marked_kept cell delegates delegates o false [] old mid mid is_old (written_tree old mid h w is_old writes)
            (law.written false [] old mid h v w is_old at_h writes marks.flag marks.mark (λ u. drawn) (λ p up u. absurd (let both = sym e ∙ up in cc))) (law.nothing false mid) kept)
        by_parent (Some p) e is =
            let live = still_live old mid h w writes p (parent_lists old is_old.0 h p is_old.1 e).0 in
            marked_kept cell delegates delegates o false (p ∷ []) old mid new is_old (written_tree old mid h w is_old writes)
            (law.written false (p ∷ []) old mid h v w is_old at_h writes marks.flag marks.mark (λ u. drawn)
            (λ q up u. absurd (true≢false (sym (own_listed p) ∙ ap (λ x. listed x (p ∷ [])) (same_Some (sym e ∙ up)) ∙ u))))
            (is.0 live) kept

-- each user of a name was marked, and then the delegate of the name means something else
pub delegates_kept : (cell : Size) (delegates : List Plug) (name : List ℕ) (m : Option Meaning) (o : PaintOwner) (also : Bool) (hs : List Handle) (old new : Tree RenderObject)
    → ((also : Bool) (hs : List Handle) (t : Tree RenderObject)
    → ((k : Handle) (v : RenderObject) → object_at t k ≡ Some v → listed k hs ≡ false → DrawsSame cell delegates (with_meaning delegates name m) v)
    → ListsChanges cell delegates (with_meaning delegates name m) also hs t t)
    → ((t : Tree RenderObject) (k : Handle) (v : RenderObject) → object_at t k ≡ Some v → uses t name k ≡ false → DrawsSame cell delegates (with_meaning delegates name m) v)
    → IsTree old → ((k : Handle) → uses old name k ≡ true → listed k hs ≡ true) → SetsMarks paint_marks also hs old new
    → IsKept cell delegates o (root_tree old) → IsKept cell (with_meaning delegates name m) o (root_tree new)
delegates_kept cell delegates name m o also hs old new lists named is_old listed_all sets kept =
    marked_kept cell delegates (with_meaning delegates name m) o also hs old old new is_old is_old
    (lists also hs old (λ k v at_k unlisted. named old k v at_k (by_user k unlisted (uses old name k) refl))) sets kept
  where
    by_user : (k : Handle) → listed k hs ≡ false → (b : Bool) → uses old name k ≡ b → uses old name k ≡ false
    by_user k unlisted true e = absurd (true≢false (sym (listed_all k e) ∙ unlisted))
    by_user k unlisted false e = e

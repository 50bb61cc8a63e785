-- What a call changes that also sets marks: first the change, and then the marks that it asks for.
use Rattle.std.specs.Prelude.{◌≡◌, true, false, [], ◌∷◌, Option, Some, None}
use Rattle.fx_handles.specs.declared.Handle.{Handle}
use Rattle.node_tree.specs.Tree.{Tree, IsNode}
use Rattle.plain_tree.specs.declared.laid.Frame.{Frame}
use Rattle.tree_marks.specs.Marking.{Marking}
use Rattle.render_tree.specs.Object.{RenderObject}
use Rattle.render_tree.specs.Tree.{object_at}
use Rattle.render_tree.specs.Edits.{Writes, with_frame}
use Rattle.render_tree.specs.Marks.{layout_marks, paint_marks}
use Rattle.render_tree.specs.Marked.{SetsMarks}

-- one change, and then another
abbrev pub Then : (Tree RenderObject → Type 0) → (Tree RenderObject → Type 0) → Type 0
Then first second = (mid : Tree RenderObject) × first mid × second mid

-- the node of a handle, if one is given and is live, is marked
abbrev pub MarksAt : Marking RenderObject → Option Handle → Tree RenderObject → Tree RenderObject → Type 0
MarksAt m None old new = new ≡ old
MarksAt m (Some h) old new = (IsNode old h → SetsMarks m false (h ∷ []) old new) × ((IsNode old h → ⊥) → new ≡ old)

-- a node whose list of children changed, if one is given and is live, is marked for layout and for painting, each also with
-- "something below": what came below it may have brought marks along
abbrev pub MarksList : Option Handle → Tree RenderObject → Tree RenderObject → Type 0
MarksList None old new = new ≡ old
MarksList (Some p) old new =
    (IsNode old p → Then (SetsMarks layout_marks true (p ∷ []) old) (λ mid. SetsMarks paint_marks true (p ∷ []) mid new))
    × ((IsNode old p → ⊥) → new ≡ old)

-- the parent that is given, or the node itself, which becomes the root
abbrev pub parent_or : Option Handle → Handle → Option Handle
parent_or None h = Some h
parent_or (Some p) h = Some p

-- a part of a live node is set: where it is what it was nothing changes, else the node changes, and then these marks are set.
-- Where the handle isn't live nothing changes
pub record SetsPart (old new : Tree RenderObject) (h : Handle) (is_same : RenderObject → Type 0) (change : RenderObject → RenderObject)
    (marks : Tree RenderObject → Tree RenderObject → Type 0) : Type 0 where
  pub same : (o : RenderObject) → object_at old h ≡ Some o → is_same o → new ≡ old
  pub other : (o : RenderObject) → object_at old h ≡ Some o → (is_same o → ⊥) → Then (λ mid. Writes old mid h (change o)) (λ mid. marks mid new)
  pub absent : object_at old h ≡ None → new ≡ old

-- a node gets another frame, and is marked for painting; where it had this one nothing changes
pub record SetsFrame (old new : Tree RenderObject) (h : Handle) (o : RenderObject) (frame : Frame) : Type 0 where
  pub same : o.frame ≡ Some frame → new ≡ old
  pub other : (o.frame ≡ Some frame → ⊥) → Then (λ mid. Writes old mid h (with_frame frame o)) (λ mid. MarksAt paint_marks (Some h) mid new)

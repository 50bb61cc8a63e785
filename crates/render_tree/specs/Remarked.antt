-- Whether something was remarked of a node.
use Rattle.std.specs.Prelude.{◌≡◌, Bool, false, Some}
use Rattle.fx_handles.specs.declared.Handle.{Handle}
use Rattle.node_tree.specs.Tree.{Tree}
use Rattle.render_tree.specs.Edits.{no_notes}
use Rattle.render_tree.specs.Object.{RenderObject}
use Rattle.render_tree.specs.Tree.{object_at}

-- nothing is remarked of any node
abbrev pub HasNoNotes : Tree RenderObject → Type 0
HasNoNotes t = (h : Handle) (o : RenderObject) → object_at t h ≡ Some o → o.notes ≡ no_notes

-- unless something may have been
abbrev pub IsQuietUnless : Bool → Tree RenderObject → Type 0
IsQuietUnless remarked t = remarked ≡ false → HasNoNotes t

-- What a call that marks nodes changes.
use Rattle.std.specs.Prelude.{◌≡◌, Bool, List, None}
use Rattle.fx_handles.specs.declared.Handle.{Handle}
use Rattle.node_tree.specs.Forest.{Forest}
use Rattle.node_tree.specs.Tree.{Tree, node_at, Is}
use Rattle.node_tree.specs.Edits.{KeepsHandles}
use Rattle.tree_marks.specs.Marking.{Marking, at_top}
use Rattle.tree_marks.specs.Marks.{sweep}
use Rattle.tree_marks.specs.Ways.{OnlyMarks}
use Rattle.render_tree.specs.Object.{RenderObject}

-- the marks that changes of these nodes set, where "also" with "something below" at each of them, and nothing else
pub record SetsMarks (m : Marking RenderObject) (also : Bool) (hs : List Handle) (old new : Tree RenderObject) : Type 0 where
  pub plain : (f : Forest RenderObject) → Is old f → Is new (sweep m also hs at_top f)
  pub only : OnlyMarks m old new
  pub absent : (k : Handle) → node_at old k ≡ None → node_at new k ≡ None
  pub root : new.root ≡ old.root
  pub inactive : new.inactive ≡ old.inactive
  pub handles : KeepsHandles old.nodes new.nodes

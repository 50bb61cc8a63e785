-- A tree of which all is to be painted, as one is that was made just now.
use Rattle.std.specs.Prelude.{◌≡◌, true, Some}
use Rattle.fx_handles.specs.declared.Handle.{Handle}
use Rattle.node_tree.specs.Tree.{Tree}
use Rattle.render_tree.specs.Object.{RenderObject}
use Rattle.render_tree.specs.Tree.{object_at}

-- every node has the flag for painting, and the mark that something below it may have it
abbrev pub AllDue : Tree RenderObject → Type 0
AllDue t = (k : Handle) (o : RenderObject) → object_at t k ≡ Some o → (o.needs_paint ≡ true) × (o.paint_below ≡ true)

-- Who is listed where a course ends.
use Rattle.std.specs.Prelude.{ℕ, ◌+◌, ◌≤◌, List, length}
use Rattle.fx_handles.specs.declared.Handle.{Handle}
use Rattle.node_tree.specs.Tree.{Tree}
use Rattle.render_tree.specs.Object.{RenderObject}
use Rattle.layout_rules.specs.Painting.{Leaves}
use Rattle.layout_rules.specs.Serving.{ListsOne}

-- a node that doesn't look as before is listed, once for its rule that was run, and no other is
pub record ListsChange (old new : Tree RenderObject) (h : Handle) (before after : List Handle) (start stop : ℕ) : Type 0 where
  pub paints : Leaves old new h before after
  pub few : length after + start ≤ length before + stop
  pub lists : ListsOne h before after start stop

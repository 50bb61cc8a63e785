-- Trees in which nothing differs, and where a root stands.
use Rattle.std.specs.Prelude.{◌≡◌, true, Some}
use Rattle.fx_geom.specs.Offset.{origin}
use Rattle.fx_handles.specs.declared.Handle.{Handle}
use Rattle.node_tree.specs.Edits.{KeepsHandles}
use Rattle.node_tree.specs.Tree.{Tree, node_at}
use Rattle.render_tree.specs.declared.layout_state.LayoutState.{LayoutState}
use Rattle.render_tree.specs.Object.{RenderObject}

-- every node is as before
pub record Stays (old new : Tree RenderObject) : Type 0 where
  pub nodes : (k : Handle) → node_at new k ≡ node_at old k
  pub root : new.root ≡ old.root
  pub inactive : new.inactive ≡ old.inactive
  pub handles : KeepsHandles old.nodes new.nodes

-- the state of a root that is in the window, at its start
abbrev pub placed_state : LayoutState → LayoutState
placed_state u = record u { shown = true; offset = Some origin }

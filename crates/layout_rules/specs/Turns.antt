-- What becomes of the subtree of a node, as a layout sees it, where states are written.
use Rattle.std.specs.Prelude.{◌≡◌, ℕ, zero, suc}
use Rattle.fx_handles.specs.declared.Handle.{Handle}
use Rattle.node_tree.specs.Edits.{KeepsHandles}
use Rattle.node_tree.specs.Forest.{Forest, In}
use Rattle.node_tree.specs.Forest.Forest.{none, tree}
use Rattle.node_tree.specs.Tree.{Tree, parent_at}
use Rattle.render_tree.specs.declared.layout_state.LayoutState.{LayoutState}
use Rattle.render_tree.specs.Object.{RenderObject}
use Rattle.layout_walk.specs.Node.{LayoutNode}
use Rattle.layout_rules.specs.Nodes.{seen_at, SeenAt}

-- a subtree becomes another one; what stands elsewhere is, to a layout, as before
pub record Turns (old new : Tree RenderObject) (h : Handle) (s : Forest LayoutNode) (after : Forest LayoutNode) : Type 0 where
  pub stands : SeenAt new h after
  pub parent : parent_at new h ≡ parent_at old h
  pub others : (k : Handle) → (In k s → ⊥) → seen_at new k ≡ seen_at old k
  pub root : new.root ≡ old.root
  pub inactive : new.inactive ≡ old.inactive
  pub handles : KeepsHandles old.nodes new.nodes

-- a node with another state
abbrev pub node_with : LayoutState → LayoutNode → LayoutNode
node_with u v = record v {
  scroll = u.scroll;
  frame = u.frame;
  notes = u.notes;
  plugged = u.plugged;
  scrolled = u.scrolled;
  offset = u.offset;
  shown = u.shown;
  needs_layout = u.needs_layout;
  layout_below = u.layout_below;
}

-- tree number i gets another value and other trees below it
abbrev pub put : {T : Type 0} → ℕ → T → Forest T → Forest T → Forest T
put i w below none = none
put zero w below (tree h v kids rest) = tree h w below rest
put (suc i) w below (tree h v kids rest) = tree h v kids (put i w below rest)

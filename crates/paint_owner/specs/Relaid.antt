-- A tree that was laid out again, as painting sees it.
use Rattle.std.specs.Prelude.{◌≡◌, Some, List}
use Rattle.fx_handles.specs.declared.Handle.{Handle}
use Rattle.fx_handles.specs.Handle.{times, Among}
use Rattle.node_tree.specs.Children.{MapsValues}
use Rattle.node_tree.specs.Tree.{Tree, children_at}
use Rattle.render_tree.specs.declared.layout_state.LayoutState.{LayoutState}
use Rattle.render_tree.specs.LayoutState.{with_layout_state}
use Rattle.render_tree.specs.Object.{RenderObject}
use Rattle.render_tree.specs.Tree.{object_at}

-- a child stands where it stood, in the window or not
pub record StandsSame (u : LayoutState) (o : RenderObject) : Type 0 where
  pub offset : u.offset ≡ o.offset
  pub shown : u.shown ≡ o.shown

-- every node is as before but for what a layout left of it; a node that isn't among the changed ones has the frame that it had, and its
-- children stand where they stood
pub record IsRelaid (old new : Tree RenderObject) (changed : List Handle) : Type 0 where
  pub left : Handle → LayoutState
  pub nodes : MapsValues (λ k o. with_layout_state (left k) o) old new
  pub root : new.root ≡ old.root
  pub inactive : new.inactive ≡ old.inactive
  pub frames : (k : Handle) (o : RenderObject) → object_at old k ≡ Some o → times k changed ≡ 0 → (left k).frame ≡ o.frame
  pub places : (k c : Handle) (o : RenderObject) → object_at old c ≡ Some o → Among c (children_at old k) → times k changed ≡ 0 → StandsSame (left c) o

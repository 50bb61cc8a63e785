-- What is known of the last frame, and what a layout leaves, for painting.
use Rattle.std.specs.Prelude.{◌≡◌, Some, List}
use Rattle.delegates.specs.Table.{Plug}
use Rattle.fx_handles.specs.declared.Handle.{Handle}
use Rattle.node_tree.specs.Tree.{Tree}
use Rattle.plain_tree.specs.Laid.{Laid}
use Rattle.layout_owner.specs.Roots.{IsPlaced, top_render}
use Rattle.layout_rules.specs.Nodes.{layout_nodes}
use Rattle.layout_rules.specs.Painting.{KeepsRest}
use Rattle.render_tree.specs.Object.{RenderObject}
use Rattle.render_tree.specs.Plain.{laid_of, renders_of, root_tree}
use Rattle.work_sets.specs.Before.{Before}
use Rattle.work_sets.specs.Paint.{asks_idly}
use Rattle.counted_work.specs.Caused.{FramesAgree}
use Rattle.layout_owner.specs.Left.{AreLeft}
use Rattle.counted_work.specs.Painted.{RootFlagsAsked}
use Rattle.counted_work.specs.Shows.{ArePutSo, LookOtherwise}

-- between two frames: the render tree and the laid tree of the last one, by these delegates, the frames that layouts left; and where a
-- boundary that it painted has a paint flag, its group has a node of a delegate that a line touched
pub record PaintsAreCaused (before : Before) (last : Laid) (then : List Plug) (t : Tree RenderObject) : Type 0 where
  pub tree : before.tree ≡ top_render (renders_of (root_tree t))
  pub frames : FramesAgree before.frames t
  pub placed : IsPlaced (root_tree t)
  pub shown : laid_of (root_tree t) ≡ Some last
  pub put : ArePutSo then (root_tree t)
  pub flags : RootFlagsAsked (asks_idly before) (root_tree t)

-- a layout by these delegates leaves this laid tree; what is out of the window stays, and the listed nodes, all of them, look otherwise
pub record LayoutLeaves (now_laid : Laid) (now : List Plug) (changed : List Handle) (brought laid : Tree RenderObject) : Type 0 where
  pub rest : KeepsRest brought laid
  pub otherwise : LookOtherwise brought laid changed
  pub left : AreLeft (layout_nodes (root_tree brought)) (layout_nodes (root_tree laid))
  pub placed : IsPlaced (root_tree laid)
  pub shown : laid_of (root_tree laid) ≡ Some now_laid
  pub put : ArePutSo now (root_tree laid)

-- What a frame counts.
use Rattle.std.specs.Prelude.{◌≡◌, ℕ, ◌+◌, ◌≤◌, false, Some}
use Rattle.fx_geom.specs.declared.shapes.Size.{Size}
use Rattle.node_tree.specs.Tree.{Tree}
use Rattle.plain_tree.specs.Render.{Render, no_renders, more_renders}
use Rattle.layout_form.specs.Layout.{lay_view}
use Rattle.layout_form.specs.Object.{Setting}
use Rattle.layout_walk.specs.Flush.{ticks}
use Rattle.layout_walk.specs.Here.{HereAll}
use Rattle.layout_walk.specs.Rules.{parts_of}
use Rattle.layout_walk.specs.Work.{due_count}
use Rattle.layout_rules.specs.Nodes.{layout_nodes}
use Rattle.layout_rules.specs.Painting.{PaintsAnew}
use Rattle.layout_owner.specs.Calm.{IsLaidCalm}
use Rattle.layout_owner.specs.Left.{AreLeft}
use Rattle.layout_owner.specs.Roots.{rooted, view_asks, IsAskedAs, IsPlaced}
use Rattle.kept_layers.specs.Steps.{painted_count}
use Rattle.paint_owner.specs.Finding.{root_flag}
use Rattle.paint_owner.specs.Settled.{IsPaintedCalm, Settles}
use Rattle.render_tree.specs.Object.{RenderObject}
use Rattle.render_tree.specs.Plain.{laid_of, renders_of, root_tree}
use Rattle.render_sync.specs.Synced.{Synced}
use Rattle.screen_owner.specs.Changes.{AreKindsSo}
use Rattle.screen_owner.specs.Standing.{StandsAlone}

-- after a frame in a view nothing in the window has to be laid out, and the root was asked to be as large as the view
pub record IsLaidIn (view : Size) (t : Tree RenderObject) : Type 0 where
  pub asked : IsAskedAs view (root_tree t)
  pub none_due : due_count (rooted (root_tree t)) ≡ 0

-- The nodes are brought to those of a build, which are RepaintBoundaries where those of the last frame with their numbers are; before and
-- after it they stand alone.
pub record Brings (nodes brought : Tree RenderObject) (top : Render) : Type 0 where
  pub before : StandsAlone nodes
  pub kinds : AreKindsSo nodes top
  pub synced : Synced nodes brought top
  pub after : StandsAlone brought
  pub renders : renders_of (root_tree brought) ≡ more_renders top no_renders

-- The nodes are brought to those of a build, laid out, and painted. The layout is full layout of the build. It counts at most the rules
-- that full layout runs where a node is due, or is asked in other bounds, and so at most the nodes that are due; it leaves the root in the
-- window and no node there that has to be laid out, each node there with a frame and a place, what is out of it as it was, each with its
-- children in agreement, and marks for painting what doesn't look as before. Painting counts the painted nodes of what is flagged then,
-- and takes their flags and marks away.
pub record FrameSteps (s : Setting) (view : Size) (nodes : Tree RenderObject) (top : Render) (now : Tree RenderObject) (layouts_before layouts_after paints_before paints_after : ℕ) : Type 0 where
  pub brought : Tree RenderObject
  pub brings : Brings nodes brought top
  pub ticks : layouts_after ≤ layouts_before + ticks (parts_of s) false (view_asks view) (rooted (root_tree brought))
  pub due : IsAskedAs view (root_tree brought) → layouts_after ≤ layouts_before + due_count (rooted (root_tree brought))
  pub laid : Tree RenderObject
  pub lays : PaintsAnew brought laid
  pub stands : StandsAlone laid
  pub placed : IsPlaced (root_tree laid)
  pub calm : IsLaidCalm (root_tree laid)
  pub left : AreLeft (layout_nodes (root_tree brought)) (layout_nodes (root_tree laid))
  pub here : HereAll (parts_of s) (layout_nodes (root_tree laid))
  pub shown : laid_of (root_tree laid) ≡ Some (lay_view s top view)
  pub paints : paints_after ≡ paints_before + painted_count (root_flag (root_tree laid)) (root_tree laid)
  pub settles : Settles laid now
  pub painted : IsPaintedCalm (root_tree now)

-- such steps, of which it is known to which nodes they were brought
pub record StepsOver (s : Setting) (view : Size) (nodes brought : Tree RenderObject) (top : Render) (now : Tree RenderObject) (layouts_before layouts_after paints_before paints_after : ℕ) : Type 0 where
  pub steps : FrameSteps s view nodes top now layouts_before layouts_after paints_before paints_after
  pub same : steps.brought ≡ brought

-- and of which it is known that a layout finds the nodes as they were
pub record StepsInPlace (s : Setting) (view : Size) (nodes : Tree RenderObject) (top : Render) (now : Tree RenderObject) (layouts_before layouts_after paints_before paints_after : ℕ) : Type 0 where
  pub steps : FrameSteps s view nodes top now layouts_before layouts_after paints_before paints_after
  pub same : layout_nodes (root_tree steps.brought) ≡ layout_nodes (root_tree nodes)

-- What an arena of render nodes has of frames and flags, against what is known of the last frame.
use Rattle.std.specs.Prelude.{◌≡◌, ℕ, Some, None}
use Rattle.fx_handles.specs.declared.Handle.{Handle}
use Rattle.node_tree.specs.Tree.{Tree}
use Rattle.plain_tree.specs.Render.{Render}
use Rattle.layout_owner.specs.Roots.{top_render}
use Rattle.render_tree.specs.Object.{RenderObject}
use Rattle.render_tree.specs.Plain.{renders_of, root_tree}
use Rattle.render_tree.specs.Tree.{object_at}
use Rattle.render_sync.specs.Numbering.{number_at}
use Rattle.render_sync.specs.Renders.{EachNumber}
use Rattle.work_sets.specs.Before.{Before, Frames}
use Rattle.work_sets.specs.Layout.{idle_judge}
use Rattle.counted_work.specs.Inside.{RootFlagsInside}

-- each node has the frame that the layouts so far left of its number
abbrev pub FramesAgree : Frames → Tree RenderObject → Type 0
FramesAgree frames t = (k : Handle) (o : RenderObject) → object_at t k ≡ Some o → o.frame ≡ frames o.number

-- a number that no node has was never laid out
abbrev pub IsNewUnlaid : Frames → Tree RenderObject → ℕ → Type 0
IsNewUnlaid frames t number = ((k : Handle) → number_at t k ≡ Some number → ⊥) → frames number ≡ None

-- so it is of the numbers of a build
abbrev pub NewAreUnlaid : Frames → Tree RenderObject → Render → Type 0
NewAreUnlaid frames t top = EachNumber (IsNewUnlaid frames t) top

-- between two frames: the arena has the render tree of the last frame, and the frames that layouts left; and where a node in the window
-- has to be laid out, a line touched something in whose region it is
pub record LayoutsAreCaused (before : Before) (t : Tree RenderObject) : Type 0 where
  pub tree : before.tree ≡ top_render (renders_of (root_tree t))
  pub frames : FramesAgree before.frames t
  pub flags : RootFlagsInside (idle_judge before) (root_tree t)

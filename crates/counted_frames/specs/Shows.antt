-- What a frame of a session does to the render nodes where lazy lists wait for their items, and what each frame may count.
use Rattle.std.specs.Prelude.{◌≡◌, ℕ, ◌+◌, ◌*◌, ◌<◌, ◌≤◌, ◌⊎◌, Some}
use Rattle.node_tree.specs.Tree.{Tree}
use Rattle.plain_tree.specs.Offsets.{corrected}
use Rattle.plain_tree.specs.PlainNode.{PlainNode}
use Rattle.plain_tree.specs.Laws.{AllDiffer, render_numbers_of}
use Rattle.plain_tree.specs.Render.{no_renders, more_renders}
use Rattle.build_form.specs.FullBuild.{Built, failed, built}
use Rattle.layout_form.specs.Object.{setting_of}
use Rattle.script_lines.specs.declared.command.Command.{Command}
use Rattle.session_form.specs.Framing.{screen_of, laid_of}
use Rattle.session_form.specs.Outcome.{state_after}
use Rattle.session_form.specs.Program.{scale_of}
use Rattle.session_form.specs.State.{SessionState}
use Rattle.session_form.specs.Step.{step, frames_of}
use Rattle.kept_layouts.specs.Items.{all_without_items}
use Rattle.layout_owner.specs.Roots.{IsAskedAs, top_render}
use Rattle.render_tree.specs.Object.{RenderObject}
use Rattle.render_tree.specs.Plain.{renders_of, root_tree}
use Rattle.render_sync.specs.Renders.{EachNumber}
use Rattle.work_sets.specs.Before.{Frames}
use Rattle.work_sets.specs.Work.{first_made, made, render_root, before, frames_then, frame_work}
use Rattle.counted_work.specs.Known.{WorkIsCaused, IsThereOrFree, FrameShows}
use Rattle.counted_work.specs.Windows.{WindowsStay}
use Rattle.frame_owner.specs.Working.{LaysLists, PhasedSteps}

-- a frame of the tree that a build gave in a state, in both phases of the build
pub record PhasedShows (s : SessionState) (tree : PlainNode) (next : ℕ) (old new : Tree RenderObject) (layouts_before layouts_after paints_before paints_after : ℕ) : Type 0 where
  pub steps : PhasedSteps (setting_of (scale_of s.program) s.delegates) s.view old (render_root tree) new layouts_before layouts_after paints_before paints_after
  pub asked : IsAskedAs s.view (root_tree new)
  pub drawn : top_render (renders_of (root_tree new)) ≡ Some (render_root (corrected (laid_of (screen_of s) tree) tree))
  pub numbers : EachNumber (IsThereOrFree old s.next) (render_root tree)
  pub numbered : EachNumber (λ number. number < next) (render_root tree)
  pub grows : s.next ≤ next
  -- lines and builds leave it to a number whether its node is a Viewport
  pub windows : (frames : Frames) → WindowsStay (before frames s) (render_root tree)
  -- programs of the first version have no lazy lists
  pub later : s.program.version ≡ 1 → ⊥

-- a frame by what its build gave: at once, or in both phases; of a fault nothing is said here
abbrev pub FrameGoesOn : Built → SessionState → Tree RenderObject → Tree RenderObject → ℕ → ℕ → ℕ → ℕ → Type 0
FrameGoesOn (failed fault) s old new layouts_before layouts_after paints_before paints_after = ⊥
FrameGoesOn (built tree next) s old new layouts_before layouts_after paints_before paints_after =
    FrameShows s tree next old new layouts_before layouts_after paints_before paints_after
    ⊎ PhasedShows s tree next old new layouts_before layouts_after paints_before paints_after

-- A line leaves it known, of the state after it and of the frames that layouts left by then, where flags have causes. Where it is a frame
-- it counts no more than the frame's work; any other line counts none.
pub record FrameKeepsOn (frames : Frames) (s : SessionState) (command : Command) (t : Tree RenderObject) (layouts_before layouts_after paints_before paints_after : ℕ) : Type 0 where
  pub caused : WorkIsCaused (frames_then (state_after s (step s command)).shown frames) (state_after s (step s command)) t
  pub layouts : layouts_after ≤ layouts_before + frames_of command * (frame_work frames s).layouts
  pub paints : paints_after ≤ paints_before + frames_of command * (frame_work frames s).paints

-- a frame whose second phase had a fault: the lists of the first phase's tree were laid out
pub record FaultShows (s : SessionState) (old : Tree RenderObject) (layouts_before layouts_after : ℕ) : Type 0 where
  pub tree : PlainNode
  pub is : made s ≡ first_made tree
  pub lists : LaysLists (setting_of (scale_of s.program) s.delegates) s.view old layouts_before layouts_after
  pub outer : all_without_items (renders_of (root_tree lists.mid)) ≡ all_without_items (more_renders (render_root tree) no_renders)
  pub numbers : EachNumber (IsThereOrFree old s.next) (render_root tree)
  pub differ : AllDiffer (render_numbers_of (render_root tree))
  pub windows : (frames : Frames) → WindowsStay (before frames s) (render_root tree)

-- what was laid out up to a fault
abbrev pub FrameFaults : SessionState → Tree RenderObject → ℕ → ℕ → Type 0
FrameFaults s old layouts_before layouts_after = (layouts_after ≡ layouts_before) ⊎ FaultShows s old layouts_before layouts_after

-- What is known between two lines of a session of the frames that layouts left, and of flags; and what a line may count.
use Rattle.std.specs.Prelude.{◌≡◌, ℕ, ◌+◌, ◌*◌, ◌<◌, ◌≤◌, ◌⊎◌, Bool, true, false, Option, Some, None, option_map, List, [], ◌∷◌, ◌++◌, length}
use Rattle.delegates.specs.Meaning.{Meaning}
use Rattle.delegates.specs.Table.{with_meaning}
use Rattle.fx_geom.specs.declared.shapes.Size.{Size}
use Rattle.fx_handles.specs.declared.Handle.{Handle}
use Rattle.node_tree.specs.Tree.{Tree}
use Rattle.plain_tree.specs.Offsets.{corrected}
use Rattle.plain_tree.specs.PlainNode.{PlainNode}
use Rattle.build_form.specs.FullBuild.{Built, failed, built}
use Rattle.layout_form.specs.Object.{setting_of}
use Rattle.script_lines.specs.declared.command.Command.{Command}
use Rattle.script_lines.specs.declared.command.Command.TheVariants as command
use Rattle.session_form.specs.Changing.{scrolled_to}
use Rattle.session_form.specs.Framing.{screen_of, laid_of}
use Rattle.session_form.specs.Outcome.{Outcome, quietly, state_after}
use Rattle.session_form.specs.Program.{scale_of}
use Rattle.session_form.specs.Seeing.{view_in}
use Rattle.session_form.specs.State.{SessionState, Shown, delegate}
use Rattle.session_form.specs.Step.{step, frames_of}
use Rattle.layout_owner.specs.Roots.{IsAskedAs, top_render}
use Rattle.render_tree.specs.Object.{RenderObject}
use Rattle.render_tree.specs.Plain.{renders_of, root_tree}
use Rattle.render_sync.specs.Numbering.{number_at}
use Rattle.render_sync.specs.Renders.{EachNumber}
use Rattle.screen_owner.specs.Changes.{MarksScrolled, MarksUsers}
use Rattle.screen_owner.specs.Standing.{StandsAlone}
use Rattle.screen_owner.specs.Steps.{FrameSteps}
use Rattle.work_sets.specs.Before.{Frames}
use Rattle.work_sets.specs.Work.{render_root, before, frames_then, layout_region, paint_region}
use Rattle.counted_work.specs.Caused.{LayoutsAreCaused}
use Rattle.counted_work.specs.Drawn.{PaintsAreCaused}
use Rattle.counted_work.specs.Shows.{PluggedAsBefore}
use Rattle.counted_work.specs.Windows.{WindowsStay}

-- before any layout
abbrev pub no_frames : Frames
no_frames number = None

-- layouts so far left these frames, and flags for layout have causes
pub record LayoutsAreKnown (frames : Frames) (s : SessionState) (t : Tree RenderObject) : Type 0 where
  pub caused : LayoutsAreCaused (before frames s) t
  -- a root that needn't be laid out was asked to be as large as the view of the last frame
  pub asked : (view : Size) → view_in s.shown ≡ Some view → IsAskedAs view (root_tree t)
  -- the last frame's layout is one of them
  pub with_last : (number : ℕ) → frames_then s.shown frames number ≡ frames number
  -- a number that no node has had yet was never laid out
  pub free_unlaid : (number : ℕ) → s.next ≤ number → frames number ≡ None

-- what the last frame painted is known, and flags for painting have causes
pub record PaintsAreKnown (frames : Frames) (s : SessionState) (t : Tree RenderObject) : Type 0 where
  -- before the first frame there is no tree
  pub none_shown : s.shown ≡ None → (before frames s).tree ≡ None
  pub caused : (last : Shown) → s.shown ≡ Some last → PaintsAreCaused (before frames s) last.laid last.delegates t
  pub plugged : (last : Shown) → s.shown ≡ Some last → PluggedAsBefore s.touched last.delegates s.delegates

-- what is known of the render nodes of a session in a state
pub record WorkIsCaused (frames : Frames) (s : SessionState) (t : Tree RenderObject) : Type 0 where
  pub layouts : LayoutsAreKnown frames s t
  pub paints : PaintsAreKnown frames s t

-- A line leaves it known, of the state after it and of the frames that layouts left by then. Where it is a frame it counts no more layouts
-- than the layout region of this frame has nodes, and no more paints than its paint region; any other line counts none.
pub record WorkGoesOn (frames : Frames) (s : SessionState) (command : Command) (t : Tree RenderObject) (layouts_before layouts_after paints_before paints_after : ℕ) : Type 0 where
  pub caused : WorkIsCaused (frames_then (state_after s (step s command)).shown frames) (state_after s (step s command)) t
  pub layouts : layouts_after ≤ layouts_before + frames_of command * length (layout_region frames s)
  pub paints : paints_after ≤ paints_before + frames_of command * length (paint_region frames s)

-- ---- what lines and frames do to the render nodes

-- a line that is no frame, and that touches nothing
abbrev pub touches_nothing : Command → Bool
touches_nothing command.Frame = false
touches_nothing (command.At time) = true
touches_nothing (command.Set node field value) = true
touches_nothing (command.Root json) = true
touches_nothing (command.Resize w h) = true
touches_nothing (command.Scroll node by) = false
touches_nothing (command.Down pointer x y) = true
touches_nothing (command.Move pointer x y) = true
touches_nothing (command.Up pointer) = true
touches_nothing (command.Cancel pointer) = true
touches_nothing (command.Hit x y) = true
touches_nothing command.Semantics = true
touches_nothing (command.Act node action) = true
touches_nothing (command.Delegate name field n) = false
touches_nothing (command.Unplug name) = false
touches_nothing command.States = true

-- the tree of a state is that of these render nodes
abbrev pub IsDrawn : SessionState → Tree RenderObject → Type 0
IsDrawn s t = option_map render_root s.tree ≡ top_render (renders_of (root_tree t))

-- `scroll` is done, and its Viewport is scrolled and marked
pub record ScrollMarks (number : ℕ) (o : Outcome) (s : SessionState) (old new : Tree RenderObject) : Type 0 where
  pub whole : StandsAlone old
  pub to : ℕ
  pub is : o ≡ quietly (scrolled_to number to s)
  pub scroll : ℕ
  pub marks : MarksScrolled number scroll old new

-- it is so, or `scroll` leaves the render nodes as they are
abbrev pub ScrollGoes : ℕ → Outcome → SessionState → Tree RenderObject → Tree RenderObject → Type 0
ScrollGoes number o s old new = (new ≡ old) ⊎ ScrollMarks number o s old new

-- the state after a delegate means something else, or is unplugged
abbrev pub with_delegate : List ℕ → Option Meaning → SessionState → SessionState
with_delegate name m s = record s { delegates = with_meaning s.delegates name m; touched = s.touched ++ delegate name ∷ [] }

-- a line of a delegate is done, and the users of the delegate are marked
pub record DelegateMarks (name : List ℕ) (o : Outcome) (s : SessionState) (old new : Tree RenderObject) : Type 0 where
  pub whole : StandsAlone old
  pub means : Option Meaning
  pub is : o ≡ quietly (with_delegate name means s)
  pub marks : MarksUsers name old new

-- it is so, or the line leaves the render nodes as they are
abbrev pub DelegateGoes : List ℕ → Outcome → SessionState → Tree RenderObject → Tree RenderObject → Type 0
DelegateGoes name o s old new = (new ≡ old) ⊎ DelegateMarks name o s old new

-- a number of a build is one that a node had before, or was free
abbrev pub IsThereOrFree : Tree RenderObject → ℕ → ℕ → Type 0
IsThereOrFree t next number = ((k : Handle) × (number_at t k ≡ Some number)) ⊎ (next ≤ number)

-- a frame of the tree that a build gave in a state: the render nodes are brought to those of the tree, laid out and painted
pub record FrameShows (s : SessionState) (made : PlainNode) (next : ℕ) (old new : Tree RenderObject) (layouts_before layouts_after paints_before paints_after : ℕ) : Type 0 where
  pub steps : FrameSteps (setting_of (scale_of s.program) s.delegates) s.view old (render_root made) new layouts_before layouts_after paints_before paints_after
  pub asked : IsAskedAs s.view (root_tree new)
  pub drawn : top_render (renders_of (root_tree new)) ≡ Some (render_root (corrected (laid_of (screen_of s) made) made))
  pub numbers : EachNumber (IsThereOrFree old s.next) (render_root made)
  pub numbered : EachNumber (λ number. number < next) (render_root made)
  pub grows : s.next ≤ next
  -- lines and builds leave it to a number whether its node is a Viewport
  pub windows : (frames : Frames) → WindowsStay (before frames s) (render_root made)

-- a frame by what its build gave: where it has a fault the render nodes stay, and nothing is counted
abbrev pub FrameGoes : Built → SessionState → Tree RenderObject → Tree RenderObject → ℕ → ℕ → ℕ → ℕ → Type 0
FrameGoes (failed fault) s old new layouts_before layouts_after paints_before paints_after =
    (new ≡ old) × (layouts_after ≡ layouts_before) × (paints_after ≡ paints_before)
FrameGoes (built made next) s old new layouts_before layouts_after paints_before paints_after =
    FrameShows s made next old new layouts_before layouts_after paints_before paints_after

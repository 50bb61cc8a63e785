-- What is known of the frames that layouts left in a session, and of its flags; and what a command may count.
use Rattle.std.specs.Prelude.{ℕ, ◌+◌, ◌*◌, ◌≤◌}
use Rattle.node_tree.specs.Tree.{Tree}
use Rattle.render_tree.specs.Object.{RenderObject}
use Rattle.script_lines.specs.declared.command.Command.{Command}
use Rattle.session_form.specs.Outcome.{state_after}
use Rattle.session_form.specs.State.{SessionState}
use Rattle.session_form.specs.Step.{step, frames_of}
use Rattle.work_sets.specs.Before.{Frames}
use Rattle.work_sets.specs.Work.{frame_work, frames_then}
use Rattle.versioned_kinds.specs.Versions.{StateKeepsToVersion}
use Rattle.counted_work.specs.Known.{WorkIsCaused}
use Rattle.frame_session.specs.Ending.{UnlessFaulted}
use Rattle.frame_session.specs.declared.session.Session.{Session}

-- layouts so far left these frames, and what is flagged of these render nodes has a cause; no kind of the state came later than its
-- program's version, so that in version 1 no lazy list waits for a first layout
pub record StateIsCaused (frames : Frames) (s : SessionState) (t : Tree RenderObject) : Type 0 where
  pub work : WorkIsCaused frames s t
  pub versions : StateKeepsToVersion s

-- it is so of a session, in a state that it stands for
abbrev pub IsCaused : {V : Type 0} {D : V → Type 0} → Frames → SessionState → Session V D → Type 0
IsCaused frames s session = StateIsCaused frames s session.kept.held.owner.screen.nodes

-- A command in that state, which left these render nodes: unless it had a fault, which ends the session, what was known is known of the
-- state after it and of the frames that layouts left by then. It counts no more layouts and paints than the work of a frame in that state,
-- where it is a frame, also one that has a fault; any other command counts none.
pub record NodesGoOn (frames : Frames) (s : SessionState) (command : Command) (t : Tree RenderObject) (layouts_before layouts_after paints_before paints_after : ℕ) : Type 0 where
  pub caused : UnlessFaulted (step s command) (WorkIsCaused (frames_then (state_after s (step s command)).shown frames) (state_after s (step s command)) t)
  pub layouts : layouts_after ≤ layouts_before + frames_of command * (frame_work frames s).layouts
  pub paints : paints_after ≤ paints_before + frames_of command * (frame_work frames s).paints

-- and the state after it keeps to the version too
pub record StateGoesOn (frames : Frames) (s : SessionState) (command : Command) (t : Tree RenderObject) (layouts_before layouts_after paints_before paints_after : ℕ) : Type 0 where
  pub nodes : NodesGoOn frames s command t layouts_before layouts_after paints_before paints_after
  pub versions : StateKeepsToVersion (state_after s (step s command))

-- the same of the session that it came to
abbrev pub GoesOn : {V : Type 0} {D : V → Type 0} → Frames → SessionState → Command → Session V D → ℕ → ℕ → ℕ → ℕ → Type 0
GoesOn frames s command session = StateGoesOn frames s command session.kept.held.owner.screen.nodes

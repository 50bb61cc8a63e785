-- What is known of the frames that layouts left in a run, and of flags; and what a script line may count.
use Rattle.std.specs.Prelude.{ℕ, ◌+◌, ◌*◌, ◌≤◌}
use Rattle.script_lines.specs.declared.entry.Entry.{Entry}
use Rattle.script_lines.specs.declared.entry.Entry.TheVariants as entry
use Rattle.session_form.specs.State.{SessionState}
use Rattle.session_form.specs.Step.{frames_of}
use Rattle.work_sets.specs.Before.{Frames}
use Rattle.work_sets.specs.Work.{frames_then, frame_work}
use Rattle.frame_session.specs.Works.{IsCaused}
use Rattle.live_session.specs.EntryStep.{entry_step}
use Rattle.live_session.specs.RunState.{RunState, Came, went, refused, faulted}
use Rattle.live_session.specs.Tweens.{with_values}
use Rattle.live_session.specs.declared.live.Live.{Live}

-- how many frames a script line may add
abbrev pub frames_of_entry : Entry → ℕ
frames_of_entry (entry.Line command) = frames_of command
frames_of_entry (entry.Tween node field from to ms curve) = 0
frames_of_entry entry.FocusNext = 0
frames_of_entry entry.FocusPrev = 0
frames_of_entry (entry.FocusOn node) = 0
frames_of_entry entry.FocusNone = 0
frames_of_entry entry.Press = 0
frames_of_entry entry.Cells = 0

-- the state that a frame is made in: the tweens' values are set
abbrev pub framed_from : RunState → SessionState
framed_from r = with_values r.session.time r.tweens r.session

-- layouts so far left these frames, and what is flagged in the run's session has a cause
abbrev pub IsLiveCaused : {V : Type 0} {D : V → Type 0} → Frames → RunState → Live V D → Type 0
IsLiveCaused frames r live = IsCaused frames r.session live.session

-- what is known of a run's session after a line, by what it came to; a frame with a fault ends the run
abbrev pub CausedAfter : {V : Type 0} {D : V → Type 0} → Frames → RunState → Came → Live V D → Type 0
CausedAfter frames r (went next text) live = IsLiveCaused (frames_then next.session.shown frames) next live
CausedAfter frames r (refused why) live = IsLiveCaused (frames_then r.session.shown frames) r live
CausedAfter frames r (faulted fault) live = Unit {0}

-- A line that came to this, which adds so many frames: what was known is known again, and for each frame it counted no more layouts and
-- paints than the work of the frame.
pub record CameGoesOn {V : Type 0} {D : V → Type 0} (frames : Frames) (r : RunState) (came : Came) (count : ℕ) (live : Live V D) (layouts_before layouts_after paints_before paints_after : ℕ) : Type 0 where
  pub caused : CausedAfter frames r came live
  pub layouts : layouts_after ≤ layouts_before + count * (frame_work frames (framed_from r)).layouts
  pub paints : paints_after ≤ paints_before + count * (frame_work frames (framed_from r)).paints

-- the same of a script line
abbrev pub EntryGoesOn : {V : Type 0} {D : V → Type 0} → Frames → RunState → Entry → Live V D → ℕ → ℕ → ℕ → ℕ → Type 0
EntryGoesOn frames r e live = CameGoesOn frames r (entry_step r e) (frames_of_entry e) live

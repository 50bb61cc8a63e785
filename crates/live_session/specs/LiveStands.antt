-- Which state of a run the program's session and what stands beside it stand for, and how the program names what a line comes to.
use Rattle.std.specs.Prelude.{◌≡◌, ℕ, true, false, List, []}
use Rattle.session_form.specs.FaultText.{fault_text}
use Rattle.frame_session.specs.Holds.{HoldsState, frames_shown}
use Rattle.live_session.specs.RunState.{RunState, Came, went, refused, faulted}
use Rattle.session_form.specs.declared.line_end.LineEnd.{LineEnd}
use Rattle.session_form.specs.declared.line_end.LineEnd.TheVariants as line_end
use Rattle.live_session.specs.declared.refusal.LineRefusal.TheVariants as refusal
use Rattle.live_session.specs.declared.live.Ended.{Ended}
use Rattle.live_session.specs.declared.live.Ended.TheVariants as ended
use Rattle.live_session.specs.declared.live.Live.{Live}
use Rattle.delegates.specs.Table.{Means}

pub record LiveStands {V : Type 0} {D : V → Type 0} (live : Live V D) (meaning : Means D) (r : RunState) : Type 0 where
  pub session : HoldsState live.session meaning r.session
  pub tweens : live.tickers ≡ r.tweens
  pub focus : live.focus ≡ r.focus
  pub grid : live.raster ≡ r.grid

-- Where a line leaves the run, by what it came to. A frame with a fault ends the run: the fields that its tweens set before stay set.
abbrev pub LiveLands : {V : Type 0} {D : V → Type 0} → Live V D → (Means D) → RunState → Came → Type 0
LiveLands live meaning r (went next text) = LiveStands live meaning next
LiveLands live meaning r (refused why) = LiveStands live meaning r
LiveLands live meaning r (faulted fault) = Unit {0}

-- want of memory has spent it
abbrev pub IsSpent : {V : Type 0} {D : V → Type 0} → Live V D → Type 0
IsSpent live = live.spent ≡ true

-- unless it is spent it stands for some state of a run
abbrev pub StandsSome : {V : Type 0} {D : V → Type 0} → Live V D → (Means D) → Type 0
StandsSome live meaning = live.spent ≡ false → (r : RunState) × LiveStands live meaning r

-- how many frames its session has shown
abbrev pub frames_in : {V : Type 0} {D : V → Type 0} → Live V D → ℕ
frames_in live = frames_shown live.session

abbrev pub text_of : Came → List ℕ
text_of (went r text) = text
text_of (refused why) = []
text_of (faulted fault) = fault_text fault

abbrev pub end_of : Came → Ended
end_of (went r text) = ended.Done
end_of (refused why) = ended.Refused why
end_of (faulted fault) = ended.Fault

-- how a command of the session ended
abbrev pub ended_by : LineEnd → Ended
ended_by line_end.Done = ended.Done
ended_by (line_end.Refused why) = ended.Refused (refusal.Command why)
ended_by (line_end.Fault fault) = ended.Fault

-- What starts a tween, and what ends it.
use Rattle.std.specs.Prelude.{◌≡◌, ℕ, ◌+◌, ◌≤◌, ◌⊎◌, List, ◌∷◌, ◌++◌}
use Rattle.script_lines.specs.declared.command.Command.{Command}
use Rattle.script_lines.specs.declared.command.Command.TheVariants as command
use Rattle.script_lines.specs.declared.entry.Entry.{Entry}
use Rattle.script_lines.specs.declared.entry.Entry.TheVariants as entry
use Rattle.tickers.specs.declared.tween.Tween.{Tween}
use Rattle.session_form.specs.Outcome as outcome
use Rattle.session_form.specs.State.{SessionState}
use Rattle.session_form.specs.Step.{step}
use Rattle.session_form.specs.declared.refusal.Refusal.{Refusal}
use Rattle.live_session.specs.RunState.{RunState}
use Rattle.live_session.specs.Tweens.{set_number, set_at, with_values}

-- a line starts it: a `tween` with its node, field, ends, time and curve, whose `set` is accepted; it starts at the present time
abbrev pub IsStarted : RunState → Entry → Tween → Type 0
IsStarted r (entry.Tween node field from to ms curve) t =
    (t ≡ record { node = node; field = field; from = from; to = to; start = r.session.time; ms = ms; curve = curve })
    × (s : SessionState) × (text : List ℕ) × (step r.session (set_number node field from) ≡ outcome.done s text)
IsStarted r _ t = ⊥

-- its `set` is refused at a time, after the values of the tweens before it are set: it is cancelled
pub record IsCancelled (now : ℕ) (s : SessionState) (tweens : List Tween) (t : Tween) : Type 0 where
  pub front : List Tween
  pub back : List Tween
  pub parts : tweens ≡ front ++ t ∷ back
  pub why : Refusal
  pub refused : step (with_values now front s) (set_at now t) ≡ outcome.refused why

-- at a frame: it is over by then, or is cancelled; no other command ends a tween
abbrev pub IsEndedBy : Command → RunState → Tween → Type 0
IsEndedBy command.Frame r t = (t.start + t.ms ≤ r.session.time) ⊎ IsCancelled r.session.time r.session r.tweens t
IsEndedBy _ r t = ⊥

-- by a line: also by `tween` of its field, which replaces it
abbrev pub IsEnded : Entry → RunState → Tween → Type 0
IsEnded (entry.Line command) r t = IsEndedBy command r t
IsEnded (entry.Tween node field from to ms curve) r t = (t.node ≡ node) × (t.field ≡ field)
IsEnded _ r t = ⊥

-- The line `tween`, and what tweens do at a frame, as lines `set`.
use Rattle.std.specs.Prelude.{ℕ, ℤ, Bool, true, false, List, [], ◌∷◌, map, if◌then◌else◌}
use Rattle.std.specs.Fmt.{signed_decimal}
use Rattle.script_lines.specs.declared.command.Command.{Command}
use Rattle.script_lines.specs.declared.command.Command.TheVariants as command
use Rattle.tickers.specs.Running.{is_full, started}
use Rattle.tickers.specs.Tween.{tween_value_of}
use Rattle.tickers.specs.declared.tween.Tween.{Tween}
use Rattle.session_form.specs.Outcome as outcome
use Rattle.session_form.specs.State.{SessionState}
use Rattle.session_form.specs.Step.{step}
use Rattle.live_session.specs.RunState.{RunState, Came, went, refused, faulted}
use Rattle.live_session.specs.declared.refusal.LineRefusal.TheVariants as refusal

-- `set #n FIELD V`, the value being a number
abbrev pub set_number : ℕ → List ℕ → ℤ → Command
set_number node field n = command.Set node field (signed_decimal n)

-- ---- `tween #n FIELD FROM TO MS CURVE`: it is `set #n FIELD FROM`, and where that is accepted the tween runs from then on

abbrev pub started_by : outcome.Outcome → Tween → RunState → Came
started_by (outcome.done s text) t r = went (record r { session = s; tweens = started t r.tweens }) text
started_by (outcome.refused why) t r = refused (refusal.Command why)
started_by (outcome.faulted fault) t r = faulted fault

abbrev pub tween_entry : Tween → RunState → Came
tween_entry t r =
    if is_full r.tweens t.node t.field then refused refusal.TooManyTweens
    else started_by (step r.session (set_number t.node t.field t.from)) t r

-- ---- at a frame: for each tween in order, `set` with its value at this time

abbrev pub set_at : ℕ → Tween → Command
set_at now t = set_number t.node t.field (tween_value_of t now)

-- The state after commands, one after another; one that is refused is left out. No `set` prints anything.
abbrev pub after_commands : SessionState → List Command → SessionState
after_commands s [] = s
after_commands s (c ∷ cs) = after_commands (outcome.state_after s (step s c)) cs

abbrev pub with_values : ℕ → List Tween → SessionState → SessionState
with_values now ts s = after_commands s (map (set_at now) ts)

-- whether a tween stays, by what its `set` comes to
abbrev pub stays : outcome.Outcome → Bool
stays (outcome.done s text) = true
stays (outcome.refused why) = false
stays (outcome.faulted fault) = true

-- a tween before others, unless its `set` is refused
abbrev pub kept_by : Bool → Tween → List Tween → List Tween
kept_by true t ts = t ∷ ts
kept_by false t ts = ts

-- the tweens that aren't cancelled: those whose `set`, after those before it, is accepted
abbrev pub tweens_kept : ℕ → SessionState → List Tween → List Tween
tweens_kept now s [] = []
tweens_kept now s (t ∷ ts) =
    kept_by (stays (step s (set_at now t))) t (tweens_kept now (outcome.state_after s (step s (set_at now t))) ts)

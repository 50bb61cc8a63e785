-- The lines of the focus.
use Rattle.std.specs.Prelude.{ℕ, Bool, ◌==◌, Option, Some, None, List, [], ◌++◌, codes, if◌then◌else◌}
use Rattle.std.specs.List.{list_any}
use Rattle.screen_form.specs.FocusOrder.{focus_order_of}
use Rattle.script_lines.specs.declared.command.Action.TheVariants as action
use Rattle.script_lines.specs.declared.command.Command.TheVariants as command
use Rattle.session_form.specs.EventText.{node_text}
use Rattle.session_form.specs.State.{Shown}
use Rattle.session_form.specs.Step.{step}
use Rattle.live_session.specs.RunState.{RunState, Came, went, refused, with_session}
use Rattle.live_session.specs.declared.refusal.LineRefusal.TheVariants as refusal

-- the numbers of the last frame's detectors that can have the focus, in the order of reading; before the first frame none can
abbrev pub order_in : Option Shown → List ℕ
order_in None = []
order_in (Some shown) = focus_order_of shown.laid

abbrev pub is_in : List ℕ → ℕ → Bool
is_in order number = list_any (λ n. n == number) order

-- after a frame: the focus stays exactly where its number is in the new order
abbrev pub focus_kept : List ℕ → Option ℕ → Option ℕ
focus_kept order None = None
focus_kept order (Some number) = if is_in order number then Some number else None

-- ---- `focus next`, `focus prev`, `focus #n` and `focus none` print the focus that they leave

abbrev pub focus_text : Option ℕ → List ℕ
focus_text None = codes "focus none\n"
focus_text (Some number) = codes "focus" ++ (node_text number ++ codes "\n")

abbrev pub focused : Option ℕ → RunState → Came
focused focus r = went (record r { focus = focus }) (focus_text focus)

abbrev pub focus_on : ℕ → RunState → Came
focus_on number r =
    if is_in (order_in r.session.shown) number then focused (Some number) r else refused refusal.NotFocusable

-- ---- `press`: it is `act #m tap` of the node that has the focus

abbrev pub pressed : Option ℕ → RunState → Came
pressed None r = refused refusal.NoFocus
pressed (Some number) r = with_session (step r.session (command.Act number action.Tap)) r

abbrev pub press_entry : RunState → Came
press_entry r = pressed r.focus r

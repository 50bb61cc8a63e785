-- The state of a run between two script lines, and what a line comes to.
use Rattle.std.specs.Prelude.{ℕ, Option, None, List, []}
use Rattle.cell_raster.specs.CellGrid.{CellGrid, no_grid}
use Rattle.delegates.specs.Table.{Plug}
use Rattle.build_form.specs.Step.{Fault}
use Rattle.program_check.specs.Checked.{PlainChecked}
use Rattle.tickers.specs.declared.tween.Tween.{Tween}
use Rattle.session_form.specs.Outcome as outcome
use Rattle.session_form.specs.State.{SessionState, first_state}
use Rattle.live_session.specs.declared.refusal.LineRefusal.{LineRefusal}
use Rattle.live_session.specs.declared.refusal.LineRefusal.TheVariants as refusal

-- That of its session, whose time is that of the last `at` that was accepted, and what stands beside it.
pub record RunState : Type 0 where
  pub session : SessionState
  -- the tweens that run, in order of start; one that replaced another stands in its place
  pub tweens : List Tween
  -- the number of the node that has the focus, if one has it
  pub focus : Option ℕ
  -- the cells that the last line `cells` drew; none before it
  pub grid : CellGrid

-- before the first script line
abbrev pub at_first : SessionState → RunState
at_first s = record { session = s; tweens = []; focus = None; grid = no_grid }

abbrev pub first_run : PlainChecked → List Plug → RunState
first_run c delegates = at_first (first_state c delegates)

-- What a line comes to. It is done: the next state, and the text that is printed. It is refused: the state stays, and nothing
-- is printed but that. Or a frame has a fault, which ends the run.
pub data Came : Type 0 where
  went : RunState → List ℕ → Came
  refused : LineRefusal → Came
  faulted : Fault → Came

-- the state after a line that was given in a state
abbrev pub state_after : RunState → Came → RunState
state_after before (went r text) = r
state_after before (refused why) = before
state_after before (faulted fault) = before

-- what a command of the session comes to, where what stands beside the session stays
abbrev pub with_session : outcome.Outcome → RunState → Came
with_session (outcome.done s text) r = went (record r { session = s }) text
with_session (outcome.refused why) r = refused (refusal.Command why)
with_session (outcome.faulted fault) r = faulted fault

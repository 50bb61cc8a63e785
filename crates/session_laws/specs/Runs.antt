-- The states of a run between its lines.
use Rattle.std.specs.Prelude.{IfSome, List, [], ◌∷◌, Contains}
use Rattle.delegates.specs.Table.{Plug}
use Rattle.program_check.specs.Checked.{PlainChecked}
use Rattle.script_lines.specs.declared.entry.Entry.{Entry}
use Rattle.live_session.specs.EntryStep.{entry_step}
use Rattle.live_session.specs.Focus.{order_in}
use Rattle.live_session.specs.RunState.{RunState, first_run, state_after}

-- the state after lines that are given one after another; a line that is refused, or whose frame has a fault, leaves it
abbrev pub after_lines : RunState → List Entry → RunState
after_lines r [] = r
after_lines r (entry ∷ entries) = after_lines (state_after r (entry_step r entry)) entries

-- the state of a run of a program, where these delegates were handed in, after these lines
abbrev pub run_after : PlainChecked → List Plug → List Entry → RunState
run_after c delegates entries = after_lines (first_run c delegates) entries

-- who has the focus in a run is one of those that can have it
abbrev pub HasFocus : RunState → Type 0
HasFocus r = IfSome r.focus (Contains (order_in r.session.shown))

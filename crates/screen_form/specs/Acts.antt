-- The node of a semantics tree with an id, and what an action of it does.
use Rattle.std.specs.Prelude.{ℕ, ◌==◌, Option, Some, None, Ok, Err, Result, if◌then◌else◌}
use Rattle.std.specs.Option.{option_or}
use Rattle.screen_form.specs.declared.act_fault.ActFault.{ActFault}
use Rattle.screen_form.specs.declared.act_fault.ActFault.TheVariants.{NoSemanticsNode, NoAction}
use Rattle.script_lines.specs.declared.command.Action.{Action}
use Rattle.script_lines.specs.declared.command.Action.TheVariants.{Tap, Long}
use Rattle.screen_form.specs.Sem.{Sem, sem, Sems, no_sems, more_sems}

-- the first node in preorder that has an id
abbrev mutual
  pub sem_at : ℕ → Sem → Option Sem
  sem_at wanted (sem id rect label button tap long children) =
      if id == wanted then Some (sem id rect label button tap long children) else sem_in wanted children

  pub sem_in : ℕ → Sems → Option Sem
  sem_in wanted no_sems = None
  sem_in wanted (more_sems s ss) = option_or (sem_at wanted s) (sem_in wanted ss)

-- the detector that does an action of a node
abbrev pub doer_of : Action → Sem → Option ℕ
doer_of Tap (sem id rect label button tap long children) = tap
doer_of Long (sem id rect label button tap long children) = long

abbrev pub or_no_action : Option ℕ → Result ℕ ActFault
or_no_action (Some number) = Ok number
or_no_action None = Err NoAction

abbrev pub done_by : Action → Option Sem → Result ℕ ActFault
done_by action (Some s) = or_no_action (doer_of action s)
done_by action None = Err NoSemanticsNode

-- the number of the detector that does an action of the node with an id; refused where there is no such node, and where
-- it hasn't the action
abbrev pub acted : Sem → ℕ → Action → Result ℕ ActFault
acted root id action = done_by action (sem_at id root)

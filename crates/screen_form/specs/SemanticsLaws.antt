-- What the laws of semantics speak of.
use Rattle.std.specs.Prelude.{ℕ, Bool, false, List, [], ◌∷◌, ◌++◌, if◌then◌else◌}
use Rattle.plain_tree.specs.Laid.{Laid, laid, Laids, no_laids, more_laids}
use Rattle.script_lines.specs.declared.command.Action.{Action}
use Rattle.script_lines.specs.declared.command.Action.TheVariants.{Tap, Long}
use Rattle.screen_form.specs.SemanticsRole.{SemanticsRole, hides, says, forms, merges, shown_role}
use Rattle.screen_form.specs.Sem.{Sem, sem, Sems, no_sems, more_sems}

-- the ids of a semantics tree in preorder
abbrev mutual
  pub ids_of : Sem → List ℕ
  ids_of (sem id rect label button tap long children) = id ∷ ids_in children

  pub ids_in : Sems → List ℕ
  ids_in no_sems = []
  ids_in (more_sems s ss) = ids_of s ++ ids_in ss

-- whether a kind does an action: a Detector that has a handler for it
abbrev pub does : Action → SemanticsRole → Bool
does action hides = false
does action (says label button) = false
does Tap (forms label button tap long) = tap
does Long (forms label button tap long) = long
does action merges = false

-- the numbers of the laid nodes that do an action, in preorder
abbrev mutual
  pub doers_of : Action → Laid → List ℕ
  doers_of action (laid number look facts children) = (if does action (shown_role look) then number ∷ [] else []) ++ doers_in action children

  pub doers_in : Action → Laids → List ℕ
  doers_in action no_laids = []
  doers_in action (more_laids at l ls) = doers_of action l ++ doers_in action ls

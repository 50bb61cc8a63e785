use Rattle.std.proofs.Common.{◌≡◌, map, take}
use Rattle.program_form.specs.declared.programs.Component.{Component}
use Rattle.frame_run.proofs.program.names_of.Given as goal

abbrev pub invariant-loop-component : goal.invariant-loop-component
invariant-loop-component l = l.names.items ≡ map (λ (c : Component). c.name) (take l.component-index l.components)

use Rattle.std.proofs.Common.{◌≡◌, map, drop, length, []}
use Rattle.std.specs.Vec.Iter.{into_iter_items}
use Rattle.program_form.specs.declared.programs.Component.{Component}
use Rattle.program_form.specs.ProgramView.{plain_component as component_written}
use Rattle.program_check.specs.DeclView.{HaveDecls}
use Rattle.program_check.specs.ProgramCheck.{checked_components}
use Rattle.program_check.proofs.ProgramLemmas.{left_to_check}
use Rattle.program_check.proofs.programs.check_components.Given as goal

-- the components that are left, and their names
abbrev pub invariant-loop-component : goal.invariant-loop-component
invariant-loop-component l =
    let left = into_iter_items l.component-iterator in
    left_to_check l.inherited (checked_components l.inherited [] (map component_written (into_iter_items l.initial.component-iterator))) left l.checked.items
    × (drop (length l.checked.items) l.names ≡ map (λ (c : Component). c.name) left)
    × HaveDecls (length l.inherited) l.checked.items

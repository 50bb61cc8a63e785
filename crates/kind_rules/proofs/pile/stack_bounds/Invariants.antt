use Rattle.std.proofs.Common.{◌≡◌, ◌++◌, map, drop}
use Rattle.layout_form.specs.StackRule.{stack_child, position_of}
use Rattle.kind_rules.proofs.pile.stack_bounds.Given as goal

abbrev pub invariant-loop-d : goal.invariant-loop-d
invariant-loop-d l =
    l.bounds.items ++ map (λ d. stack_child l.inner l.size (position_of d.placed)) (drop l.d-index l.told)
    ≡ map (λ d. stack_child l.inner l.size (position_of d.placed)) l.told

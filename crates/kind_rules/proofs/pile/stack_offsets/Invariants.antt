use Rattle.std.proofs.Common.{◌≡◌, ◌++◌, drop}
use Rattle.layout_form.specs.StackRule.{stack_offsets}
use Rattle.kind_rules.proofs.pile.stack_offsets.Given as goal

abbrev pub invariant-loop-i : goal.invariant-loop-i
invariant-loop-i l =
    l.offsets.items ++ stack_offsets l.at.ax l.at.ay l.stack (drop l.i l.told) (drop l.i l.sizes)
    ≡ stack_offsets l.at.ax l.at.ay l.stack l.told l.sizes

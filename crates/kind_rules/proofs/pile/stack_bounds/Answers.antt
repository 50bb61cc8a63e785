use Rattle.std.proofs.Common.{map, refl, ap, ◌∙◌}
use Rattle.plain_tree.specs.declared.render.ParentData.{ParentData}
use Rattle.layout_form.specs.StackRule.{stack_child, position_of}
use Rattle.kind_rules.proofs.Loops.{fills_start, fills_over, maps_on}
use Rattle.kind_rules.proofs.pile.stack_bounds.Goals as goal

pub loop-d-init : goal.loop-d-init
loop-d-init c = fills_start (map (λ (d : ParentData). stack_child c.args.inner c.args.size (position_of d.placed))) c.args.told.now _ c.in_ok-bounds.ensures.items

pub loop-d-preserved : goal.loop-d-preserved
loop-d-preserved c =
    maps_on (λ (d : ParentData). stack_child c.args.inner c.args.size (position_of d.placed)) c.args.told.now c.loop-d.d-index _ _ c.loop-d.bounds.items _ _ c.loop-d-test.true c.in_ok-push.ensures.items
    (c.stack_child.ensures ∙ ap (stack_child c.args.inner c.args.size) c.position_of.ensures) c.loop-d.invariant

pub returns : goal.returns
returns c =
    fills_over (map (λ (d : ParentData). stack_child c.args.inner c.args.size (position_of d.placed))) c.args.told.now c.loop-d.d-index c.loop-d.bounds.items _ refl c.loop-d-test.false c.loop-d.invariant

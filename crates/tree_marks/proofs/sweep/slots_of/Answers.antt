use Rattle.std.proofs.Common.{◌∙◌, get_or, ap, arith, false}
use Rattle.std.proofs.lemmas.List.{take_all}
use Rattle.node_tree.specs.Trims.{in_slot}
use Rattle.tree_marks.proofs.SweepSlots.{no_slots, slots-more}
use Rattle.tree_marks.proofs.sweep.slots_of.Goals as goal

pub loop-h-init : goal.loop-h-init
loop-h-init c = λ i. ap (λ xs. get_or xs i false) (c.in_ok-slots.ensures.items_if_clones_equal (λ y e. e)) ∙ no_slots c.end_of-end.result i

pub loop-h-preserved : goal.loop-h-preserved
loop-h-preserved c =
    slots-more c.loop-h.slots.items c.args.hs.now c.loop-h.h-index (record { index = 0; generation = 0 }) c.loop-h-test.true (omega (arith, c.if-index-len.false, c.len.ensures, c.loop-h.slots.ok)) c.loop-h.invariant

pub returns : goal.returns
returns c = λ i. c.loop-h.invariant i ∙ ap (λ hs. in_slot hs i) (take_all c.loop-h.h-index c.args.hs.now (omega (arith, c.loop-h-test.false)))

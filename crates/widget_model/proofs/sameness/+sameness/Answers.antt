use Rattle.std.proofs.Common.{◌<◌, arith, refl, length}
use Rattle.widget_model.specs.Parts.{parts_in}
use Rattle.widget_model.proofs.Telling.{heads_differ, parts_differ, part_decides, part_fewer}
use Rattle.widget_model.proofs.sameness.+sameness.Goals as goal

pub same-returns-then-not-same_head : goal.same-returns-then-not-same_head
same-returns-then-not-same_head t c =
    heads_differ c.loop-left.left.now c.loop-left.right.now _ c.loop-left.invariant.0 c.if-not-same_head.ensures

pub same-returns-then-not-same_but : goal.same-returns-then-not-same_but
same-returns-then-not-same_but t c =
    parts_differ c.loop-left.left.now c.loop-left.right.now _ c.loop-left.invariant.0 c.heaviest_part-heaviest.result c.if-not-same_but.ensures

pub same-loop-left-smaller : goal.same-loop-left-smaller
same-loop-left-smaller t c = part_fewer c.loop-left.left.now c.part-left.result.now c.heaviest_part-heaviest.result c.heaviest_part-heaviest.ensures c.part-left.ensures

pub same-loop-left-preserved : goal.same-loop-left-preserved
same-loop-left-preserved t c =
    let l = c.loop-left.left.now in
    let r = c.loop-left.right.now in
    let here =
    part_decides l r c.part-left.result.now c.part-right.result.now c.heaviest_part-heaviest.result (c.if-not-same_head.ensures.0 refl)
    (c.if-not-same_but.ensures.0 refl) c.heaviest_part-heaviest.ensures c.part-left.ensures c.part-right.ensures in
    let fewer = part_fewer l c.part-left.result.now c.heaviest_part-heaviest.result c.heaviest_part-heaviest.ensures c.part-left.ensures in (
      (λ same. c.loop-left.invariant.0.0 (here.0 same), λ same. here.1 (c.loop-left.invariant.0.1 same)),
      omega (arith, fewer, c.loop-left.invariant.1),
    )

pub same_but-same-requires : goal.same_but-same-requires
same_but-same-requires t c =
    let within : c.loop-i.i < length (parts_in c.args.a.now) = omega (arith, c.loop-i-test.true, c.part_count-i-end.ensures) in
    (omega (arith, part_fewer c.args.a.now c.part.result.now c.loop-i.i within c.part.ensures), tt)

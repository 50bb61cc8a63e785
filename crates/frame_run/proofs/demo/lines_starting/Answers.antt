use Rattle.std.proofs.Common.{◌∙◌, ap, ◌+◌, arith}
use Rattle.frame_run.proofs.DemoLemmas.{count_end, count_more, count-none}
use Rattle.frame_run.proofs.demo.lines_starting.Goals as goal
use Rattle.frame_run.proofs.demo.lines_starting.Goals.{then-byte-eq10, else-byte-eq10}

pub loop-i-preserved : goal.loop-i-preserved
loop-i-preserved c =
    elim c.if-byte-eq10.branch [
      | then-byte-eq10 w ↦ (
        omega arith,
        omega arith,
        count_end c.args.word.now c.args.text.now c.loop-i.start c.loop-i.i c.loop-i.count _ _ _ (omega arith) w.if-byte-eq10.true w.start-is
            (w.count-is ∙ ap (λ n. c.loop-i.count + n) w.starts-count.ensures.value) c.loop-i.invariant.2,
      )
      | else-byte-eq10 w ↦ (
        omega arith,
        omega arith,
        count_more c.args.word.now c.args.text.now c.loop-i.start c.loop-i.i c.loop-i.count _ _ _ c.loop-i.invariant.0 (omega arith) w.if-byte-eq10.false
            w.start-is w.count-is c.loop-i.invariant.2,
      )
    ]

pub returns : goal.returns
returns c = count-none c.args.word.now c.args.text.now c.loop-i.start c.loop-i.i c.loop-i.count (omega arith) c.loop-i.invariant.2

use Rattle.std.proofs.Common.{◌∙◌, arith}
use Rattle.frame_run.proofs.DemoLemmas.{push_line}
use Rattle.frame_run.proofs.demo.push_lines.Goals as goal

pub loop-k-preserved : goal.loop-k-preserved
loop-k-preserved c = (
  omega arith,
  push_line c.args.size c.loop-k.x _ c.loop-k._k _ c.loop-k.out.items _ c.as_bytes.result.now (omega arith) (c.as_bytes.ensures.value ∙ c.in_ok-line.ensures)
      c.in_ok-extend_from_slice.ensures.items c.next_number-x.ensures.value c.loop-k.invariant.1,
)

use Rattle.std.proofs.Common.{rules, arith}
use Rattle.draw_records.proofs.StretchLemmas.{stretch_more}
use Rattle.draw_records.proofs.quote.push_parts.Goals as goal

pub loop-at-preserved-then-is_plain : goal.loop-at-preserved-then-is_plain
loop-at-preserved-then-is_plain c =
    let l = c.loop-at in (
      omega (arith, l.invariant.0),
      stretch_more l.out.items c.as_bytes-bytes.result.now _ l.from l.at l.invariant.0 (search rules) (c.is_plain.ensures (search rules)) l.invariant.1,
      l.invariant.2,
    )

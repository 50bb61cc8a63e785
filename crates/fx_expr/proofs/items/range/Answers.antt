use Rattle.std.proofs.Common.{pos, arith, w64}
use Rattle.std.proofs.lemmas.Int.{to_z-of_z, ints}
use Rattle.std.proofs.lemmas.List.FromFn.{map-range_with_len_more}
use mir.Val.{SFits}
use Rattle.fx_expr.proofs.items.range.Goals as goal

pub loop-i-preserved : goal.loop-i-preserved
loop-i-preserved c =
    let more = map-range_with_len_more pos 0 c.loop-i.i c.loop-i.i (omega arith) in
    let number = c.from.ensures in
    let fits : SFits w64 c.from.result = rw number (omega (arith, ints)) in
    let pushed = rw to_z-of_z at c.in_ok-push.ensures.items in
    cc

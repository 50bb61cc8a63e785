use Rattle.fx_expr.proofs.Cuts.{cut_text-at}
use Rattle.fx_expr.proofs.text.Txt.joined.Goals as goal

pub returns : goal.returns
returns c =
    let kept = c.floor_char_boundary-kept.ensures in
    let cut = cut_text-at c.as_str-2.result.now c.floor_char_boundary-kept.result kept.bound kept.boundary kept.nearest in
    let pushed = c.in_ok-push_str.ensures.bytes in
    let truncated = c.truncate.ensures.bytes in
    cc

use Rattle.std.proofs.Common.{◌∙◌, Some, ap, arith}
use Rattle.gesture_arena.proofs.Whole.{member_read, member_passed}
use Rattle.gesture_arena.proofs.calls.member_at.Goals as goal

pub returns-then-left-count : goal.returns-then-left-count
returns-then-left-count c =
    ap Some c.member.ensures
    ∙ member_read c.args.held.now c.loop-h.h-index c.loop-h.left c.args.index c.h-item.result c.index.result.now (omega arith) c.h-item.is (omega arith)
    c.index.ensures c.loop-h.invariant

pub loop-h-preserved : goal.loop-h-preserved
loop-h-preserved c =
    member_passed c.args.held.now c.loop-h.h-index c.loop-h.left c.args.index c.len-count.result c.h-item.result (omega arith) c.h-item.is (omega arith)
    (omega arith) c.loop-h.invariant

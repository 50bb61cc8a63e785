use Rattle.std.proofs.Common.{drop, arith}
use Rattle.layout_form.specs.Frames.{others_by}
use Rattle.kind_rules.proofs.Loops.{fills_over}
use Rattle.kind_rules.proofs.Lists.{others_end}
use Rattle.kind_rules.proofs.asking.others.Goals as goal

pub returns : goal.returns
returns g c =
    let left = drop c.loop-i.i c.args.bounds.now in
    fills_over (others_by left) (g.F.Family.frames c.args.family) c.loop-i.i c.loop-i.asks.items _ (others_end left) (omega (arith, c.loop-i-test.false, c.answers-i-end.ensures))
    c.loop-i.invariant.same

use Rattle.std.proofs.Common.{◌∙◌}
use Rattle.std.proofs.lemmas.Result.{IfOk-weaker}
use Rattle.build_owner.proofs.Fresh.{lone_anew}
use Rattle.build_owner.proofs.arriving.fresh_arrivals.Goals as goal

pub returns-then-widgets-eq1 : goal.returns-then-widgets-eq1
returns-then-widgets-eq1 c =
    IfOk-weaker c.lone_arrival.result _ _
    (λ v is. is ∙ lone_anew c.args.widgets.now c.index-widgets-0.result c.if-widgets-eq1.true c.index-widgets-0.is)
    c.lone_arrival.ensures

pub returns : goal.returns
returns c = c.in_ok-arrivals.ensures

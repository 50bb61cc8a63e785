use Rattle.std.proofs.Common.{[], ◌∷◌, ◌++◌}
use Rattle.std.proofs.lemmas.Result.{on_ok_weaker}
use Rattle.frame_run.specs.InputLine.{HoldsLine}
use Rattle.frame_run.proofs.WentLemmas.{on_ok}
use Rattle.frame_run.proofs.stage.Job.push.Goals as goal

pub returns-clause-stands : goal.returns-clause-stands
returns-clause-stands g c place raw stands =
    on_ok_weaker c.push-2.result
    (λ (line : HoldsLine c.push-2.new.self (raw ++ c.args.byte ∷ [])). (c.in_ok-push.ensures.stands place raw stands.0, line))
    (c.push-2.ensures.holds raw stands.1)

pub returns-clause-causes : goal.returns-clause-causes
returns-clause-causes g c frames place caused = on_ok c.push-2.result _ (c.in_ok-push.ensures.causes frames place caused)

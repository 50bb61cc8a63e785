use Rattle.std.proofs.Common.{◌≡◌, false, subst}
use Rattle.std.specs.Result.{OnOk}
use Rattle.layout_owner.proofs.Renewing.{not_spent}
use Rattle.layout_owner.proofs.root.admit.Goals as goal

pub returns-in-Ok-clause-ready : goal.returns-in-Ok-clause-ready
returns-in-Ok-clause-ready c =
    subst (λ r. OnOk r (c.args.r.now.spent ≡ false)) c.in-Ok.is (not_spent c.renew.result c.args.r.now.spent c.renew.ensures.refused)

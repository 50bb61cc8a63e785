use Rattle.std.proofs.Common.{sym, ap, ◌∙◌}
use Rattle.global_keys.specs.Holders.{was_met}
use Rattle.global_keys.proofs.Naming.{takes}
use Rattle.global_keys.proofs.laws.claims_take_holders.Goals as goal

pub returns : goal.returns
returns c = λ r t k w h names unmet. takes r t k w h names (λ x e. sym (ap was_met e) ∙ unmet)

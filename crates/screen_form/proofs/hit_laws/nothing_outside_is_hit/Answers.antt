use Rattle.screen_form.proofs.HitOrders.{nothing}
use Rattle.screen_form.proofs.hit_laws.nothing_outside_is_hit.Goals as goal

pub returns : goal.returns
returns c = nothing

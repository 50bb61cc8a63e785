use Rattle.screen_form.proofs.HitOrders.{order, once}
use Rattle.screen_form.proofs.hit_laws.hit_paths_keep_order.Goals as goal

pub returns : goal.returns
returns c = record { order = order; once = once }

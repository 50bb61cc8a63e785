use Rattle.global_keys.proofs.Recorded.{none_recorded, nothing_there}
use Rattle.global_keys.proofs.registry.Registry.is_empty.Goals as goal

pub returns : goal.returns
returns c =
    let es = c.self.inside.holders.entries in
    rw (← c.self.view_is) (λ on. none_recorded es (c.is_empty.ensures.0 on), λ none. c.is_empty.ensures.1 (nothing_there es none))

use Rattle.std.proofs.Common.{Some}
use Rattle.global_keys.specs.Holders.{new_holder}
use Rattle.global_keys.proofs.Recorded.{updated}
use Rattle.global_keys.proofs.registry.Registry.note.Goals as goal

pub returns-clause-notes : goal.returns-clause-notes
returns-clause-notes c = λ k. rw (← c.self.view_is) (updated c.self.inside.holders c.insert.new.self c.args.key (Some (new_holder c.args.h)) c.in_ok-insert.ensures.updates k)

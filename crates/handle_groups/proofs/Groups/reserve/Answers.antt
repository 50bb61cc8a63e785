use Rattle.std.proofs.Common.{◌∙◌}
use Rattle.handle_groups.proofs.Entries.{stands-same}
use Rattle.handle_groups.proofs.Groups.reserve.Goals as goal

pub returns-in_err-cover-clause-same : goal.returns-in_err-cover-clause-same
returns-in_err-cover-clause-same c = rw (← c.self.view_is) (λ n k. stands-same c.self.inside.groups.entries c.cover.new.groups.entries n k (c.cover.ensures n))

pub returns-clause-same : goal.returns-clause-same
returns-clause-same c = rw (← c.self.view_is) (λ n k. stands-same c.self.inside.groups.entries c.widen.new.groups.entries n k (c.widen.ensures.same n ∙ c.cover.ensures n))

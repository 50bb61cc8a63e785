use Rattle.std.proofs.Common.{ap, ◌∙◌}
use Rattle.kept_layers.specs.Steps.{is_listed}
use Rattle.paint_owner.proofs.Dropped.{listed_old, listed_own}
use Rattle.paint_owner.proofs.boundary_shelf.list.Goals as goal

pub returns-clause-old : goal.returns-clause-old
returns-clause-old c = λ k e. ap (is_listed k) c.in_ok-push.ensures.items ∙ listed_old k c.args.h c.args.handles.now.items e

pub returns-clause-own : goal.returns-clause-own
returns-clause-own c = λ known. ap (is_listed c.args.h) c.in_ok-push.ensures.items ∙ listed_own c.args.h c.args.handles.now.items

use Rattle.std.proofs.Common.{◌∙◌, ap, zero-add, sum}
use Rattle.fx_geom.specs.Len.{stopped}
use Rattle.fx_geom.proofs.Totals.{fold-stops}
use Rattle.fx_geom.proofs.laws.sums_stop_once.Goals as goal

pub returns-clause-folded : goal.returns-clause-folded
returns-clause-folded c lengths = fold-stops 0 lengths ∙ ap stopped (zero-add (sum lengths))

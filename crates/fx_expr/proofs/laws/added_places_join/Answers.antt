use Rattle.fx_expr.specs.PlaceLaws.{adds_two}
use Rattle.fx_expr.proofs.laws.added_places_join.Goals as goal

pub returns : goal.returns
returns c = adds_two

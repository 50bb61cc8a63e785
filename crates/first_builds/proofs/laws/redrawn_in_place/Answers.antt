use Rattle.first_builds.proofs.InPlace.{redrawn_in_place}
use Rattle.first_builds.proofs.laws.redrawn_in_place.Goals as goal

pub returns : goal.returns
returns c = λ r d f is made root. redrawn_in_place r d f is made root

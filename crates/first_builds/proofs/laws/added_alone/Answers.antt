use Rattle.first_builds.proofs.Scattering.{scattered_adds}
use Rattle.first_builds.proofs.laws.added_alone.Goals as goal

pub returns : goal.returns
returns c = λ old new q i h v adds. scattered_adds old new q i h v adds

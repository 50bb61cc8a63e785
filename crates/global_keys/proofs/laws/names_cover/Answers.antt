use Rattle.global_keys.proofs.Naming.{cover}
use Rattle.global_keys.proofs.laws.names_cover.Goals as goal

pub returns : goal.returns
returns c = cover

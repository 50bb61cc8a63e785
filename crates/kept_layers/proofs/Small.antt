-- Small trees, computed.
use Rattle.std.proofs.Common.{refl}
use Rattle.kept_layers.specs.Worked.{Works}

pub works : Works
works = record { group = refl; whole = refl; order = refl; count = refl }
